use Rattle.std.proofs.Common.{◌≡◌, refl, sym, false, unwrap_or, slice_get}
use Rattle.std.specs.Bool.{beq}
use Rattle.jac_value.specs.Ids.{is_narrow}
use Rattle.jac_sqlkeep.proofs.Rows.{stored_row_is}
use Rattle.jac_sqlkeep.proofs.stored.stored_row.Goals as goal

pub returns : goal.returns
returns c =
    let width : beq (is_narrow c.in-Some.id) (unwrap_or (slice_get c.args.shape.now.nested c.args.model) false) ≡ false = rw (c.is_narrow_id.ensures, c.is_nested.ensures) at c.if-is_narrow_id-is_nested.false in
    stored_row_is c.args.shape.now.kinds c.args.shape.now.nested c.args.number c.args.model c.args.values.now c.in-Some.id c.in_ok-jid.jid.now c.in-Some-kinds_of.kinds.now c.in_ok-jid.ensures c.in-Some.ensures.id (sym c.in-Some-kinds_of.ensures)
    (c.if-not-is_numbered.ensures refl) width c.row_in.result c.row_in.ensures
