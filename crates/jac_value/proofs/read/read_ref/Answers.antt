use Rattle.std.proofs.Common.{◌≡◌, false, ap, sym, ◌∙◌}
use Rattle.jac_value.specs.Values.{ref_read, starts_with_plus}
use Rattle.jac_value.proofs.Parsed.{ref-number, ref-none}
use Rattle.jac_value.proofs.read.read_ref.Goals as goal

pub returns-in-Ok : goal.returns-in-Ok
returns-in-Ok c =
    let bare : starts_with_plus c.as_str.result.now ≡ false = ap starts_with_plus c.as_str.ensures ∙ sym c.if-has_plus.ensures in
    c.id_where.ensures ∙ ref-number c.args.model c.in-Ok.number c.as_str.result.now bare c.in-Ok.ensures.value.0.0.0 c.in-Ok.ensures.value.0.1 ∙ ap (ref_read c.args.model) c.as_str.ensures

pub returns-in-Err : goal.returns-in-Err
returns-in-Err c =
    let bare : starts_with_plus c.as_str.result.now ≡ false = ap starts_with_plus c.as_str.ensures ∙ sym c.if-has_plus.ensures in
    ref-none c.args.model c.as_str.result.now bare c.in-Err.ensures.value.0 ∙ ap (ref_read c.args.model) c.as_str.ensures
