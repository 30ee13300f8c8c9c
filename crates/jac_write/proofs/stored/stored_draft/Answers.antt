use Rattle.std.proofs.Common.{◌∙◌, sym}
use Rattle.jac_lang.specs.Mirror.{entities_of}
use Rattle.jac_write.specs.Drafts.{named_by}
use Rattle.jac_write.specs.Writes.{cells_at}
use Rattle.jac_write.proofs.DraftLaws.{cell_stored, stored_done}
use Rattle.jac_write.proofs.stored.stored_draft.Goals as goal

pub fields-preserved : goal.fields-preserved
fields-preserved g c = (
  c.in_ok-stored-2.ensures.own,
  λ w.
      cell_stored (entities_of c.args.subject.now.app.now.models) w c.args.subject.now.model c.args.subject.now.id (named_by (entities_of c.args.subject.now.app.now.models) c.args.subject.now.model w c.args.named) c.args.draft.now.cells c.index-cells-field.result c.in_ok-cell.cell
      c.fields.field c.fields.stored.items c.as_slice.result.now c.in_ok-stored-2.stored.items (rw c.as_slice-cells.ensures at c.index-cells-field.is)
      (rw c.as_slice-cells.ensures at c.fields-test.true) c.as_slice.ensures.value (c.in_ok-cell.ensures w) (c.in_ok-stored-2.ensures.shown w)
      ∙ c.fields.invariant.1 w,
)

pub returns-clause-shown : goal.returns-clause-shown
returns-clause-shown g c w =
    sym (stored_done (entities_of c.args.subject.now.app.now.models) w c.args.subject.now.model c.args.subject.now.id (named_by (entities_of c.args.subject.now.app.now.models) c.args.subject.now.model w c.args.named) c.args.draft.now.cells c.fields.field (cells_at w c.fields.stored.items)
    (rw c.as_slice-cells.ensures at c.fields-test.false))
    ∙ c.fields.invariant.1 w
