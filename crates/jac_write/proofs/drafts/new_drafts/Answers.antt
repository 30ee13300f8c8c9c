use Rattle.std.proofs.Common.{◌∙◌, sym, arith, ◌<◌, ◌≤◌, length}
use Rattle.jac_lang.specs.Lookup.{fields_at}
use Rattle.jac_lang.specs.Mirror.{entities_of}
use Rattle.jac_write.specs.Writes.{cells_at}
use Rattle.jac_write.proofs.DraftLaws.{draft_pushed, draft_done}
use Rattle.jac_write.proofs.drafts.new_drafts.Goals as goal

pub fields-preserved : goal.fields-preserved
fields-preserved g c = (
  c.in_ok-drafts-2.ensures.own,
  λ w.
      let models = entities_of c.args.subject.now.app.now.models in
      let below : c.fields.field < length c.args.cells.now = omega (arith, c.fields-test.true, c.field_count-field-end.ensures, c.requires.each_field) in
      draft_pushed models (fields_at models c.args.subject.now.model) w c.args.cells.now c.index-cells-from.result c.fields.field c.fields.drafts.items c.as_slice-rows.result.now
      c.in_ok-drafts-2.drafts.items (rw c.from.ensures at c.index-cells-from.is) below c.as_slice-rows.ensures.value (c.in_ok-drafts-2.ensures.shown w)
      ∙ c.fields.invariant.1 w,
)

pub returns-clause-shown : goal.returns-clause-shown
returns-clause-shown g c w =
    let models = entities_of c.args.subject.now.app.now.models in
    let past : length c.args.cells.now ≤ c.fields.field = omega (arith, c.fields-test.false, c.field_count-field-end.ensures, c.requires.each_field) in
    sym (draft_done models (fields_at models c.args.subject.now.model) w c.args.cells.now c.fields.field (cells_at w c.fields.drafts.items) past) ∙ c.fields.invariant.1 w
