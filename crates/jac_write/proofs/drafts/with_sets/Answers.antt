use Rattle.std.proofs.Common.{◌∙◌, sym}
use Rattle.jac_lang.specs.Lookup.{fields_at}
use Rattle.jac_lang.specs.Mirror.{entities_of}
use Rattle.jac_write.specs.Writes.{cells_at}
use Rattle.jac_write.proofs.DraftLaws.{set_put, sets_done}
use Rattle.jac_write.proofs.drafts.with_sets.Goals as goal

pub sets-preserved : goal.sets-preserved
sets-preserved g c = (
  c.in_ok-drafts.ensures.own,
  λ w.
      let models = entities_of c.args.subject.now.app.now.models in
      set_put models (fields_at models c.args.subject.now.model) w c.args.sets.now c.set-item.result c.sets.set-index c.sets.drafts.items c.as_slice-rows.result.now c.in_ok-drafts.drafts.items
      c.set-item.is c.sets-test.true c.as_slice-rows.ensures.value (c.in_ok-drafts.ensures.shown w)
      ∙ c.sets.invariant.1 w,
)

pub returns-clause-shown : goal.returns-clause-shown
returns-clause-shown g c w =
    let models = entities_of c.args.subject.now.app.now.models in
    sym (sets_done models (fields_at models c.args.subject.now.model) w c.args.sets.now c.sets.set-index (cells_at w c.sets.drafts.items) c.sets-test.false) ∙ c.sets.invariant.1 w
