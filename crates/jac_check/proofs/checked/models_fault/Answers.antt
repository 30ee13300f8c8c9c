use Rattle.std.proofs.Common.{rules, ◌≡◌, refl, List, [], take, None}
use Rattle.jac_lang.specs.Mirror.{application_of, entity_of, entities_of}
use Rattle.jac_lang.specs.Syntax.{Entity}
use Rattle.jac_check.specs.declared.fault.Place.TheVariants as places
use Rattle.jac_check.specs.Causes.{fault_at}
use Rattle.jac_check.specs.Applications.{model_fault, models_fault}
use Rattle.jac_check.proofs.Walked.{walked-more}
use Rattle.jac_check.proofs.checked.models_fault.Goals as goal

pub loop-i-preserved : goal.loop-i-preserved
loop-i-preserved c =
    let app = application_of c.args.app.now in
    let test : List Entity → Entity → _ = λ earlier m. fault_at app.models (places.Model m.name) (model_fault app earlier m) in
    let passes : None ≡ test (entities_of (take c.loop-i.i c.args.models.now)) (entity_of c.index-models-i.result) = search rules in
    walked-more entity_of entities_of refl (λ _ _. refl) test (models_fault app) (λ _ _ _. refl) c.args.models.now
    c.index-models-i.result c.loop-i.i (models_fault app [] (entities_of c.args.models.now)) c.index-models-i.is c.loop-i-test.true passes c.loop-i.invariant
