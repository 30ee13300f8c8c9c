use Rattle.std.proofs.Common.{◌∙◌, ap, List}
use Rattle.jac_lang.specs.declared.schema.ModelDef.{ModelDef}
use Rattle.jac_lang.specs.Lookup.{model_place}
use Rattle.jac_lang.specs.Mirror.{entities_of}
use Rattle.jac_lang.proofs.Places.{model-place}
use Rattle.jac_lang.proofs.lookups.place_of.Goals as goal

pub returns-in-Some-clause-place : goal.returns-in-Some-clause-place
returns-in-Some-clause-place c =
    c.in-Some.ensures.place ∙ model-place c.as_slice-models.result.now c.args.name.now
    ∙ ap (λ (ms : List ModelDef). model_place (entities_of ms) c.args.name.now) c.as_slice-models.ensures.models

pub returns-in-None-clause-place : goal.returns-in-None-clause-place
returns-in-None-clause-place c =
    c.in-None.ensures.place ∙ model-place c.as_slice-models.result.now c.args.name.now
    ∙ ap (λ (ms : List ModelDef). model_place (entities_of ms) c.args.name.now) c.as_slice-models.ensures.models
