use Rattle.std.proofs.Common.{◌∙◌, ap, slice_get, List}
use Rattle.jac_lang.specs.declared.schema.ModelDef.{ModelDef}
use Rattle.jac_lang.specs.Mirror.{entities_of}
use Rattle.jac_resolve.proofs.Standing.{model_got}
use Rattle.jac_resolve.proofs.permission.model_at.Goals as goal

pub returns : goal.returns
returns c =
    model_got c.as_slice.result.now c.from.result c.get.result c.get.ensures.lookup.3
    ∙ ap (λ (ms : List ModelDef). slice_get (entities_of ms) c.from.result) c.as_slice.ensures.models
    ∙ ap (slice_get (entities_of c.args.models.now)) c.from.ensures
