use Rattle.jac_lang.specs.Mirror.{application_of}
use Rattle.jac_lang.proofs.Places.{length-entities}
use Rattle.jac_app_load.proofs.application.open_routed.Goals as goal

pub new-requires-clause-served : goal.new-requires-clause-served
new-requires-clause-served c = c.well_is_served.ensures (application_of c.args.checked) c.requires.sited c.app-app.ensures.well

pub new-requires-clause-schema : goal.new-requires-clause-schema
new-requires-clause-schema c =
    c.schema_of_well.ensures (application_of c.args.checked) c.app-app.ensures.well
    (rw (length-entities c.args.checked.models, ← c.app-app.ensures.app) c.as_slice-models.ensures.few)
    c.requires.models
