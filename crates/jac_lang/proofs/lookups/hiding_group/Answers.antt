use Rattle.std.proofs.Common.{◌∙◌, ap}
use Rattle.jac_lang.specs.Lookup.{hiding_place}
use Rattle.jac_lang.proofs.Places.{hiding_seen}
use Rattle.jac_lang.proofs.lookups.hiding_group.Goals as goal

pub returns-in-Some : goal.returns-in-Some
returns-in-Some c = c.in-Some.ensures.place ∙ (hiding_seen c.groups_of_model-groups.result.now ∙ ap hiding_place c.groups_of_model-groups.ensures.groups)

pub returns-in-None : goal.returns-in-None
returns-in-None c = c.in-None.ensures.place ∙ (hiding_seen c.groups_of_model-groups.result.now ∙ ap hiding_place c.groups_of_model-groups.ensures.groups)
