use Rattle.std.proofs.Common.{◌∙◌, ap, List}
use Rattle.jac_lang.specs.Syntax.{FieldGroup}
use Rattle.jac_lang.specs.Lookup.{group_place}
use Rattle.jac_lang.proofs.Places.{group-place}
use Rattle.jac_lang.proofs.lookups.group_for_name.Goals as goal

pub returns-in-Some : goal.returns-in-Some
returns-in-Some c =
    c.in-Some.ensures.place ∙ group-place c.groups_of_model-groups.result.now c.args.name.now
    ∙ ap (λ (gs : List FieldGroup). group_place gs c.args.name.now) c.groups_of_model-groups.ensures.groups

pub returns-in-None : goal.returns-in-None
returns-in-None c =
    c.in-None.ensures.place ∙ group-place c.groups_of_model-groups.result.now c.args.name.now
    ∙ ap (λ (gs : List FieldGroup). group_place gs c.args.name.now) c.groups_of_model-groups.ensures.groups
