use Rattle.std.proofs.Common.{◌∙◌, ap, sym, Some, None, option_copied}
use Rattle.jac_plain.specs.Records.{expression_for, guards_in}
use Rattle.jac_write.proofs.SchemaLaws.{group_there}
use Rattle.jac_write.proofs.schema.expression_at.Goals as goal

pub returns-in-Some : goal.returns-in-Some
returns-in-Some c =
    c.expression_named.ensures
    ∙ ap (λ o. expression_for c.args.name.now (guards_in o))
    (sym (group_there c.args.groups.now c.args.place (Some c.in-Some.group.now) (sym c.group_at.ensures ∙ ap option_copied c.in-Some.is)))

pub returns-in-None : goal.returns-in-None
returns-in-None c =
    ap (λ o. expression_for c.args.name.now (guards_in o)) (sym (group_there c.args.groups.now c.args.place None (sym c.group_at.ensures ∙ ap option_copied c.in-None.is)))
