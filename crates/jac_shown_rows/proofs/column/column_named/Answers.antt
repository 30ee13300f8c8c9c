use Rattle.std.proofs.Common.{◌∙◌, ap, sym}
use Rattle.jac_lang.specs.Lookup.{model_place}
use Rattle.jac_plain.specs.World.{got_of}
use Rattle.jac_shown_rows.proofs.column.column_named.Goals as goal

pub returns-in-Some-clause-got : goal.returns-in-Some-clause-got
returns-in-Some-clause-got c w same v =
    c.column_in.ensures.got w same v
    ∙ ap (λ p. got_of w p c.args.field.now v) (c.in-Some.ensures.place ∙ ap (λ ms. model_place ms c.args.model.now) (sym same))

pub returns-in-None-clause-got : goal.returns-in-None-clause-got
returns-in-None-clause-got c w same v =
    ap (λ p. got_of w p c.args.field.now v) (c.in-None.ensures.place ∙ ap (λ ms. model_place ms c.args.model.now) (sym same))
