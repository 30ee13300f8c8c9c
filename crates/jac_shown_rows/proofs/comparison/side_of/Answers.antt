use Rattle.std.proofs.Common.{ap, ◌++◌, [], ◌∷◌}
use Rattle.std.proofs.lemmas.Bool.{and_parts}
use Rattle.jac_lang.specs.Mirror.{expression_of}
use Rattle.jac_plain.specs.Expressions.{binding, mean, two}
use Rattle.jac_shown_rows.proofs.comparison.side_of.Goals as goal

pub returns-in-Some : goal.returns-in-Some
returns-in-Some c =
    record {
      means = λ w same env u o. ap (two o (mean w (expression_of c.args.x.now) (env ++ binding c.args.name.now u ∷ []))) (c.in-Some.ensures.means w same env u);
      local = λ v h. c.in-Some.ensures.local v (and_parts _ _ h).1;
      within = c.in-Some.ensures.within;
    }

pub returns-in-Some-field_of_name : goal.returns-in-Some-field_of_name
returns-in-Some-field_of_name c =
    record {
      means = λ w same env u o. ap (λ x. two o x (mean w (expression_of c.args.y.now) (env ++ binding c.args.name.now u ∷ []))) (c.in-Some-field_of_name.ensures.means w same env u);
      local = λ v h. c.in-Some-field_of_name.ensures.local v (and_parts _ _ h).0;
      within = c.in-Some-field_of_name.ensures.within;
    }
