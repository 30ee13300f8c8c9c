use Rattle.std.proofs.Common.{◌≡◌, ◌≤◌}
use Rattle.jac_lang.specs.declared.expressions.Exprs.{size-Exprs}
use Rattle.jac_lang.specs.Mirror.{expressions_of}
use Rattle.jac_check.specs.Verdict.{◌before◌}
use Rattle.jac_check.specs.Expressions.{parts_inside, parts_kinds}
use Rattle.jac_check.specs.Mirror.{fault_of, scope_of}
use Rattle.jac_check.proofs.expressions.+judge.Given as goal

-- Inside the parts so far there is no fault. A wrong kind of a part so far comes before those of
-- the rest.
abbrev pub invariant-judge_cat-parts : goal.invariant-judge_cat-parts
invariant-judge_cat-parts l = record {
  no_deeper : size-Exprs l.left ≤ size-Exprs l.parts;
  inside : parts_inside (scope_of l.scope) (expressions_of l.left) ≡ parts_inside (scope_of l.scope) (expressions_of l.parts);
  kinds : (fault_of l.texts before parts_kinds (scope_of l.scope) (expressions_of l.left)) ≡ parts_kinds (scope_of l.scope) (expressions_of l.parts);
}
