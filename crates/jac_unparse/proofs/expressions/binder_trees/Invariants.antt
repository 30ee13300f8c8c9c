use Rattle.std.proofs.Common.{◌≡◌}
use Rattle.jac_lang.specs.Mirror.{binders_of}
use Rattle.jac_tree.specs.Mirror.{plain_all}
use Rattle.jac_tree.specs.Plain.{onto}
use Rattle.jac_unparse.specs.TreeOf.{trees_of_binders}
use Rattle.jac_unparse.proofs.expressions.binder_trees.Given as goal

-- The trees so far in reverse order, followed by those of the rest, are all trees.
abbrev pub invariant-binders : goal.invariant-binders
invariant-binders l = onto (plain_all l.back) (trees_of_binders (binders_of l.left)) ≡ trees_of_binders (binders_of l.binders)
