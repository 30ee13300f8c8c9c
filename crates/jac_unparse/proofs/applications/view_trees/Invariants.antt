use Rattle.std.proofs.Common.{◌≡◌, drop}
use Rattle.jac_lang.specs.Mirror.{pages_of}
use Rattle.jac_tree.specs.Mirror.{plain_all}
use Rattle.jac_tree.specs.Plain.{onto}
use Rattle.jac_unparse.specs.TreeOf.{trees_of_pages}
use Rattle.jac_unparse.proofs.applications.view_trees.Given as goal

-- The trees so far in reverse order, followed by those of the rest, are all trees.
abbrev pub invariant-views : goal.invariant-views
invariant-views l = onto (plain_all l.back) (trees_of_pages (pages_of (drop l.view-index l.views))) ≡ trees_of_pages (pages_of l.views)
