use Rattle.std.proofs.Common.{◌≡◌, drop}
use Rattle.jac_tree.specs.Mirror.{plain_all}
use Rattle.jac_tree.specs.Plain.{onto}
use Rattle.jac_unparse.specs.TreeOf.{trees_of_fields}
use Rattle.jac_unparse.proofs.applications.field_trees.Given as goal

-- The trees so far in reverse order, followed by those of the rest, are all trees.
abbrev pub invariant-fields : goal.invariant-fields
invariant-fields l = onto (plain_all l.back) (trees_of_fields (drop l.field-index l.fields)) ≡ trees_of_fields l.fields
