use Rattle.std.proofs.Common.{◌≡◌, ◌≤◌}
use Rattle.jac_lang.specs.Mirror.{statements_of}
use Rattle.jac_tree.specs.declared.tree.Trees.{size-Trees}
use Rattle.jac_tree.specs.Mirror.{plain_all}
use Rattle.jac_forms.specs.Places.{path_of}
use Rattle.jac_forms.specs.Statements.{statements_in_trees}
use Rattle.jac_forms.proofs.Bodies.{gathered}
use Rattle.jac_forms.proofs.statements.+read.Given as goal

-- The statements so far, followed by those of the rest, are all statements.
abbrev pub invariant-read_stmts-statements : goal.invariant-read_stmts-statements
invariant-read_stmts-statements l = record {
  no_deeper : size-Trees l.left ≤ size-Trees l.trees;
  made :
      gathered (statements_of l.back) (path_of l.fn.place) l.number (plain_all l.left) l.sites
      ≡ statements_in_trees (path_of l.fn.place) l.fn.first (plain_all l.trees) l.fn.sites;
}
