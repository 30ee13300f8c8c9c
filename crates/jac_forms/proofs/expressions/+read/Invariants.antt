use Rattle.std.proofs.Common.{◌≡◌, ◌≤◌}
use Rattle.jac_tree.specs.declared.tree.Trees.{size-Trees}
use Rattle.jac_tree.specs.Mirror.{plain_all}
use Rattle.jac_lang.specs.Mirror.{expressions_of}
use Rattle.jac_lang.specs.Turned.{turned_onto}
use Rattle.jac_forms.specs.Expressions.{expressions_in_trees}
use Rattle.jac_forms.specs.Places.{path_of}
use Rattle.jac_forms.specs.Reads.{read_map}
use Rattle.jac_forms.proofs.expressions.+read.Given as goal

-- The parts so far, followed by those of the rest, are all parts.
abbrev pub invariant-read_parts-parts : goal.invariant-read_parts-parts
invariant-read_parts-parts l = record {
  no_deeper : size-Trees l.left ≤ size-Trees l.operands;
  made :
      read_map (turned_onto (expressions_of l.back)) (expressions_in_trees (path_of l.fn.place) l.number (plain_all l.left))
      ≡ expressions_in_trees (path_of l.fn.place) 1 (plain_all l.operands);
}
