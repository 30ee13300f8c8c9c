use Rattle.std.proofs.Common.{◌≤◌}
use Rattle.jac_tree.specs.declared.tree.Trees.{size-Trees}
use Rattle.jac_tree.proofs.+tree.Given as goal

abbrev pub invariant-tree::Trees::drop-loop-self : goal.invariant-tree::Trees::drop-loop-self
invariant-tree::Trees::drop-loop-self l = size-Trees l.self ≤ size-Trees l.initial.self
