-- From a tree of the program to a plain tree.
use Rattle.jac_tree.specs.declared.tree.Tree.{Tree}
use Rattle.jac_tree.specs.declared.tree.Tree.TheVariants as trees
use Rattle.jac_tree.specs.declared.tree.Trees.{Trees, End, More'}
use Rattle.jac_tree.specs.Plain.{PlainTree, PlainTrees}

abbrev mutual
  pub plain : Tree → PlainTree
  plain (trees.Atom a) = PlainTree.atom a
  plain (trees.Text x) = PlainTree.text x
  plain (trees.List ts) = PlainTree.list (plain_all ts)

  pub plain_all : Trees → PlainTrees
  plain_all End = PlainTrees.none
  plain_all (More' p first q rest) = PlainTrees.more (plain first) (plain_all rest)
