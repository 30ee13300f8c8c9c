use Rattle.std.proofs.Common.{◌≡◌, ◌+◌, vec_len}
use Rattle.jac_lang.specs.Mirror.{groups_of}
use Rattle.jac_tree.specs.Mirror.{plain_all}
use Rattle.jac_forms.specs.Applications.{group_in_tree}
use Rattle.jac_forms.specs.Names.{each_in_trees}
use Rattle.jac_forms.specs.Places.{path_of}
use Rattle.jac_forms.proofs.Made.{made_before}
use Rattle.jac_forms.proofs.models.read_groups.Given as goal
use Rattle.jac_tree.specs.Plain.{count}

-- The groups so far, followed by those of the rest, are all groups.
abbrev pub invariant-groups : goal.invariant-groups
invariant-groups l = record {
  count : vec_len l.groups + count (plain_all l.left) ≡ count (plain_all l.trees);
  made :
      made_before (groups_of l.groups.items) (each_in_trees group_in_tree (path_of l.fn.place) l.number (plain_all l.left))
      ≡ each_in_trees group_in_tree (path_of l.fn.place) l.fn.first (plain_all l.trees);
}
