use Rattle.std.proofs.Common.{◌≡◌, ◌+◌, vec_len}
use Rattle.jac_tree.specs.Mirror.{plain_all}
use Rattle.jac_forms.specs.Applications.{field_in_tree}
use Rattle.jac_forms.specs.Names.{each_in_trees}
use Rattle.jac_forms.specs.Places.{path_of}
use Rattle.jac_forms.proofs.Made.{made_before}
use Rattle.jac_forms.proofs.fields.read_each.Given as goal
use Rattle.jac_tree.specs.Plain.{count}

-- The fields so far, followed by those of the rest, are all fields.
abbrev pub invariant-fields : goal.invariant-fields
invariant-fields l = record {
  count : vec_len l.fields + count (plain_all l.left) ≡ count (plain_all l.trees);
  made :
      made_before l.fields.items (each_in_trees (field_in_tree l.fn.want) (path_of l.fn.place) l.number (plain_all l.left))
      ≡ each_in_trees (field_in_tree l.fn.want) (path_of l.fn.place) 1 (plain_all l.trees);
}
