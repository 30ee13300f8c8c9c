use Rattle.std.proofs.Common.{◌≡◌}
use Rattle.jac_lang.specs.Mirror.{assigned_of}
use Rattle.jac_lang.specs.Turned.{turned_round}
use Rattle.jac_tree.specs.Mirror.{plain_all}
use Rattle.jac_forms.specs.Names.{each_in_trees}
use Rattle.jac_forms.specs.Places.{path_of}
use Rattle.jac_forms.specs.Reads.{read_map}
use Rattle.jac_forms.specs.Statements.{assigned_in_tree}
use Rattle.jac_forms.proofs.assigned.read_assigned.Given as goal

-- The fields so far, followed by those of the rest, are all fields.
abbrev pub invariant-fields : goal.invariant-fields
invariant-fields l =
    read_map (turned_round (assigned_of l.back)) (each_in_trees (assigned_in_tree l.fn.want) (path_of l.fn.place) l.number (plain_all l.left))
    ≡ each_in_trees (assigned_in_tree l.fn.want) (path_of l.fn.place) 1 (plain_all l.trees)
