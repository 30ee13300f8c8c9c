use Rattle.std.proofs.Common.{◌≡◌}
use Rattle.jac_lang.specs.Mirror.{binders_of}
use Rattle.jac_lang.specs.Turned.{turned_round}
use Rattle.jac_tree.specs.Mirror.{plain_all}
use Rattle.jac_forms.specs.Places.{path_of}
use Rattle.jac_forms.specs.Reads.{read_map}
use Rattle.jac_forms.specs.Expressions.{binders_in_trees}
use Rattle.jac_forms.proofs.queries.read_each.Given as goal

-- The binders so far, followed by those of the rest, are all binders.
abbrev pub invariant-binders : goal.invariant-binders
invariant-binders l =
    read_map (turned_round (binders_of l.back)) (binders_in_trees (path_of l.fn.place) l.number (plain_all l.left))
    ≡ binders_in_trees (path_of l.fn.place) 0 (plain_all l.trees)
