use Rattle.std.proofs.Common.{◌≡◌}
use Rattle.jac_value.specs.Parts.{parts_left, option_now, length_left}
use Rattle.jac_value.specs.Paths.{names_in, segments}
use Rattle.jac_check.specs.Applications.{path_fault}
use Rattle.jac_check.proofs.paths.path_fault.Given as goal

-- The names so far are parameters.
abbrev pub invariant-segments : goal.invariant-segments
invariant-segments l = path_fault l.params (names_in (parts_left 47 (option_now l.left))) ≡ path_fault l.params (names_in (segments l.path))

abbrev pub decreases-segments : goal.decreases-segments
decreases-segments l = length_left (option_now l.left)
