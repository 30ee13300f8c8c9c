use Rattle.std.proofs.Common.{◌≡◌}
use Rattle.std.specs.List.{list_all}
use Rattle.jac_value.specs.Parts.{parts_left, option_now, length_left}
use Rattle.jac_value.specs.Paths.{is_segment, segments}
use Rattle.jac_value.proofs.paths.are_segments.Given as goal

-- All parts that are left are segments exactly if all parts of the path are.
abbrev pub invariant-segments : goal.invariant-segments
invariant-segments l = list_all is_segment (parts_left 47 (option_now l.left)) ≡ list_all is_segment (segments l.path)

abbrev pub decreases-segments : goal.decreases-segments
decreases-segments l = length_left (option_now l.left)
