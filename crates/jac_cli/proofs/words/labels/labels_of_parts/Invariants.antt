use Rattle.std.proofs.Common.{◌≡◌, ◌==◌, ◌++◌}
use Rattle.std.specs.Option.{option_map}
use Rattle.std.specs.List.{slice_split}
use Rattle.jac_value.specs.Parts.{parts_left, option_now, length_left}
use Rattle.jac_cli.specs.Words.{labels_of_parts}
use Rattle.jac_cli.proofs.words.labels.labels_of_parts.Given as goal

-- The labels so far, followed by those of the parts that are left, are the result.
abbrev pub invariant-parts : goal.invariant-parts
invariant-parts l =
    option_map (λ labels. l.labels.items ++ labels) (labels_of_parts (parts_left 44 (option_now l.left)))
    ≡ labels_of_parts (slice_split (λ b. b == 44) l.word)

abbrev pub decreases-parts : goal.decreases-parts
decreases-parts l = length_left (option_now l.left)
