-- The first word of a line.
use Rattle.std.specs.Prelude.{ℕ, ◌+◌, ◌==◌, Option, List, take, drop, position}
use Rattle.std.specs.Option.{option_map}

-- The word before the first space, and what follows that space.
abbrev pub first_word : List ℕ → Option (List ℕ × List ℕ)
first_word line = option_map (λ i. (take i line, drop (i + 1) line)) (position (λ b. b == 32) line)
