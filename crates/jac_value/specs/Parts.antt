-- The parts of a list of bytes that one byte separates.
use Rattle.std.specs.Prelude.{ℕ, ◌==◌, ◌+◌, length, Option, Some, None, List, []}
use Rattle.std.specs.List.{slice_split}
use denote.Ref.{Bor}

abbrev pub option_now : Option (Bor (List ℕ)) → Option (List ℕ)
option_now None = None
option_now (Some bytes) = Some bytes.now

-- The parts of the bytes that are left. There are none if nothing is left.
abbrev pub parts_left : ℕ → Option (List ℕ) → List (List ℕ)
parts_left separator None = []
parts_left separator (Some bytes) = slice_split (λ b. b == separator) bytes

-- One more than the number of bytes that are left, or 0 if nothing is left.
abbrev pub length_left : Option (List ℕ) → ℕ
length_left None = 0
length_left (Some bytes) = length bytes + 1
