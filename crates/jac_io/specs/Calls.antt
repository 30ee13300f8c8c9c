-- Whether a list contains the number of a call.
use Rattle.std.specs.Prelude.{ℕ, List, [], ◌∷◌, Bool, true, false, ◌==◌, if◌then◌else◌}

-- Whether the list contains this call number.
abbrev pub is_listed : ℕ → List ℕ → Bool
is_listed number [] = false
is_listed number (call ∷ calls) = if call == number then true else is_listed number calls
