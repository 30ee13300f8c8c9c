-- Which bytes are escaped between quotes.
use Rattle.std.specs.Prelude.{ℕ, Bool, ◌==◌, ◌&&◌, ◌||◌, not, nat_le}

-- A quote, a backslash, and each byte that is neither visible ASCII nor a space.
abbrev pub has_escape : ℕ → Bool
has_escape b = not (nat_le 32 b && nat_le b 126) || b == 34 || b == 92
