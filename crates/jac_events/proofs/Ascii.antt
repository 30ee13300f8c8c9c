-- Words of ASCII classes are ASCII, so they are UTF-8.
use Rattle.std.proofs.Common.{◌≡◌, ℕ, ◌<◌, Bool, true, false, List, arith, refl}
use Rattle.std.specs.List.{list_all}
use Rattle.std.specs.Char.{is_ascii_uppercase}
use Rattle.std.specs.Str.{IsAscii}
use Rattle.std.proofs.lemmas.Bool.Decides.{nat_tests}
use Rattle.jac_value.proofs.Ascii.{ascii_at}

pub not_true : (b : Bool) → (b ≡ true → ⊥) → false ≡ b
not_true true h = absurd (h refl)
not_true false h = refl

small_upper_case : (c : ℕ) → is_ascii_uppercase c ≡ true → c < 128
small_upper_case c h = grind (arith, nat_tests)

pub IsAscii-upper_case : (bytes : List ℕ) → list_all is_ascii_uppercase bytes ≡ true → IsAscii bytes
IsAscii-upper_case bytes h = ascii_at is_ascii_uppercase small_upper_case bytes h
