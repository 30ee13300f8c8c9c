-- Words of ASCII classes are ASCII, so they are UTF-8.
use Rattle.std.proofs.Common.{◌≡◌, ℕ, zero, suc, ◌<◌, Bool, true, List, [], ◌∷◌, arith}
use Rattle.std.specs.List.{list_all, slice_index}
use Rattle.std.specs.Char.{is_ascii_digit}
use Rattle.std.specs.Str.{IsAscii}
use Rattle.std.proofs.lemmas.Bool.{and_parts}
use Rattle.std.proofs.lemmas.Bool.Decides.{nat_tests}

-- Each byte is ASCII if all of them pass a test that only ASCII passes.
pub ascii_at : (p : ℕ → Bool) → ((c : ℕ) → p c ≡ true → c < 128) → (bytes : List ℕ) → list_all p bytes ≡ true → (i : ℕ)
    → slice_index bytes i < 128
ascii_at p small [] h i = omega arith
ascii_at p small (c ∷ cs) h zero = small c (and_parts _ _ h).0
ascii_at p small (c ∷ cs) h (suc i) = ascii_at p small cs (and_parts _ _ h).1 i

small_digit : (c : ℕ) → is_ascii_digit c ≡ true → c < 128
small_digit c h = grind (arith, nat_tests)

pub IsAscii-digits : (bytes : List ℕ) → list_all is_ascii_digit bytes ≡ true → IsAscii bytes
IsAscii-digits bytes h = ascii_at is_ascii_digit small_digit bytes h
