-- A number of many digits, cut off at a limit.
use Rattle.std.proofs.Common.{◌≡◌, ◌∙◌, ap, sym, ℕ, ◌+◌, ◌*◌, ◌≤◌, ◌<◌, ◌&&◌, Bool, true, false, get_or, length, drop, min, List, [], ◌∷◌, arith}
use Rattle.std.specs.Char.{is_ascii_digit, digit_value}
use Rattle.std.specs.List.{list_all}
use Rattle.std.proofs.lemmas.List.{drop_more}
use Rattle.std.specs.Str.Parse.{digits_value_after}

scaled : (n m d : ℕ) → min 65537 n ≡ min 65537 m → min 65537 (n * 10 + d) ≡ min 65537 (m * 10 + d)
scaled n m d e = grind arith

-- If two numbers are equal after the limit is applied, they still are with more digits.
pub capped : (n m : ℕ) (ds : List ℕ) → min 65537 n ≡ min 65537 m → min 65537 (digits_value_after 10 n ds) ≡ min 65537 (digits_value_after 10 m ds)
capped n m [] e = e
capped n m (d ∷ ds) e = capped (n * 10 + digit_value d) (m * 10 + digit_value d) ds (scaled n m (digit_value d) e)

twice : (n : ℕ) → min 65537 (min 65537 n) ≡ min 65537 n
twice n = grind arith

pub capped_once : (n : ℕ) (ds : List ℕ) → min 65537 (digits_value_after 10 (min 65537 n) ds) ≡ min 65537 (digits_value_after 10 n ds)
capped_once n ds = capped (min 65537 n) n ds (twice n)

rest_of_all : (b c : Bool) → (b && c) ≡ true → c ≡ true
rest_of_all true c e = e
rest_of_all false c e = cc

-- One digit further.
pub digit_step : (xs : List ℕ) (i n next : ℕ) → i < length xs → list_all is_ascii_digit (drop i xs) ≡ true → next ≡ min 65537 (n * 10 + digit_value (get_or xs i 0))
    → (next ≤ 65537) × (list_all is_ascii_digit (drop (i + 1) xs) ≡ true)
    × (min 65537 (digits_value_after 10 next (drop (i + 1) xs)) ≡ min 65537 (digits_value_after 10 n (drop i xs)))
digit_step xs i n next l all e =
    let here = drop_more xs i 0 l in (
      grind (arith, e),
      rest_of_all (is_ascii_digit (get_or xs i 0)) _ (sym (ap (list_all is_ascii_digit) here) ∙ all),
      rw (e, here) (capped_once (n * 10 + digit_value (get_or xs i 0)) (drop (i + 1) xs)),
    )
