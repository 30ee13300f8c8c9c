-- The first place of a byte.
use Rattle.std.proofs.Common.{◌≡◌, ap, sym, refl, ℕ, ◌≤◌, Bool, true, false, cond, nat_lt, Some, None, List, length, take, arith}
use Rattle.std.specs.List.{position, position_or_len, before_first}
use Rattle.std.proofs.lemmas.List.{take_all}
use Rattle.std.proofs.lemmas.Bool.Decides.{nat_tests}

place_found : (b : Bool) (n i : ℕ) → Some i ≡ cond b (Some n) None → n ≡ i
place_found true n i h = cc
place_found false n i h = cc

place_missing : (b : Bool) (n : ℕ) → None ≡ cond b (Some n) None → b ≡ false
place_missing true n h = cc
place_missing false n h = refl

pub before_found : (p : ℕ → Bool) (xs : List ℕ) (i : ℕ) → Some i ≡ position p xs → take i xs ≡ before_first p xs
before_found p xs i h = ap (λ (n : ℕ). take n xs) (sym (place_found _ _ i h))

pub before_missing : (p : ℕ → Bool) (xs : List ℕ) → None ≡ position p xs → xs ≡ before_first p xs
before_missing p xs h =
    let missing : nat_lt (position_or_len p xs) (length xs) ≡ false = place_missing _ (position_or_len p xs) h in
    let past : length xs ≤ position_or_len p xs = grind (arith, nat_tests) in
    sym (take_all (position_or_len p xs) xs past)
