-- The sites of creates, in rising order. Each is different from the others, and one of 64.
use Rattle.std.proofs.Common.{◌≡◌, refl, arith, ℕ, ◌+◌, ◌<◌, ◌≤◌, ◌==◌, ◌&&◌, ◌||◌, not, nat_le, nat_lt, Bool, true, false, if◌then◌else◌, List, [], ◌∷◌, ◌++◌, None}
use Rattle.std.specs.Prelude.{is_some}
use Rattle.std.proofs.lemmas.Bool.{and_parts, and_from}
use Rattle.std.proofs.lemmas.Bool.Decides.{nat_tests}
use Rattle.jac_plain.specs.Making.{is_among, are_apart}
use Rattle.jac_app_load.specs.Served.{behind_sites}

abbrev pub Rise : ℕ → List ℕ → Type 0
Rise next xs = is_some (behind_sites next xs) ≡ true

record RiseParts (next site : ℕ) (xs : List ℕ) : Type 0 where
  least : next ≤ site
  below : nat_lt site 64 ≡ true
  rest : Rise (site + 1) xs

rise_parts : (next site : ℕ) (xs : List ℕ) (least below : Bool) → nat_le next site ≡ least → nat_lt site 64 ≡ below
    → is_some (if least && below then behind_sites (site + 1) xs else None) ≡ true → RiseParts next site xs
rise_parts next site xs true true e f h = record { least = grind (arith, nat_tests, e); below = f; rest = h }
rise_parts next site xs true false e f h = cc
rise_parts next site xs false below e f h = cc

rises : (next site : ℕ) (xs : List ℕ) → Rise next (site ∷ xs) → RiseParts next site xs
rises next site xs h = rise_parts next site xs (nat_le next site) (nat_lt site 64) refl refl h

another : (x site : ℕ) → site < x → (x == site) ≡ false
another x site less = grind (arith, nat_tests, less)

neither_one : (a b : Bool) → a ≡ false → b ≡ false → (a || b) ≡ false
neither_one true b h g = cc
neither_one false b h g = g

-- A lesser site isn't among them.
lesser : (next site : ℕ) (xs : List ℕ) → site < next → Rise next xs → is_among site xs ≡ false
lesser next site [] less h = refl
lesser next site (x ∷ xs) less h =
    let parts = rises next x xs h in
    neither_one (x == site) (is_among site xs) (another x site (omega (arith, less, parts.least))) (lesser (x + 1) site xs (omega (arith, less, parts.least)) parts.rest)

both : (a b : Bool) → a ≡ false → b ≡ true → (not a && b) ≡ true
both true b h g = cc
both false b h g = g

-- Sites in rising order are pairwise different.
pub apart : (next : ℕ) (xs : List ℕ) → Rise next xs → are_apart xs ≡ true
apart next [] h = refl
apart next (x ∷ xs) h =
    let parts = rises next x xs h in
    both (is_among x xs) (are_apart xs) (lesser (x + 1) x xs (omega arith) parts.rest) (apart (x + 1) xs parts.rest)

abbrev pub are_below : List ℕ → Bool
are_below [] = true
are_below (x ∷ xs) = nat_lt x 64 && are_below xs

pub below : (next : ℕ) (xs : List ℕ) → Rise next xs → are_below xs ≡ true
below next [] h = refl
below next (x ∷ xs) h =
    let parts = rises next x xs h in
    and_from (nat_lt x 64) (are_below xs) parts.below (below (x + 1) xs parts.rest)

below_first : (xs ys : List ℕ) → are_below (xs ++ ys) ≡ true → are_below xs ≡ true
below_first [] ys h = refl
below_first (x ∷ xs) ys h =
    let parts = and_parts (nat_lt x 64) (are_below (xs ++ ys)) h in
    and_from (nat_lt x 64) (are_below xs) parts.0 (below_first xs ys parts.1)

below_second : (xs ys : List ℕ) → are_below (xs ++ ys) ≡ true → are_below ys ≡ true
below_second [] ys h = h
below_second (x ∷ xs) ys h = below_second xs ys (and_parts (nat_lt x 64) (are_below (xs ++ ys)) h).1

pub below_parts : (xs ys : List ℕ) → are_below (xs ++ ys) ≡ true → (are_below xs ≡ true) × (are_below ys ≡ true)
below_parts xs ys h = (below_first xs ys h, below_second xs ys h)
