use Rattle.std.proofs.Common.{◌≡◌, ◌∙◌, ap, sym, refl, ℕ, suc, ◌+◌, ◌-◌, ◌==◌, not, cond, Bool, true, false, nat_lt, Some, None, List, [], ◌∷◌, length, take, drop, arith}
use borrow.Author.Tests.{ltb-true}
use Rattle.std.specs.List.{slice_split, onto_first, position, position_or_len, prefix_len}
use Rattle.std.proofs.lemmas.List.Splits.{slice_split_first}
use Rattle.std.proofs.lemmas.List.Sums.{prefix_len-le-length}
use Rattle.std.proofs.lemmas.Bool.Decides.{nat_tests}
use Rattle.std.proofs.lemmas.List.{take_all, length-drop}
use Rattle.jac_value.proofs.parts.first_part.Goals as goal

-- If no element passes the test, the list is one part.
whole : (p : ℕ → Bool) (xs : List ℕ) → prefix_len (λ x. not (p x)) xs ≡ length xs → slice_split p xs ≡ xs ∷ []
whole p [] h = refl
whole p (x ∷ xs) h =
    elim (p x) as (λ b. cond (not b) (1 + prefix_len (λ y. not (p y)) xs) 0 ≡ suc (length xs) → cond b ([] ∷ slice_split p xs) (onto_first x (slice_split p xs)) ≡ (x ∷ xs) ∷ [])
    [ true ↦ λ e. absurd (omega (arith, e)) | false ↦ λ e. ap (onto_first x) (whole p xs (omega (arith, e))) ] h

place_found : (b : Bool) (n i : ℕ) → cond b (Some n) None ≡ Some i → (b ≡ true) × (n ≡ i)
place_found true n i h = (refl, cc)
place_found false n i h = cc

place_missing : (b : Bool) (n : ℕ) → cond b (Some n) None ≡ None → b ≡ false
place_missing true n h = cc
place_missing false n h = refl

cut_at : (p : ℕ → Bool) (xs : List ℕ) (i : ℕ) → position p xs ≡ Some i → slice_split p xs ≡ take i xs ∷ slice_split p (take (length xs - (i + 1)) (drop (i + 1) xs))
cut_at p xs i h =
    let found = place_found _ _ _ h in
    let all = take_all (length xs - (i + 1)) (drop (i + 1) xs) (simp length-drop (omega arith)) in
    slice_split_first p xs 0 (ltb-true _ _ found.0)
    ∙ ap (λ (n : ℕ). take n xs ∷ slice_split p (drop (n + 1) xs)) found.1
    ∙ ap (λ (rest : List ℕ). take i xs ∷ slice_split p rest) (sym all)

not_cut : (p : ℕ → Bool) (xs : List ℕ) → position p xs ≡ None → slice_split p xs ≡ xs ∷ []
not_cut p xs h =
    let missing : nat_lt (position_or_len p xs) (length xs) ≡ false = place_missing _ _ h in
    let most = prefix_len-le-length (λ x. not (p x)) xs in
    whole p xs (grind (arith, nat_tests))

pub returns-in-Some-clause-parts : goal.returns-in-Some-clause-parts
returns-in-Some-clause-parts c =
    let p : ℕ → Bool = λ b. b == c.args.separator in
    cut_at p c.args.bytes.now c.in-Some.at (sym c.in-Some.ensures.place)

pub returns-in-None-clause-parts : goal.returns-in-None-clause-parts
returns-in-None-clause-parts c =
    let p : ℕ → Bool = λ b. b == c.args.separator in
    not_cut p c.args.bytes.now (sym c.in-None.ensures.place)
