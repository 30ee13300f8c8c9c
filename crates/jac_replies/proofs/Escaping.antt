-- Bytes up to the first that is escaped are copied as they are.
use Rattle.std.proofs.Common.{◌≡◌, ◌∙◌, ap, sym, subst, refl, ℕ, suc, ◌-◌, ◌+◌, ◌<◌, ◌≤◌, not, nat_lt, cond, Bool, true, false, Some, None, List, [], ◌∷◌, ◌++◌, length, take, drop, get_or, append_assoc, append-nil, arith}
use Rattle.std.specs.List.{position, position_or_len}
use Rattle.std.proofs.lemmas.List.{drop_more, drop_all, take_all, take_rest}
use Rattle.std.proofs.lemmas.List.Sums.{passes_at_first}
use Rattle.std.proofs.lemmas.Bool.Decides.{nat_tests}
use Rattle.jac_value.specs.Quoted.{all_escaped, escaped_byte}
use Rattle.jac_replies.specs.Escapes.{has_escape}

-- A byte that isn't escaped.
plain_byte : (b : ℕ) → has_escape b ≡ false → escaped_byte b ≡ b ∷ []
plain_byte b h = grind (arith, nat_tests)

-- The bytes before the first that is escaped, and the others.
pub to_first : (xs : List ℕ) → all_escaped xs ≡ take (position_or_len has_escape xs) xs ++ all_escaped (drop (position_or_len has_escape xs) xs)
to_first [] = refl
to_first (x ∷ xs) = by (has_escape x) refl (to_first xs)
  where
    by : (b : Bool) → has_escape x ≡ b → all_escaped xs ≡ take (position_or_len has_escape xs) xs ++ all_escaped (drop (position_or_len has_escape xs) xs)
        → all_escaped (x ∷ xs) ≡ take (cond (not b) (1 + position_or_len has_escape xs) 0) (x ∷ xs) ++ all_escaped (drop (cond (not b) (1 + position_or_len has_escape xs) 0) (x ∷ xs))
    by true e rest = refl
    by false e rest =
        let more : 1 + position_or_len has_escape xs ≡ suc (position_or_len has_escape xs) = omega arith in
        ap (λ (front : List ℕ). front ++ all_escaped xs) (plain_byte x e) ∙ ap (λ (l : List ℕ). x ∷ l) rest
        ∙ sym (ap (λ (n : ℕ). take n (x ∷ xs) ++ all_escaped (drop n (x ∷ xs))) more)

place_found : (b : Bool) (n i : ℕ) → Some i ≡ cond b (Some n) None → n ≡ i
place_found true n i h = cc
place_found false n i h = cc

-- If the first such byte is at place `i`, its escape comes after the bytes before it, and the
-- others follow.
pub from_found : (xs : List ℕ) (i d : ℕ) → Some i ≡ position has_escape xs → i < length xs
    → all_escaped xs ≡ take i xs ++ (escaped_byte (get_or xs i d) ++ all_escaped (drop (i + 1) xs))
from_found xs i d h l =
    let at : position_or_len has_escape xs ≡ i = place_found _ _ i h in
    let split : all_escaped xs ≡ take i xs ++ all_escaped (drop i xs) = rw at at (to_first xs) in
    split ∙ ap (λ (rest : List ℕ). take i xs ++ all_escaped rest) (drop_more xs i d l)

pub is_escaped_at : (xs : List ℕ) (i d : ℕ) → Some i ≡ position has_escape xs → i < length xs → has_escape (get_or xs i d) ≡ true
is_escaped_at xs i d h l =
    let at : position_or_len has_escape xs ≡ i = place_found _ _ i h in
    let inside : position_or_len has_escape xs < length xs = omega (arith, at, l) in
    subst (λ (n : ℕ). has_escape (get_or xs n d) ≡ true) at (passes_at_first has_escape xs d inside)

-- The bytes before it and its escape were added, and the others are left.
pub put_front : (xs : List ℕ) (i : ℕ) (old mid new : List ℕ) → Some i ≡ position has_escape xs → i < length xs
    → mid ≡ old ++ take i xs → new ≡ mid ++ escaped_byte (get_or xs i 0)
    → new ++ all_escaped (take (length xs - (i + 1)) (drop (i + 1) xs)) ≡ old ++ all_escaped xs
put_front xs i old mid new h l m n =
    let escape = escaped_byte (get_or xs i 0) in
    let rest = all_escaped (drop (i + 1) xs) in
    ap (λ (left : List ℕ). new ++ all_escaped left) (take_rest xs (i + 1))
    ∙ ap (λ (made : List ℕ). made ++ rest) (n ∙ ap (λ (made : List ℕ). made ++ escape) m)
    ∙ append_assoc (old ++ take i xs) escape rest
    ∙ append_assoc old (take i xs) (escape ++ rest)
    ∙ ap (λ (made : List ℕ). old ++ made) (sym (from_found xs i 0 h l))

place_missing : (b : Bool) (n : ℕ) → None ≡ cond b (Some n) None → b ≡ false
place_missing true n h = cc
place_missing false n h = refl

-- No byte is escaped.
pub all_plain : (xs : List ℕ) → None ≡ position has_escape xs → all_escaped xs ≡ xs
all_plain xs h =
    let missing : nat_lt (position_or_len has_escape xs) (length xs) ≡ false = place_missing _ (position_or_len has_escape xs) h in
    let past : length xs ≤ position_or_len has_escape xs = grind (arith, nat_tests) in
    let none : drop (position_or_len has_escape xs) xs ≡ [] = drop_all (position_or_len has_escape xs) xs past in
    let all : take (position_or_len has_escape xs) xs ≡ xs = take_all (position_or_len has_escape xs) xs past in
    to_first xs ∙ ap (λ (front : List ℕ). front ++ all_escaped (drop (position_or_len has_escape xs) xs)) all
    ∙ ap (λ (left : List ℕ). xs ++ all_escaped left) none
    ∙ append-nil xs

pub put_all : (xs old new : List ℕ) → None ≡ position has_escape xs → new ≡ old ++ xs → new ++ [] ≡ old ++ all_escaped xs
put_all xs old new h n = append-nil new ∙ n ∙ ap (λ (l : List ℕ). old ++ l) (sym (all_plain xs h))
