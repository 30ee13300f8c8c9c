-- What is left of the input after empty pieces are passed over, and after the first piece is cut.
use Rattle.std.proofs.Common.{◌≡◌, ℕ, ◌+◌, ◌<◌, true, false, List, [], ◌∷◌, ◌++◌, length, take, drop, min, refl, sym, ◌∙◌, ap, arith, zero, suc}
use Rattle.std.proofs.lemmas.Grind.{common_steps}
use Rattle.std.proofs.lemmas.List.{take-append-drop, drop-drop, drop_min}
use Rattle.std.specs.List.{concat}
use Rattle.jac_io.specs.LinkState.{has_empty_front, first_piece, from_next, cut}

pub cut_none : (ps : List (List ℕ)) → cut 0 ps ≡ ps
cut_none [] = refl
cut_none (p ∷ ps) = refl

-- Only the first piece is cut.
pub cut_behind : (n : ℕ) (ps : List (List ℕ)) → cut 0 (drop 1 ps) ≡ drop 1 (cut n ps)
cut_behind n [] = refl
cut_behind n (p ∷ ps) = cut_none ps

pub passed_empty : (ps : List (List ℕ)) → has_empty_front ps ≡ true → from_next (drop 1 ps) ≡ from_next ps
passed_empty [] h = cc
passed_empty ([] ∷ ps) h = refl
passed_empty ((b ∷ bs) ∷ ps) h = cc

pub fewer_pieces : (ps : List (List ℕ)) → has_empty_front ps ≡ true → length (drop 1 ps) < length ps
fewer_pieces [] h = cc
fewer_pieces (p ∷ ps) h = omega arith

pub passed_all : (ps : List (List ℕ)) → has_empty_front ps ≡ false → from_next ps ≡ ps
passed_all [] h = refl
passed_all ([] ∷ ps) h = cc
passed_all ((b ∷ bs) ∷ ps) h = refl

pub joined_from_next : (ps : List (List ℕ)) → concat (from_next ps) ≡ concat ps
joined_from_next [] = refl
joined_from_next ([] ∷ ps) = joined_from_next ps
joined_from_next ((b ∷ bs) ∷ ps) = refl

pub front_and_cut : (n : ℕ) (ps : List (List ℕ)) → concat ps ≡ take n (first_piece ps) ++ concat (cut n ps)
front_and_cut n [] = grind (arith, common_steps)
front_and_cut n (p ∷ ps) = rw (sym (take-append-drop n p)) (grind (arith, common_steps))

pub empty_front : (n : ℕ) (ps : List (List ℕ)) → 0 < n → take n (first_piece (from_next ps)) ≡ [] → concat ps ≡ []
empty_front n [] some h = refl
empty_front n ([] ∷ ps) some h = empty_front n ps some h
empty_front zero ((b ∷ bs) ∷ ps) some h = absurd (omega (arith, some))
empty_front (suc n) ((b ∷ bs) ∷ ps) some h = cc

-- A second cut goes on where the first ended. The second number may be more than what is left.
pub cut_again : (m n : ℕ) (ps : List (List ℕ)) → cut (m + min (length (first_piece (cut m ps))) n) ps ≡ cut n (cut m ps)
cut_again m n [] = refl
cut_again m n (p ∷ ps) =
    let turned : min (length (drop m p)) n ≡ min n (length (drop m p)) = omega arith in
    let same : drop (m + min (length (drop m p)) n) p ≡ drop n (drop m p) =
    sym (drop-drop (min (length (drop m p)) n) m p) ∙ ap (λ k. drop k (drop m p)) turned ∙ drop_min n (drop m p) in
    ap (λ q. q ∷ ps) same
