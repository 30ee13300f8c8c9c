use Rattle.std.proofs.Common.{◌≡◌, ℕ, ◌<◌, ◌==◌, ◌&&◌, ◌||◌, ◌⊎◌, Bool, true, false, not, List, [], ◌∷◌, ◌++◌, refl, ap, sym, ◌∙◌, append_assoc, length, inl, inr, arith}
use Rattle.std.proofs.lemmas.Bool.Decides.{nat_tests}
use Rattle.std.proofs.lemmas.List.Folds.{list_all-append}
use mathlib.Core.Bool.{beq}
use Rattle.jac_world.specs.World.{holds, has_pair, contradict, IsRising, IsRisingBy, StartsAbove}

-- The state of the loop that merges two guards: the output, and what is left of each guard.
pub record Merging (first second out left right : List (ℕ × Bool)) : Type 0 where
  pub same : (w : ℕ → Bool) → (holds w out && (holds w left && holds w right)) ≡ (holds w first && holds w second)
  pub clash : contradict left right ≡ contradict first second
  pub left_rises : IsRising (out ++ left)
  pub right_rises : IsRising (out ++ right)
  pub left_rest : IsRising left
  pub right_rest : IsRising right

differs : (a b : ℕ) → b < a → (a == b) ≡ false
differs a b h = grind (arith, nat_tests)

pub equals : (a : ℕ) → (a == a) ≡ true
equals a = grind (arith, nat_tests)

-- A label below the first isn't in a rising guard.
pub absent : (k : ℕ) (b : Bool) (g : List (ℕ × Bool)) → StartsAbove k g → IsRising g → has_pair g k b ≡ false
absent k b [] s r = refl
absent k b (q ∷ []) s r = rw (differs q.0 k s) refl
absent k b (q ∷ (p ∷ g)) s r =
    let t : k < p.0 = omega arith in
    rw (differs q.0 k s) (absent k b (p ∷ g) t r.1)

-- A label below all labels of `g` contradicts none of them.
pub skip_right : (g ys : List (ℕ × Bool)) (y : ℕ × Bool) → StartsAbove y.0 g → IsRising g → contradict g (y ∷ ys) ≡ contradict g ys
skip_right [] ys y s r = refl
skip_right (p ∷ []) ys y s r =
    let d : (y.0 == p.0) ≡ false = grind (arith, nat_tests) in
    rw d refl
skip_right (p ∷ (q ∷ g)) ys y s r =
    let d : (y.0 == p.0) ≡ false = grind (arith, nat_tests) in
    let t : y.0 < q.0 = omega arith in
    rw d (ap (λ b. has_pair ys p.0 (not p.1) || b) (skip_right (q ∷ g) ys y t r.1))

pub skip_left : (g ys : List (ℕ × Bool)) (x : ℕ × Bool) → StartsAbove x.0 ys → IsRising ys → contradict (x ∷ g) ys ≡ contradict g ys
skip_left g ys x s r = rw (absent x.0 (not x.1) ys s r) refl

pub beq_not : (b : Bool) → beq b (not b) ≡ false
beq_not true = refl
beq_not false = refl

drop_first : (a b c d e : Bool) → b ≡ false → c ≡ false → d ≡ e → (((a && b) || c) || d) ≡ e
drop_first true b c d e p q r = rw (p, q) r
drop_first false b c d e p q r = rw q r

-- A label that has the same sign at the head of both guards contradicts nothing.
pub skip_both : (g ys : List (ℕ × Bool)) (x y : ℕ × Bool) → x.0 ≡ y.0 → x.1 ≡ y.1 → StartsAbove x.0 g → IsRising g → StartsAbove y.0 ys → IsRising ys → contradict (x ∷ g) (y ∷ ys) ≡ contradict g ys
skip_both g ys x y e f s r t u =
    let a : StartsAbove x.0 ys = rw e t in
    let b : StartsAbove y.0 g = rw (← e) s in
    drop_first (y.0 == x.0) (beq y.1 (not x.1)) (has_pair ys x.0 (not x.1)) (contradict g (y ∷ ys)) (contradict g ys)
    (rw f (beq_not y.1))
    (absent x.0 (not x.1) ys a u)
    (skip_right g ys y b r)

pub no_clash : (g : List (ℕ × Bool)) → contradict g [] ≡ false
no_clash [] = refl
no_clash (p ∷ g) = no_clash g

pub holds-push : (w : ℕ → Bool) (g : List (ℕ × Bool)) (p : ℕ × Bool) → holds w (g ++ p ∷ []) ≡ (holds w g && (beq p.1 (w p.0) && true))
holds-push w g p = list_all-append (λ q. beq q.1 (w q.0)) g (p ∷ [])

-- If the output rises when it is continued with `x ∷ xs` or with `y ∷ ys`, and `x` is below `y`,
-- then it also rises with `x` and then `y ∷ ys`.
pub rising-push : {X : Type 0} (key : X → ℕ) (out xs ys : List X) (x y : X) → IsRisingBy key (out ++ x ∷ xs) → IsRisingBy key (out ++ y ∷ ys) → key x < key y → IsRisingBy key ((out ++ x ∷ []) ++ y ∷ ys)
rising-push key [] xs ys x y r s lt = (lt, s)
rising-push key (o ∷ []) xs ys x y r s lt = (r.0, (lt, s.1))
rising-push key (o ∷ (p ∷ out)) xs ys x y r s lt = (r.0, rising-push key (p ∷ out) xs ys x y r.1 s.1 lt)

-- A pair of the left guard is appended to the output.
out_left : (o p x y : Bool) → ((o && (p && true)) && (x && y)) ≡ (o && ((p && x) && y))
out_left true true x y = refl
out_left true false x y = refl
out_left false p x y = refl

-- A pair of the right guard is appended to the output.
out_right : (o p x y : Bool) → ((o && (p && true)) && (x && y)) ≡ (o && (x && (p && y)))
out_right true true x y = refl
out_right true false true y = refl
out_right true false false y = refl
out_right false p x y = refl

-- A pair of both guards is appended to the output once.
out_both : (o p x y : Bool) → ((o && (p && true)) && (x && y)) ≡ (o && ((p && x) && (p && y)))
out_both true true x y = refl
out_both true false x y = refl
out_both false p x y = refl

tail_starts : (key : ℕ × Bool) (g : List (ℕ × Bool)) → IsRising (key ∷ g) → StartsAbove key.0 g
tail_starts key g r = r.0

pub take_left : (f s out xs ys : List (ℕ × Bool)) (x y : ℕ × Bool) → Merging f s out (x ∷ xs) (y ∷ ys) → x.0 < y.0 → Merging f s (out ++ x ∷ []) xs (y ∷ ys)
take_left f s out xs ys x y m lt =
    record {
      same = λ w. rw (holds-push w out x) (out_left (holds w out) (beq x.1 (w x.0)) (holds w xs) (holds w (y ∷ ys)) ∙ m.same w);
      clash = sym (skip_left xs (y ∷ ys) x lt m.right_rest) ∙ m.clash;
      left_rises = rw append_assoc m.left_rises;
      right_rises = rising-push (λ p. p.0) out xs ys x y m.left_rises m.right_rises lt;
      left_rest = m.left_rest.1;
      right_rest = m.right_rest;
    }

pub take_right : (f s out xs ys : List (ℕ × Bool)) (x y : ℕ × Bool) → Merging f s out (x ∷ xs) (y ∷ ys) → y.0 < x.0 → Merging f s (out ++ y ∷ []) (x ∷ xs) ys
take_right f s out xs ys x y m lt =
    record {
      same = λ w. rw (holds-push w out y) (out_right (holds w out) (beq y.1 (w y.0)) (holds w (x ∷ xs)) (holds w ys) ∙ m.same w);
      clash = sym (skip_right (x ∷ xs) ys y lt m.left_rest) ∙ m.clash;
      left_rises = rising-push (λ p. p.0) out ys xs y x m.right_rises m.left_rises lt;
      right_rises = rw append_assoc m.right_rises;
      left_rest = m.left_rest;
      right_rest = m.right_rest.1;
    }

pub take_both : (f s out xs ys : List (ℕ × Bool)) (x y : ℕ × Bool) → Merging f s out (x ∷ xs) (y ∷ ys) → x.0 ≡ y.0 → x.1 ≡ y.1 → Merging f s (out ++ x ∷ []) xs ys
take_both f s out xs ys x y m k b =
    let z : x ≡ y = λ i. (k i, b i) in
    record {
      same = λ w. rw (holds-push w out x) (out_both (holds w out) (beq x.1 (w x.0)) (holds w xs) (holds w ys) ∙ (rw (← z) at (m.same w)));
      clash = sym (skip_both xs ys x y k b m.left_rest.0 m.left_rest.1 m.right_rest.0 m.right_rest.1) ∙ m.clash;
      left_rises = rw append_assoc m.left_rises;
      right_rises = rw append_assoc (rw z m.right_rises);
      left_rest = m.left_rest.1;
      right_rest = m.right_rest.1;
    }

turned : (a b : Bool) → (a ≡ b → ⊥) → beq b (not a) ≡ true
turned true true n = absurd (n refl)
turned true false n = refl
turned false true n = refl
turned false false n = absurd (n refl)

-- If the heads have one label with opposite signs, the guards contradict each other.
pub clashing : (f s out xs ys : List (ℕ × Bool)) (x y : ℕ × Bool) → Merging f s out (x ∷ xs) (y ∷ ys) → x.0 ≡ y.0 → (x.1 ≡ y.1 → ⊥) → contradict f s ≡ true
clashing f s out xs ys x y m k n =
    let e : contradict (x ∷ xs) (y ∷ ys) ≡ true = rw k (rw (equals y.0) (rw (turned x.1 y.1 n) refl)) in
    sym m.clash ∙ e

-- If nothing is left of one of the guards, they don't contradict each other.
pub ended : (f s out left right : List (ℕ × Bool)) → Merging f s out left right → (length left ≡ 0) ⊎ (length right ≡ 0) → contradict f s ≡ false
ended f s out [] right m (inl e) = sym m.clash
ended f s out (x ∷ left) right m (inl e) = absurd (omega arith)
ended f s out left [] m (inr e) = sym m.clash ∙ no_clash left
ended f s out left (y ∷ right) m (inr e) = absurd (omega arith)
