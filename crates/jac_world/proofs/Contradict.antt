use Rattle.std.proofs.Common.{◌≡◌, ℕ, ◌<◌, ◌≤◌, ◌+◌, ◌==◌, ◌&&◌, ◌||◌, Bool, true, false, not, if◌then◌else◌, List, [], ◌∷◌, refl, ap, sym, ◌∙◌, arith}
use Rattle.std.specs.List.{AllByRecursion}
use Rattle.std.proofs.lemmas.Bool.Decides.{nat_tests, Decides-eqb}
use mathlib.Core.Bool.{beq}
use Rattle.jac_world.specs.World.{holds, both, holding, has_pair, names, guard_wants, contradict, IsApart, ArePairwiseApart, IsRising, StartsAbove}
use Rattle.jac_world.proofs.Merging.{absent, equals, no_clash}

pub and_true : (a b : Bool) → a ≡ true → b ≡ true → (a && b) ≡ true
and_true a b p q = rw p q

pub left_true : (a b : Bool) → (a && b) ≡ true → a ≡ true
left_true true b p = refl
left_true false b p = p

right_true : (a b : Bool) → (a && b) ≡ true → b ≡ true
right_true true b p = p
right_true false b p = cc

left_false : (a b : Bool) → (a || b) ≡ false → a ≡ false
left_false true b p = p
left_false false b p = refl

right_false : (a b : Bool) → (a || b) ≡ false → b ≡ false
right_false true b p = cc
right_false false b p = p

or_right : (a b : Bool) → b ≡ true → (a || b) ≡ true
or_right true b p = refl
or_right false b p = p

pub same_sign : (b : Bool) → beq b b ≡ true
same_sign true = refl
same_sign false = refl

pub sign_is : (a b : Bool) → beq a b ≡ true → b ≡ a
sign_is true true p = refl
sign_is true false p = cc
sign_is false true p = cc
sign_is false false p = refl

-- Whether a guard holds depends only on the labels that it names.
pub by_names : (g : List (ℕ × Bool)) (v w : ℕ → Bool) → ((k : ℕ) → names g k ≡ true → v k ≡ w k) → holds v g ≡ holds w g
by_names [] v w h = refl
by_names (p ∷ g) v w h =
    let e : v p.0 ≡ w p.0 = h p.0 (rw (equals p.0) refl) in
    let r : holds v g ≡ holds w g = by_names g v w (λ k n. h k (or_right (p.0 == k) (names g k) n)) in
    rw (e, r) refl

-- If the labels of a guard are above `k`, and two assignments agree above `k`, it holds under both
-- or neither.
pub holds_past : (k : ℕ) (v w : ℕ → Bool) (g : List (ℕ × Bool)) → ((j : ℕ) → k < j → v j ≡ w j) → StartsAbove k g → IsRising g → holds v g ≡ holds w g
holds_past k v w [] h s r = refl
holds_past k v w (q ∷ []) h s r = rw (h q.0 s) refl
holds_past k v w (q ∷ (p ∷ g)) h s r =
    let t : k < p.0 = omega arith in
    rw (h q.0 s) (ap (λ b. beq q.1 (w q.0) && b) (holds_past k v w (p ∷ g) h t r.1))

wanted_first : (b : Bool) → beq b ((true && beq b true) || false) ≡ true
wanted_first true = refl
wanted_first false = refl

-- A rising guard holds under the assignment that shows exactly the labels with sign true.
pub can_hold : (g : List (ℕ × Bool)) → IsRising g → holds (guard_wants g) g ≡ true
can_hold [] r = refl
can_hold (p ∷ g) r =
    let first : beq p.1 (guard_wants (p ∷ g) p.0) ≡ true = rw (equals p.0) (rw (absent p.0 true g r.0 r.1) (wanted_first p.1)) in
    let later : (j : ℕ) → p.0 < j → guard_wants (p ∷ g) j ≡ guard_wants g j = λ j lt. (let d : (p.0 == j) ≡ false = grind (arith, nat_tests) in rw d refl) in
    and_true _ _ first (holds_past p.0 (guard_wants (p ∷ g)) (guard_wants g) g later r.0 r.1 ∙ can_hold g r.1)

told_more : (a b c : Bool) (P : Type 0) → ((a && b) || c) ≡ true → (a ≡ true → b ≡ true → P) → (c ≡ true → P) → P
told_more true true c P h p q = p refl refl
told_more true false c P h p q = q h
told_more false b c P h p q = q h

told_pair : (w : ℕ → Bool) (q : ℕ × Bool) (k : ℕ) (b : Bool) → (q.0 == k) ≡ true → beq q.1 b ≡ true → beq q.1 (w q.0) ≡ true → w k ≡ b
told_pair w q k b e f h =
    let k_is : q.0 ≡ k = (Decides-eqb q.0 k).0 e in
    ap w (sym k_is) ∙ sign_is q.1 (w q.0) h ∙ sym (sign_is q.1 b f)

-- If a guard holds, each of its labels has its sign.
told : (w : ℕ → Bool) (g : List (ℕ × Bool)) (k : ℕ) (b : Bool) → has_pair g k b ≡ true → holds w g ≡ true → w k ≡ b
told w [] k b p h = cc
told w (q ∷ g) k b p h = told_more (q.0 == k) (beq q.1 b) (has_pair g k b) (w k ≡ b) p (λ e f. told_pair w q k b e f (left_true _ _ h)) (λ r. told w g k b r (right_true _ _ h))

either : (a b : Bool) (P : Type 0) → (a || b) ≡ true → (a ≡ true → P) → (b ≡ true → P) → P
either true b P h p q = p refl
either false b P h p q = q h

apart_here : (a b c : Bool) → (a ≡ true → c ≡ true → ⊥) → ((a && b) && c) ≡ false
apart_here true b true n = absurd (n refl refl)
apart_here true true false n = refl
apart_here true false false n = refl
apart_here false b c n = refl

apart_later : (a b c : Bool) → (b && c) ≡ false → ((a && b) && c) ≡ false
apart_later true b c h = h
apart_later false b c h = refl

unlike : (a b : Bool) → beq a b ≡ true → b ≡ not a → ⊥
unlike true true h e = cc
unlike true false h e = cc
unlike false true h e = cc
unlike false false h e = cc

-- If a label has opposite signs in two guards, they never hold together.
pub contradict_apart : (g h : List (ℕ × Bool)) → contradict g h ≡ true → IsApart g h
contradict_apart [] h c w = cc
contradict_apart (p ∷ g) h c w =
    either (has_pair h p.0 (not p.1)) (contradict g h) (both w (p ∷ g) h ≡ false) c
    (λ e. apart_here (beq p.1 (w p.0)) (holds w g) (holds w h) (λ a b. unlike p.1 (w p.0) a (told w h p.0 (not p.1) e b)))
    (λ e. apart_later (beq p.1 (w p.0)) (holds w g) (holds w h) (contradict_apart g h e w))

regroup : (a b c d : Bool) → ((a || b) || (c || d)) ≡ ((a || c) || (b || d))
regroup true b c d = refl
regroup false true true d = refl
regroup false true false d = refl
regroup false false c d = refl

four_ors : (a b c d e f : Bool) → a ≡ f → e ≡ (c || d) → ((a || b) || e) ≡ ((f || c) || (b || d))
four_ors a b c d e f p q = rw (p, q) (regroup f b c d)

same_test : (a b : ℕ) → (a == b) ≡ (b == a)
same_test a b = grind (arith, nat_tests)

other_sign : (a b : Bool) → beq a (not b) ≡ beq b (not a)
other_sign true true = refl
other_sign true false = refl
other_sign false true = refl
other_sign false false = refl

contradict-cons : (g h : List (ℕ × Bool)) (p : ℕ × Bool) → contradict g (p ∷ h) ≡ (has_pair g p.0 (not p.1) || contradict g h)
contradict-cons [] h p = refl
contradict-cons (q ∷ g) h p =
    four_ors _ (has_pair h q.0 (not q.1)) (has_pair g p.0 (not p.1)) (contradict g h) (contradict g (p ∷ h)) _
    (rw (same_test p.0 q.0, other_sign p.1 q.1) refl)
    (contradict-cons g h p)

contradict-sym : (h g : List (ℕ × Bool)) → contradict h g ≡ contradict g h
contradict-sym [] g = sym (no_clash g)
contradict-sym (p ∷ h) g = ap (λ b. has_pair g p.0 (not p.1) || b) (contradict-sym h g) ∙ sym (contradict-cons g h p)

keeps_sign : (b x y : Bool) → beq b x ≡ true → (b ≡ false → y ≡ false) → beq b (x || y) ≡ true
keeps_sign true true y h n = refl
keeps_sign true false y h n = cc
keeps_sign false true y h n = cc
keeps_sign false false y h n = rw (n refl) refl

-- If two guards don't contradict each other and `g` holds, it still holds after the labels that `h`
-- wants shown are shown too.
joint_holds : (v : ℕ → Bool) (g h : List (ℕ × Bool)) → contradict g h ≡ false → holds v g ≡ true → holds (λ k. v k || guard_wants h k) g ≡ true
joint_holds v [] h c e = refl
joint_holds v (p ∷ g) h c e =
    let n : has_pair h p.0 (not p.1) ≡ false = left_false _ _ c in
    and_true _ _
    (keeps_sign p.1 (v p.0) (guard_wants h p.0) (left_true _ _ e) (λ f. ap (λ b. has_pair h p.0 (not b)) (sym f) ∙ n))
    (joint_holds v g h (right_false _ _ c) (right_true _ _ e))

or_swap : (a b : Bool) → (a || b) ≡ (b || a)
or_swap true true = refl
or_swap true false = refl
or_swap false true = refl
or_swap false false = refl

is_true : (b : Bool) → (b ≡ false → ⊥) → b ≡ true
is_true true n = refl
is_true false n = absurd (n refl)

not_both : (a b : Bool) → a ≡ true → b ≡ true → (a && b) ≡ false → ⊥
not_both true b p q r = cc
not_both false b p q r = cc

-- If two rising guards never hold together, some label has opposite signs in them.
pub apart_contradict : (g h : List (ℕ × Bool)) → IsRising g → IsRising h → IsApart g h → contradict g h ≡ true
apart_contradict g h r s a =
    is_true (contradict g h)
    (λ c. not_both (holds (λ k. guard_wants g k || guard_wants h k) g) (holds (λ k. guard_wants g k || guard_wants h k) h)
    (joint_holds (guard_wants g) g h c (can_hold g r))
    (ap (λ (v : ℕ → Bool). holds v h) (λ i k. or_swap (guard_wants g k) (guard_wants h k) i) ∙ joint_holds (guard_wants h) h g (contradict-sym h g ∙ c) (can_hold h s))
    (a (λ k. guard_wants g k || guard_wants h k)))

none_with : (a b : Bool) (n : ℕ) → (a ≡ true → (if b then 1 else 0) + n ≡ 0) → (a && b) ≡ false
none_with true true n h = let e : 1 + n ≡ 0 = h refl in absurd (omega arith)
none_with true false n h = refl
none_with false b n h = refl

more_none : (a b : Bool) (n : ℕ) → (a ≡ true → (if b then 1 else 0) + n ≡ 0) → a ≡ true → n ≡ 0
more_none a b n h e = let f : (if b then 1 else 0) + n ≡ 0 = h e in omega arith

apart_all : (g : List (ℕ × Bool)) (gs : List (List (ℕ × Bool))) → ((w : ℕ → Bool) → holds w g ≡ true → holding w gs ≡ 0) → AllByRecursion (IsApart g) gs
apart_all g [] h = tt
apart_all g (x ∷ gs) h = (
  (λ w. none_with (holds w g) (holds w x) (holding w gs) (h w)),
  apart_all g gs (λ w. more_none (holds w g) (holds w x) (holding w gs) (h w)),
)

at_most_one : (a : Bool) (n : ℕ) → (if a then 1 else 0) + n ≤ 1 → a ≡ true → n ≡ 0
at_most_one true n h e = omega arith
at_most_one false n h e = cc

rest_at_most : (a : Bool) (n : ℕ) → (if a then 1 else 0) + n ≤ 1 → n ≤ 1
rest_at_most a n h = omega arith

-- If at most one of the guards holds under each assignment, they are pairwise apart.
pub pairwise : (gs : List (List (ℕ × Bool))) → ((w : ℕ → Bool) → holding w gs ≤ 1) → ArePairwiseApart gs
pairwise [] h = tt
pairwise (g ∷ gs) h = (
  apart_all g gs (λ w. at_most_one (holds w g) (holding w gs) (h w)),
  pairwise gs (λ w. rest_at_most (holds w g) (holding w gs) (h w)),
)

pub one_at_most : (n : ℕ) (b : Bool) → n ≡ (if b then 1 else 0) → n ≤ 1
one_at_most n true e = omega arith
one_at_most n false e = omega arith
