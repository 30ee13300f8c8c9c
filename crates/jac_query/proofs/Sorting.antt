use Rattle.std.specs.Prelude.{⊤}
use Rattle.std.proofs.Common.{◌≡◌, ℕ, ◌<◌, ◌≤◌, Bool, true, false, not, ◌&&◌, if◌then◌else◌, List, [], ◌∷◌, refl, ap, sym, ◌∙◌, arith}
use mathlib.Core.Bool.{cond}
use Prim.Native.Nat.{suc}
use lib.ListN.{length, get_or}
use Rattle.std.specs.List.{filter}
use Rattle.std.specs.Cmp.{IsStrictWeakOrder}
use Rattle.std.specs.List.Sorted.{IsSortedBy, ties}
use Rattle.std.proofs.lemmas.List.Sorted.{sorted_far}
use Rattle.jac_query.specs.Sorted.{insert_by, sorted_by}

module _ {X : Type 0} (lt : X → X → Bool) where
  abbrev pub NoneLess : X → List X → Type 0
  NoneLess y [] = ⊤
  NoneLess y (z ∷ zs) = (lt z y ≡ false) × NoneLess y zs

  -- No later element is less.
  abbrev pub IsUp : List X → Type 0
  IsUp [] = ⊤
  IsUp (y ∷ ys) = NoneLess y ys × IsUp ys

module _ {X : Type 0} (lt : X → X → Bool) (o : IsStrictWeakOrder lt) where
  none_of : (x : X) (xs : List X) → ((k : ℕ) → k < length xs → lt (get_or xs k x) x ≡ false) → NoneLess lt x xs
  none_of x [] h = tt
  none_of x (y ∷ ys) h = (h 0 (omega arith), none_of x ys (λ k p. h (suc k) (omega arith)))

  up_of : (xs : List X) → ((i j : ℕ) (d : X) → i ≤ j → j < length xs → lt (get_or xs j d) (get_or xs i d) ≡ false) → IsUp lt xs
  up_of [] h = tt
  up_of (x ∷ xs) h = (none_of x xs (λ k p. h 0 (suc k) x (omega arith) (omega arith)), up_of xs (λ i j d p q. h (suc i) (suc j) d (omega arith) (omega arith)))

  pub up-from_sorted : (ys : List X) → IsSortedBy lt ys → IsUp lt ys
  up-from_sorted ys h = up_of ys (sorted_far lt o ys h)

  irreflexive_if : (b : Bool) → (b ≡ true → b ≡ false) → b ≡ false
  irreflexive_if true h = h refl
  irreflexive_if false h = refl

  irreflexive : (x : X) → lt x x ≡ false
  irreflexive x = irreflexive_if (lt x x) (o.one_way x x)

  neither : (a b : Bool) → a ≡ false → b ≡ false → not a && not b ≡ true
  neither false false p q = refl
  neither true b p q = cc
  neither a true p q = cc

  left_of : (a b : Bool) → not a && not b ≡ true → a ≡ false
  left_of false b h = refl
  left_of true b h = cc

  right_of : (a b : Bool) → not a && not b ≡ true → b ≡ false
  right_of a false h = refl
  right_of true true h = cc
  right_of false true h = cc

  ties-self : (x : X) → ties lt x x ≡ true
  ties-self x = neither (lt x x) (lt x x) (irreflexive x) (irreflexive x)

  ties-sym : (x y : X) → ties lt x y ≡ true → ties lt y x ≡ true
  ties-sym x y h = neither (lt y x) (lt x y) (right_of (lt x y) (lt y x) h) (left_of (lt x y) (lt y x) h)

  ties-trans : (x y z : X) → ties lt x y ≡ true → ties lt y z ≡ true → ties lt x z ≡ true
  ties-trans x y z h k =
      neither (lt x z) (lt z x)
      (o.chain x y z (left_of (lt x y) (lt y x) h) (left_of (lt y z) (lt z y) k))
      (o.chain z y x (right_of (lt y z) (lt z y) k) (right_of (lt x y) (lt y x) h))

  same_test : (a b : Bool) → (a ≡ true → b ≡ true) → (b ≡ true → a ≡ true) → a ≡ b
  same_test true true h k = refl
  same_test false false h k = refl
  same_test true false h k = sym (h refl)
  same_test false true h k = k refl

  -- Elements that tie have the same ties.
  ties-same : (z x y : X) → ties lt x y ≡ true → ties lt z y ≡ ties lt z x
  ties-same z x y h = same_test (ties lt z y) (ties lt z x) (λ p. ties-trans z y x p (ties-sym x y h)) (λ p. ties-trans z x y p h)

  -- The list without the first element that ties with x.
  abbrev without : X → List X → List X
  without x [] = []
  without x (y ∷ ys) = if ties lt x y then ys else y ∷ without x ys

  none_without_if : (x y z : X) (zs : List X) (b : Bool) → lt z y ≡ false → NoneLess lt y zs → NoneLess lt y (without x zs) → NoneLess lt y (if b then zs else z ∷ without x zs)
  none_without_if x y z zs true e h k = h
  none_without_if x y z zs false e h k = (e, k)

  none-without : (x y : X) (zs : List X) → NoneLess lt y zs → NoneLess lt y (without x zs)
  none-without x y [] h = tt
  none-without x y (z ∷ zs) h = none_without_if x y z zs (ties lt x z) h.0 h.1 (none-without x y zs h.1)

  up_without_if : (x y : X) (ys : List X) (b : Bool) → IsUp lt ys → NoneLess lt y (without x ys) → IsUp lt (without x ys) → IsUp lt (if b then ys else y ∷ without x ys)
  up_without_if x y ys true u n k = u
  up_without_if x y ys false u n k = (n, k)

  up-without : (x : X) (ys : List X) → IsUp lt ys → IsUp lt (without x ys)
  up-without x [] u = tt
  up-without x (y ∷ ys) u = up_without_if x y ys (ties lt x y) u.1 (none-without x y ys u.0) (up-without x ys u.1)

  abbrev rest_of : List X → List X
  rest_of [] = []
  rest_of (y ∷ ys) = ys

  -- The ties of z, without the first one if x is one of them.
  abbrev cut : Bool → List X → List X
  cut true xs = rest_of xs
  cut false xs = xs

  cut_found : (y : X) (xs : List X) (b : Bool) → xs ≡ cut b (cond b (y ∷ xs) xs)
  cut_found y xs true = refl
  cut_found y xs false = refl

  cut_not_found : (y : X) (xs zs : List X) (a b : Bool) → (a ≡ true → b ≡ true → ⊥) → zs ≡ cut b xs → cond a (y ∷ zs) zs ≡ cut b (cond a (y ∷ xs) xs)
  cut_not_found y xs zs true true n e = absurd (n refl refl)
  cut_not_found y xs zs true false n e = ap (λ l. y ∷ l) e
  cut_not_found y xs zs false b n e = e

  not_both : (b : Bool) → b ≡ false → b ≡ true → ⊥
  not_both b p q = cc

  ties_without_if : (z x y : X) (ys : List X) (b : Bool) → ties lt x y ≡ b → filter (ties lt z) (without x ys) ≡ cut (ties lt z x) (filter (ties lt z) ys) →
      filter (ties lt z) (if b then ys else y ∷ without x ys) ≡ cut (ties lt z x) (filter (ties lt z) (y ∷ ys))
  ties_without_if z x y ys true e h = cut_found y (filter (ties lt z) ys) (ties lt z x) ∙ ap (λ b. cut (ties lt z x) (cond b (y ∷ filter (ties lt z) ys) (filter (ties lt z) ys))) (sym (ties-same z x y e))
  ties_without_if z x y ys false e h =
      cut_not_found y (filter (ties lt z) ys) (filter (ties lt z) (without x ys)) (ties lt z y) (ties lt z x)
      (λ p q. not_both (ties lt x y) e (ties-trans x z y (ties-sym z x q) p)) h

  cut_nothing : (b : Bool) → [] ≡ cut b []
  cut_nothing true = refl
  cut_nothing false = refl

  ties-without : (z x : X) (ys : List X) → filter (ties lt z) (without x ys) ≡ cut (ties lt z x) (filter (ties lt z) ys)
  ties-without z x [] = cut_nothing (ties lt z x)
  ties-without z x (y ∷ ys) = ties_without_if z x y ys (ties lt x y) refl (ties-without z x ys)

  cut_head : (x : X) (xs : List X) (b : Bool) → cut b (cond b (x ∷ xs) xs) ≡ xs
  cut_head x xs b = sym (cut_found x xs b)

  abbrev head_or : X → List X → X
  head_or d [] = d
  head_or d (v ∷ vs) = v

  -- If no element is less than y, neither is the first one that passes the filter.
  first_not_less_if : (y x z : X) (zs fs rest : List X) (b : Bool) → lt z y ≡ false → (fs ≡ x ∷ rest → lt x y ≡ false) → cond b (z ∷ fs) fs ≡ x ∷ rest → lt x y ≡ false
  first_not_less_if y x z zs fs rest true e h k = ap (λ v. lt v y) (sym (ap (head_or z) k)) ∙ e
  first_not_less_if y x z zs fs rest false e h k = h k

  first-not_less : (t : X → Bool) (y x : X) (ys rest : List X) → NoneLess lt y ys → filter t ys ≡ x ∷ rest → lt x y ≡ false
  first-not_less t y x [] rest n k = cc
  first-not_less t y x (z ∷ zs) rest n k = first_not_less_if y x z zs (filter t zs) rest (t z) n.0 (first-not_less t y x zs rest n.1) k

  insert-first : (x : X) (ys : List X) → NoneLess lt x ys → insert_by lt x ys ≡ x ∷ ys
  insert-first x [] n = refl
  insert-first x (y ∷ ys) n = ap (λ b. if b then y ∷ insert_by lt x ys else x ∷ (y ∷ ys)) n.0

  less_by : (a b : Bool) → not a && not b ≡ false → a ≡ false → b ≡ true
  less_by a true h k = refl
  less_by true false h k = cc
  less_by false false h k = cc

  insert_without_if : (x y : X) (ys rest : List X) (b : Bool) → ties lt x y ≡ b → NoneLess lt y ys → IsUp lt ys → cond b (y ∷ filter (ties lt x) ys) (filter (ties lt x) ys) ≡ x ∷ rest →
      (filter (ties lt x) ys ≡ x ∷ rest → ys ≡ insert_by lt x (without x ys)) → y ∷ ys ≡ insert_by lt x (if b then ys else y ∷ without x ys)
  insert_without_if x y ys rest true e n u k h =
      let s : y ≡ x = ap (head_or x) k in
      ap (λ v. v ∷ ys) s ∙ sym (insert-first x ys (rw s at n))
  insert_without_if x y ys rest false e n u k h =
      ap (λ l. y ∷ l) (h k) ∙ ap (λ b. if b then y ∷ insert_by lt x (without x ys) else x ∷ (y ∷ without x ys))
      (sym (less_by (lt x y) (lt y x) e (first-not_less (ties lt x) y x ys rest n k)))

  -- A rising list is the list without its first tie of x, with x inserted.
  insert-without : (x : X) (ys rest : List X) → IsUp lt ys → filter (ties lt x) ys ≡ x ∷ rest → ys ≡ insert_by lt x (without x ys)
  insert-without x [] rest u k = cc
  insert-without x (y ∷ ys) rest u k = insert_without_if x y ys rest (ties lt x y) refl u.0 u.1 k (insert-without x ys rest u.1)

  no_ties : (y : X) (ys : List X) → filter (ties lt y) (y ∷ ys) ≡ [] → ⊥
  no_ties y ys h = let e : y ∷ filter (ties lt y) ys ≡ [] = rw (ties-self y) at h in cc

  -- A rising list with its ties in the same order as in another list is the stable sort of the
  -- other.
  pub stable-is : (xs ys : List X) → IsUp lt ys → ((x : X) → filter (ties lt x) ys ≡ filter (ties lt x) xs) → ys ≡ sorted_by lt xs
  stable-is [] [] u h = refl
  stable-is [] (y ∷ ys) u h = absurd (no_ties y ys (h y))
  stable-is (x ∷ xs) ys u h =
      insert-without x ys (filter (ties lt x) xs) u (h x ∙ ap (λ b. cond b (x ∷ filter (ties lt x) xs) (filter (ties lt x) xs)) (ties-self x))
      ∙ ap (insert_by lt x) (stable-is xs (without x ys) (up-without x ys u)
      (λ z. ties-without z x ys ∙ (ap (cut (ties lt z x)) (h z) ∙ cut_head x (filter (ties lt z) xs) (ties lt z x))))
