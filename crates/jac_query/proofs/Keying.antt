use Rattle.std.proofs.Common.{◌≡◌, ℕ, Bool, true, false, ◌&&◌, if◌then◌else◌, List, [], ◌∷◌, ◌++◌, map, refl, ap, sym, ◌∙◌}
use mathlib.Core.Bool.{cond}
use Rattle.std.specs.List.{filter, AllByRecursion}
use Rattle.std.specs.Cmp.{IsStrictWeakOrder}
use Rattle.std.specs.List.Sorted.{IsSortedBy, IsStableBy, IsPermutation, ties}
use Rattle.std.proofs.lemmas.List.Sorted.{ranks_by, IsStrictWeakOrder-flip, All-permutation}
use Rattle.std.proofs.lemmas.List.Elements.{All-from_recursion, recursion_from_All}
use Rattle.std.proofs.lemmas.Bool.{and_from}
use Rattle.jac_value.specs.contracts.value.ValueOrd.TheImpl.Laws.{total-law}
use Rattle.jac_value.specs.declared.value.Value.{Value}
use Rattle.jac_world.specs.World.{holds}
use Rattle.jac_facet.specs.Leaves.{leaves_seen}
use Rattle.jac_query.specs.Live.{live, all_ids}
use Rattle.jac_query.specs.Sorted.{sorted_by, value_less, key_less, keyed_less, keyed_at, keyed_ids, tuples_of, key_leaves}
use Rattle.jac_query.specs.declared.sorts.Keyed.{Keyed}
use Rattle.jac_query.proofs.Sorting.{NoneLess, IsUp, up-from_sorted, stable-is}

append_if : {X : Type 0} (b : Bool) (x : X) (xs ys zs : List X) → zs ≡ xs ++ ys → (if b then x ∷ zs else zs) ≡ (if b then x ∷ xs else xs) ++ ys
append_if true x xs ys zs e = ap (λ l. x ∷ l) e
append_if false x xs ys zs e = e

keyed_at-append : (w : ℕ → Bool) (ks us : List Keyed) → keyed_at w (ks ++ us) ≡ keyed_at w ks ++ keyed_at w us
keyed_at-append w [] us = refl
keyed_at-append w (k ∷ ks) us = append_if (holds w k.guard) (k.ids, k.key) (keyed_at w ks) (keyed_at w us) (keyed_at w (ks ++ us)) (keyed_at-append w ks us)

-- One tuple was pushed. Whether its guard holds is b.
pub keyed_at-pushed : (w : ℕ → Bool) (ks us : List Keyed) (k : Keyed) (b : Bool) (ids : List ℕ) (key : Value) → us ≡ ks ++ k ∷ [] → holds w k.guard ≡ b → k.ids ≡ ids → k.key ≡ key →
    keyed_at w us ≡ keyed_at w ks ++ if◌then◌else◌ {A = List (List ℕ × Value)} b ((ids, key) ∷ []) []
keyed_at-pushed w ks us k b ids key e h c d = ap (keyed_at w) e ∙ (keyed_at-append w ks (k ∷ []) ∙ rw (h, c, d) refl)

and-assoc : (a b c : Bool) → (a && (b && c)) ≡ ((a && b) && c)
and-assoc true b c = refl
and-assoc false b c = refl

and-true : (a b : Bool) → b ≡ true → (a && (b && true)) ≡ a
and-true true true h = refl
and-true false true h = refl
and-true a false h = cc

keyed_ids-append : (p : List ℕ → Bool) (ks us : List Keyed) → keyed_ids p (ks ++ us) ≡ (keyed_ids p ks && keyed_ids p us)
keyed_ids-append p [] us = refl
keyed_ids-append p (k ∷ ks) us = ap (λ b. p k.ids && b) (keyed_ids-append p ks us) ∙ and-assoc (p k.ids) (keyed_ids p ks) (keyed_ids p us)

pub keyed_ids-pushed : (p : List ℕ → Bool) (ks us : List Keyed) (k : Keyed) (ids : List ℕ) → us ≡ ks ++ k ∷ [] → k.ids ≡ ids → p ids ≡ true → keyed_ids p us ≡ keyed_ids p ks
keyed_ids-pushed p ks us k ids e c h = ap (keyed_ids p) e ∙ (keyed_ids-append p ks (k ∷ []) ∙ and-true (keyed_ids p ks) (p k.ids) (ap p c ∙ h))

abbrev with_ids : List ℕ → List Value → List (List ℕ × Value)
with_ids ids [] = []
with_ids ids (v ∷ vs) = (ids, v) ∷ with_ids ids vs

with_ids-step : (ids : List ℕ) (b : Bool) (v : Value) (vs : List Value) (xs : List (List ℕ × Value)) → xs ≡ with_ids ids vs → (if b then (ids, v) ∷ xs else xs) ≡ with_ids ids (if b then v ∷ vs else vs)
with_ids-step ids true v vs xs e = ap (λ l. (ids, v) ∷ l) e
with_ids-step ids false v vs xs e = e

with_ids-seen : (w : ℕ → Bool) (ids : List ℕ) (ps : List (List (ℕ × Bool) × Value)) → key_leaves w ids ps ≡ with_ids ids (leaves_seen w ps)
with_ids-seen w ids [] = refl
with_ids-seen w ids (p ∷ ps) = with_ids-step ids (holds w p.0) p.1 (leaves_seen w ps) (key_leaves w ids ps) (with_ids-seen w ids ps)

with_ids-one : (ids : List ℕ) (b : Bool) (v : Value) → with_ids ids (if b then v ∷ [] else []) ≡ if◌then◌else◌ {A = List (List ℕ × Value)} b ((ids, v) ∷ []) []
with_ids-one ids true v = refl
with_ids-one ids false v = refl

pub keys_seen : (w : ℕ → Bool) (ids : List ℕ) (ps : List (List (ℕ × Bool) × Value)) (b : Bool) (v : Value) → leaves_seen w ps ≡ (if b then v ∷ [] else []) →
    key_leaves w ids ps ≡ if◌then◌else◌ {A = List (List ℕ × Value)} b ((ids, v) ∷ []) []
keys_seen w ids ps b v e = with_ids-seen w ids ps ∙ (ap (with_ids ids) e ∙ with_ids-one ids b v)

pub keyed-order : (down : Bool) → IsStrictWeakOrder (keyed_less down)
keyed-order false = ranks_by total-law (λ (k : Keyed). k.key)
keyed-order true = IsStrictWeakOrder-flip (keyed_less false) (ranks_by total-law (λ (k : Keyed). k.key))

pub pair-order : (down : Bool) → IsStrictWeakOrder (key_less down)
pair-order false = ranks_by total-law (λ (p : List ℕ × Value). p.1)
pair-order true = IsStrictWeakOrder-flip (key_less false) (ranks_by total-law (λ (p : List ℕ × Value). p.1))

module _ (down : Bool) (w : ℕ → Bool) where
  none_if : (p q : List ℕ × Value) (qs : List (List ℕ × Value)) (b : Bool) → key_less down q p ≡ false → NoneLess (key_less down) p qs → NoneLess (key_less down) p (if b then q ∷ qs else qs)
  none_if p q qs true e n = (e, n)
  none_if p q qs false e n = n

  none-kept : (k : Keyed) (ks : List Keyed) → NoneLess (keyed_less down) k ks → NoneLess (key_less down) (k.ids, k.key) (keyed_at w ks)
  none-kept k [] n = tt
  none-kept k (j ∷ js) n = none_if (k.ids, k.key) (j.ids, j.key) (keyed_at w js) (holds w j.guard) n.0 (none-kept k js n.1)

  up_if : (q : List ℕ × Value) (qs : List (List ℕ × Value)) (b : Bool) → NoneLess (key_less down) q qs → IsUp (key_less down) qs → IsUp (key_less down) (if b then q ∷ qs else qs)
  up_if q qs true n u = (n, u)
  up_if q qs false n u = u

  up-kept : (ks : List Keyed) → IsUp (keyed_less down) ks → IsUp (key_less down) (keyed_at w ks)
  up-kept [] u = tt
  up-kept (k ∷ ks) u = up_if (k.ids, k.key) (keyed_at w ks) (holds w k.guard) (none-kept k ks u.0) (up-kept ks u.1)

  filter_step : (p : List ℕ × Value) (k : Keyed) (ks fs : List Keyed) (h t : Bool) → holds w k.guard ≡ h → ties (key_less down) p (k.ids, k.key) ≡ t →
      filter (ties (key_less down) p) (keyed_at w ks) ≡ keyed_at w fs →
      filter (ties (key_less down) p) (if h then (k.ids, k.key) ∷ keyed_at w ks else keyed_at w ks) ≡ keyed_at w (cond t (k ∷ fs) fs)
  filter_step p k ks fs true true h t e =
      ap (λ b. cond b ((k.ids, k.key) ∷ filter (ties (key_less down) p) (keyed_at w ks)) (filter (ties (key_less down) p) (keyed_at w ks))) t
      ∙ (ap (λ l. (k.ids, k.key) ∷ l) e ∙ sym (ap (λ b. if b then (k.ids, k.key) ∷ keyed_at w fs else keyed_at w fs) h))
  filter_step p k ks fs true false h t e = ap (λ b. cond b ((k.ids, k.key) ∷ filter (ties (key_less down) p) (keyed_at w ks)) (filter (ties (key_less down) p) (keyed_at w ks))) t ∙ e
  filter_step p k ks fs false true h t e = e ∙ sym (ap (λ b. if b then (k.ids, k.key) ∷ keyed_at w fs else keyed_at w fs) h)
  filter_step p k ks fs false false h t e = e

  abbrev as_keyed : List ℕ × Value → Keyed
  as_keyed p = record { guard = []; ids = p.0; key = p.1 }

  -- The ties of a key may be filtered before or after those with a guard that holds.
  filter-kept : (p : List ℕ × Value) (ks : List Keyed) → filter (ties (key_less down) p) (keyed_at w ks) ≡ keyed_at w (filter (ties (keyed_less down) (as_keyed p)) ks)
  filter-kept p [] = refl
  filter-kept p (k ∷ ks) = filter_step p k ks (filter (ties (keyed_less down) (as_keyed p)) ks) (holds w k.guard) (ties (key_less down) p (k.ids, k.key)) refl refl (filter-kept p ks)

  -- The sort of all tuples shows the sort of those with a guard that holds.
  pub sorted-live : (xs ys : List Keyed) → IsSortedBy (keyed_less down) ys → IsStableBy (keyed_less down) xs ys → keyed_at w ys ≡ sorted_by (key_less down) (keyed_at w xs)
  sorted-live xs ys up stable =
      stable-is (key_less down) (pair-order down) (keyed_at w xs) (keyed_at w ys) (up-kept ys (up-from_sorted (keyed_less down) (keyed-order down) ys up))
      (λ p. filter-kept p ys ∙ (ap (keyed_at w) (stable (as_keyed p)) ∙ sym (filter-kept p xs)))

-- A sorted list with its ties in the same order as in another list is the stable sort of the other.
pub sorted-all : (down : Bool) (xs ys : List Keyed) → IsSortedBy (keyed_less down) ys → IsStableBy (keyed_less down) xs ys → ys ≡ sorted_by (keyed_less down) xs
sorted-all down xs ys up stable = stable-is (keyed_less down) (keyed-order down) xs ys (up-from_sorted (keyed_less down) (keyed-order down) ys up) stable

abbrev firsts : List (List ℕ × Value) → List (List ℕ)
firsts ps = map (λ p. p.0) ps

firsts_if : (b : Bool) (p : List ℕ × Value) (ps : List (List ℕ × Value)) (xs : List (List ℕ)) → xs ≡ firsts ps → (if b then p.0 ∷ xs else xs) ≡ firsts (if b then p ∷ ps else ps)
firsts_if true p ps xs e = ap (λ l. p.0 ∷ l) e
firsts_if false p ps xs e = e

pub live-tuples : (w : ℕ → Bool) (ks : List Keyed) → live w (tuples_of ks) ≡ firsts (keyed_at w ks)
live-tuples w [] = refl
live-tuples w (k ∷ ks) = firsts_if (holds w k.guard) (k.ids, k.key) (keyed_at w ks) (live w (tuples_of ks)) (live-tuples w ks)

pub ids-tuples : (p : List ℕ → Bool) (ks : List Keyed) → all_ids p (tuples_of ks) ≡ keyed_ids p ks
ids-tuples p [] = refl
ids-tuples p (k ∷ ks) = ap (λ b. p k.ids && b) (ids-tuples p ks)

and-first : (a b : Bool) → (a && b) ≡ true → a ≡ true
and-first true b h = refl
and-first false b h = cc

and-second : (a b : Bool) → (a && b) ≡ true → b ≡ true
and-second true b h = h
and-second false b h = cc

each_of : (p : List ℕ → Bool) (ks : List Keyed) → keyed_ids p ks ≡ true → AllByRecursion (λ (k : Keyed). p k.ids ≡ true) ks
each_of p [] h = tt
each_of p (k ∷ ks) h = (and-first (p k.ids) (keyed_ids p ks) h, each_of p ks (and-second (p k.ids) (keyed_ids p ks) h))

of_each : (p : List ℕ → Bool) (ks : List Keyed) → AllByRecursion (λ (k : Keyed). p k.ids ≡ true) ks → keyed_ids p ks ≡ true
of_each p [] h = refl
of_each p (k ∷ ks) h = and_from (p k.ids) (keyed_ids p ks) h.0 (of_each p ks h.1)

-- A permutation has the same ids.
pub keyed_ids-permutation : (p : List ℕ → Bool) (xs ys : List Keyed) → IsPermutation xs ys → keyed_ids p xs ≡ true → keyed_ids p ys ≡ true
keyed_ids-permutation p xs ys s h =
    of_each p ys (recursion_from_All (λ (k : Keyed). p k.ids ≡ true) ys
    (All-permutation (λ (k : Keyed). p k.ids ≡ true) xs ys s (All-from_recursion (λ (k : Keyed). p k.ids ≡ true) xs (each_of p xs h))))
