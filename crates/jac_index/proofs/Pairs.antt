-- The pairs of a map after the ids of one value change.
use Rattle.std.proofs.Common.{◌≡◌, ◌∙◌, refl, sym, ap, ℕ, ◌==◌, Bool, true, false, not, ◌&&◌, ◌||◌, List}
use Rattle.std.specs.Prelude.{Option, Some, None, Result, Ok, Err, OnOk, OnErr}
use Rattle.std.specs.Ordering.{is_eq}
use mathlib.Core.Bool.{cond}
use Rattle.jac_value.specs.declared.value.Value.{Value}
use Rattle.jac_value.specs.contracts.value.ValueOrd.TheImpl as order
use Rattle.jac_value.specs.contracts.value.ValueOrd.TheImpl.Laws.{matches_eq-law}
use Rattle.jac_world.specs.World.{shown_by}
use Rattle.jac_value.specs.declared.memory.Memory.{Memory}
use Rattle.jac_value.specs.SameValue.{same_value as one_value}
use Rattle.jac_index.specs.Triples.{is_same_value, ids_or_none}

pub tells : (u v : Value) → is_eq (order.ghosts.cmp u v) ≡ is_same_value u v
unfolding is_same_value
tells u v = sym (matches_eq-law u v)

pub equal : (u v : Value) → is_same_value u v ≡ true → u ≡ v
unfolding is_same_value
equal u v e = one_value u v e

abbrev Ids : Type 0
Ids = Value → Option (List ℕ)

-- The ids of one value are set.
abbrev pub SetAt : Value → List ℕ → Ids → Ids → Type 0
SetAt v ys f g = (u : Value) → g u ≡ cond (is_eq (order.ghosts.cmp v u)) (Some ys) (f u)

pub pair_added : (v : Value) (id : ℕ) (xs ys : List ℕ) (f g : Ids) → SetAt v ys f g → ((k : ℕ) → shown_by (ids_or_none (f v)) k ≡ shown_by xs k) → ((k : ℕ) → shown_by ys k ≡ ((id == k) || shown_by xs k))
    → (u : Value) (k : ℕ) → shown_by (ids_or_none (g u)) k ≡ ((is_same_value v u && (id == k)) || shown_by (ids_or_none (f u)) k)
pair_added v id xs ys f g set at more u k = by_case (is_same_value v u) refl
  where
    by_case : (b : Bool) → is_same_value v u ≡ b → shown_by (ids_or_none (g u)) k ≡ ((b && (id == k)) || shown_by (ids_or_none (f u)) k)
    by_case true e =
        ap (λ o. shown_by (ids_or_none o) k) (set u ∙ ap (λ b. cond b (Some ys) (f u)) (tells v u ∙ e))
        ∙ more k
        ∙ ap (λ b. (id == k) || b) (sym (at k) ∙ ap (λ z. shown_by (ids_or_none (f z)) k) (equal v u e))
    by_case false e = ap (λ o. shown_by (ids_or_none o) k) (set u ∙ ap (λ b. cond b (Some ys) (f u)) (tells v u ∙ e))

pub pair_removed : (v : Value) (id : ℕ) (xs ys : List ℕ) (f g : Ids) → SetAt v ys f g → ((k : ℕ) → shown_by (ids_or_none (f v)) k ≡ shown_by xs k) → ((k : ℕ) → shown_by ys k ≡ (not (id == k) && shown_by xs k))
    → (u : Value) (k : ℕ) → shown_by (ids_or_none (g u)) k ≡ (not (is_same_value v u && (id == k)) && shown_by (ids_or_none (f u)) k)
pair_removed v id xs ys f g set at less u k = by_case (is_same_value v u) refl
  where
    by_case : (b : Bool) → is_same_value v u ≡ b → shown_by (ids_or_none (g u)) k ≡ (not (b && (id == k)) && shown_by (ids_or_none (f u)) k)
    by_case true e =
        ap (λ o. shown_by (ids_or_none o) k) (set u ∙ ap (λ b. cond b (Some ys) (f u)) (tells v u ∙ e))
        ∙ less k
        ∙ ap (λ b. not (id == k) && b) (sym (at k) ∙ ap (λ z. shown_by (ids_or_none (f z)) k) (equal v u e))
    by_case false e = ap (λ o. shown_by (ids_or_none o) k) (set u ∙ ap (λ b. cond b (Some ys) (f u)) (tells v u ∙ e))

pub pair_same : (v : Value) (xs ys : List ℕ) (f g : Ids) → SetAt v ys f g → ((k : ℕ) → shown_by (ids_or_none (f v)) k ≡ shown_by xs k) → ys ≡ xs
    → (u : Value) (k : ℕ) → shown_by (ids_or_none (g u)) k ≡ shown_by (ids_or_none (f u)) k
pair_same v xs ys f g set at same u k = by_case (is_same_value v u) refl
  where
    by_case : (b : Bool) → is_same_value v u ≡ b → shown_by (ids_or_none (g u)) k ≡ shown_by (ids_or_none (f u)) k
    by_case true e =
        ap (λ o. shown_by (ids_or_none o) k) (set u ∙ ap (λ b. cond b (Some ys) (f u)) (tells v u ∙ e))
        ∙ ap (λ l. shown_by l k) same ∙ sym (at k) ∙ ap (λ z. shown_by (ids_or_none (f z)) k) (equal v u e)
    by_case false e = ap (λ o. shown_by (ids_or_none o) k) (set u ∙ ap (λ b. cond b (Some ys) (f u)) (tells v u ∙ e))

pub on_ok : (r : Result (Unit {0}) Memory) (P Q : Type 0) → (P → Q) → OnOk r P → OnOk r Q
on_ok (Ok x) P Q f p = f p
on_ok (Err e) P Q f p = tt

pub on_err : (r : Result (Unit {0}) Memory) (P Q : Type 0) → (P → Q) → OnErr r P → OnErr r Q
on_err (Ok x) P Q f p = tt
on_err (Err e) P Q f p = f p

-- A value without ids.
pub pair_none : (v : Value) (id : ℕ) (f g : Ids) → g ≡ f → f v ≡ None → (u : Value) (k : ℕ) → shown_by (ids_or_none (g u)) k ≡ (not (is_same_value v u && (id == k)) && shown_by (ids_or_none (f u)) k)
pair_none v id f g same none u k = ap (λ (h : Ids). shown_by (ids_or_none (h u)) k) same ∙ by_case (is_same_value v u) refl
  where
    by_case : (b : Bool) → is_same_value v u ≡ b → shown_by (ids_or_none (f u)) k ≡ (not (b && (id == k)) && shown_by (ids_or_none (f u)) k)
    by_case true e =
        let nothing : f u ≡ None = ap f (sym (equal v u e)) ∙ none in
        rw nothing (no (id == k))
      where
        no : (b : Bool) → false ≡ (not b && false)
        no true = refl
        no false = refl
    by_case false e = refl

-- The entry of a value without ids is removed.
pub pair_closed : (v : Value) (f g : Ids) → ((u : Value) → g u ≡ cond (is_eq (order.ghosts.cmp v u)) None (f u)) → ((k : ℕ) → shown_by (ids_or_none (f v)) k ≡ false)
    → (u : Value) (k : ℕ) → shown_by (ids_or_none (g u)) k ≡ shown_by (ids_or_none (f u)) k
pair_closed v f g gone none u k = by_case (is_same_value v u) refl
  where
    by_case : (b : Bool) → is_same_value v u ≡ b → shown_by (ids_or_none (g u)) k ≡ shown_by (ids_or_none (f u)) k
    by_case true e =
        ap (λ o. shown_by (ids_or_none o) k) (gone u ∙ ap (λ b. cond b None (f u)) (tells v u ∙ e))
        ∙ sym (none k)
        ∙ ap (λ z. shown_by (ids_or_none (f z)) k) (equal v u e)
    by_case false e = ap (λ o. shown_by (ids_or_none o) k) (gone u ∙ ap (λ b. cond b None (f u)) (tells v u ∙ e))
