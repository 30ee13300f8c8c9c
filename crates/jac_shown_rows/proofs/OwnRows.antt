-- Tests of all rows, and rows whose guards name only labels of one record.
use Rattle.std.proofs.Common.{◌≡◌, refl, ap, sym, ◌∙◌, ℕ, zero, suc, ◌<◌, ◌==◌, Bool, true, false, not, ◌||◌, if◌then◌else◌, List, [], ◌∷◌, ◌++◌, length, get_or, Option, None, Some, Result, Ok, Err, arith}
use Rattle.std.specs.Prelude.{IfOk}
use Rattle.std.specs.List.{list_all}
use Rattle.std.proofs.lemmas.Bool.{and_parts, and_from, or_right}
use Rattle.std.proofs.lemmas.Bool.Decides.{Decides-eqb}
use Rattle.std.proofs.lemmas.List.Folds.{list_all-append}
use Rattle.jac_value.specs.declared.value.Value.{Value}
use Rattle.jac_value.specs.declared.value.Value.TheVariants as value
use Rattle.jac_value.specs.Ids.{record_of_label}
use Rattle.jac_world.specs.World.{shown_by}
use Rattle.jac_rows.specs.declared.row.Row.{Row}
use Rattle.jac_keep.specs.Records.{alternatives, with_id}
use Rattle.jac_shown_rows.specs.Own.{is_of, IsOwn, has_own_guard, is_own_row, are_own_rows, is_own_table, reads_own}

pub or_less : (a b c : Bool) → (b ≡ true → c ≡ true) → (a || b) ≡ true → (a || c) ≡ true
or_less true b c h t = refl
or_less false b c h t = h t

-- What passes one test passes the other.
pub all_less : {X : Type 0} (p q : X → Bool) → ((x : X) → p x ≡ true → q x ≡ true) → (xs : List X) → list_all p xs ≡ true → list_all q xs ≡ true
all_less p q f [] h = refl
all_less p q f (x ∷ xs) h = let a = and_parts (p x) (list_all p xs) h in and_from (q x) (list_all q xs) (f x a.0) (all_less p q f xs a.1)

pub all_if : {X : Type 0} (p : X → Bool) (b : Bool) (x : X) (xs : List X) → p x ≡ true → list_all p xs ≡ true → list_all p (if b then x ∷ xs else xs) ≡ true
all_if p true x xs h hs = and_from (p x) (list_all p xs) h hs
all_if p false x xs h hs = hs

pub all_append : {X : Type 0} (p : X → Bool) (xs ys : List X) → list_all p xs ≡ true → list_all p ys ≡ true → list_all p (xs ++ ys) ≡ true
all_append p xs ys h g = list_all-append p xs ys ∙ and_from (list_all p xs) (list_all p ys) h g

-- One of them, by its place.
pub all_at : {X : Type 0} (p : X → Bool) (xs : List X) (x : X) (i : ℕ) → x ≡ get_or xs i x → i < length xs → list_all p xs ≡ true → p x ≡ true
all_at p [] x i item below h = absurd (omega (arith, below))
all_at p (y ∷ xs) x zero item below h = ap p item ∙ (and_parts (p y) (list_all p xs) h).0
all_at p (y ∷ xs) x (suc i) item below h = all_at p xs x i item (omega (arith, below)) (and_parts (p y) (list_all p xs) h).1

pub all_head : {X : Type 0} (p : X → Bool) (x : X) (xs all : List X) → all ≡ x ∷ xs → list_all p all ≡ true → (p x ≡ true) × (list_all p xs ≡ true)
all_head p x xs all e h = and_parts (p x) (list_all p xs) (ap (list_all p) (sym e) ∙ h)

pub all_with_id : (p : Row → Bool) (test : ℕ → Bool) (rows : List Row) → list_all p rows ≡ true → list_all p (with_id test rows) ≡ true
all_with_id p test [] h = refl
all_with_id p test (r ∷ rows) h =
    let a = and_parts (p r) (list_all p rows) h in
    all_if p (test r.id) r (with_id test rows) a.0 (all_with_id p test rows a.1)

pub all_alternatives : (p : Row → Bool) (id : ℕ) (rows : List Row) → list_all p rows ≡ true → list_all p (alternatives id rows) ≡ true
all_alternatives p id rows h = all_with_id p (λ i. i == id) rows h

-- Supports.

pub own_same : (this : Option ℕ) (s : List ℕ) → IsOwn this s → IsOwn this s
own_same this s h = h

pub own_with : (this : Option ℕ) (old new : List ℕ) (label : ℕ) → ((k : ℕ) → shown_by new k ≡ ((label == k) || shown_by old k)) → is_of this (record_of_label label) ≡ true → IsOwn this old → IsOwn this new
own_with this old new label more one own = record { each = λ k s. each_if k (label == k) refl (sym (more k) ∙ s) }
  where
    each_if : (k : ℕ) (b : Bool) → (label == k) ≡ b → (b || shown_by old k) ≡ true → is_of this (record_of_label k) ≡ true
    each_if k true e s = ap (λ (n : ℕ). is_of this (record_of_label n)) (sym ((Decides-eqb label k).0 e)) ∙ one
    each_if k false e s = own.each k s

pub rows_of_table : (this : Option ℕ) (id : ℕ) (rows : List Row) → is_own_table this rows ≡ true → are_own_rows this id rows ≡ true
rows_of_table this id rows h = all_less (has_own_guard this) (is_own_row this id) (λ r g. or_right (not (r.id == id)) (has_own_guard this r) g) rows h

-- Whatever is read in such a table is read from such rows.
pub any_read : (this : Option ℕ) (v : Value) (rows : List Row) → is_own_table this rows ≡ true → reads_own this v rows ≡ true
any_read this (value.Int i) rows h = refl
any_read this (value.Text t) rows h = refl
any_read this (value.Bool b) rows h = refl
any_read this (value.Ref None) rows h = refl
any_read this (value.Ref (Some id)) rows h = rows_of_table this id rows h

-- What follows from a value, if there is one.
pub if_ok : {T E : Type 0} → (r : Result T E) (P Q : T → Type 0) → ((x : T) → P x → Q x) → IfOk r P → IfOk r Q
if_ok (Ok x) P Q f h = f x h
if_ok (Err e) P Q f h = tt
