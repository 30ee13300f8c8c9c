-- The records of one binder in the order of their keys.
use Rattle.std.proofs.Common.{◌≡◌, refl, sym, ap, ◌∙◌, ℕ, Bool, true, false, if◌then◌else◌, List, [], ◌∷◌, ◌++◌, map, append_assoc, append-nil, Some}
use Rattle.std.specs.Cmp.{IsStrictWeakOrder}
use Rattle.std.proofs.lemmas.List.Sorted.{ranks_by, IsStrictWeakOrder-flip}
use Rattle.jac_value.specs.contracts.value.ValueOrd.TheImpl.Laws.{total-law}
use Rattle.jac_value.specs.declared.value.Value.{Value}
use Rattle.jac_value.specs.declared.value.Value.TheVariants as value
use Rattle.jac_lang.specs.declared.queries.Binder.{Binder}
use Rattle.jac_lang.specs.Lookup.{same_text}
use Rattle.jac_plain.specs.Expressions.{key_of, sorted_tuples}
use Rattle.jac_plain.specs.World.{World, got}
use Rattle.jac_query.specs.Sorted.{insert_by, sorted_by, value_less, key_less}
use Rattle.jac_pruned.specs.OneSorted.{id_less}
use Rattle.jac_pruned.specs.Tupled.{keyed_by}
use Rattle.jac_shown_rows.specs.RecordIds.{keyed_each, lengthened_tuples}
use Rattle.jac_pruned.proofs.Keyed.{sorted-is}

pub id-order : (down : Bool) → IsStrictWeakOrder (id_less down)
id-order false = ranks_by total-law (λ (p : ℕ × Value). p.1)
id-order true = IsStrictWeakOrder-flip (id_less false) (ranks_by total-law (λ (p : ℕ × Value). p.1))

-- Tuples of one id each.
abbrev tupled : List (ℕ × Value) → List (List ℕ × Value)
tupled [] = []
tupled (p ∷ ps) = (p.0 ∷ [], p.1) ∷ tupled ps

insert_if : (b : Bool) (p q : ℕ × Value) (xs ys : List (ℕ × Value)) (zs : List (List ℕ × Value)) → tupled xs ≡ zs →
    tupled (if b then q ∷ xs else p ∷ (q ∷ ys)) ≡ (if b then (q.0 ∷ [], q.1) ∷ zs else (p.0 ∷ [], p.1) ∷ ((q.0 ∷ [], q.1) ∷ tupled ys))
insert_if true p q xs ys zs h = ap (λ l. (q.0 ∷ [], q.1) ∷ l) h
insert_if false p q xs ys zs h = refl

insert-tupled : (down : Bool) (p : ℕ × Value) (ps : List (ℕ × Value)) →
    tupled (insert_by (id_less down) p ps) ≡ insert_by (key_less down) (p.0 ∷ [], p.1) (tupled ps)
insert-tupled down p [] = refl
insert-tupled down p (q ∷ ps) =
    insert_if (value_less down q.1 p.1) p q (insert_by (id_less down) p ps) ps (insert_by (key_less down) (p.0 ∷ [], p.1) (tupled ps)) (insert-tupled down p ps)

sorted-tupled : (down : Bool) (ps : List (ℕ × Value)) → tupled (sorted_by (id_less down) ps) ≡ sorted_by (key_less down) (tupled ps)
sorted-tupled down [] = refl
sorted-tupled down (p ∷ ps) =
    insert-tupled down p (sorted_by (id_less down) ps) ∙ ap (insert_by (key_less down) (p.0 ∷ [], p.1)) (sorted-tupled down ps)

firsts-tupled : (ps : List (ℕ × Value)) → lengthened_tuples [] (map (λ p. p.0) ps) ≡ map (λ p. p.0) (tupled ps)
firsts-tupled [] = refl
firsts-tupled (p ∷ ps) = ap (λ l. (p.0 ∷ []) ∷ l) (firsts-tupled ps)

keyed-tupled : (key : ℕ → Value) (of_tuple : List ℕ → Value) (js : List ℕ) → ((j : ℕ) → of_tuple (j ∷ []) ≡ key j) →
    tupled (keyed_each key js) ≡ keyed_by of_tuple (lengthened_tuples [] js)
keyed-tupled key of_tuple [] h = refl
keyed-tupled key of_tuple (j ∷ js) h =
    ap (λ v. (j ∷ [], v) ∷ tupled (keyed_each key js)) (sym (h j))
    ∙ ap (λ l. (j ∷ [], of_tuple (j ∷ [])) ∷ l) (keyed-tupled key of_tuple js h)

-- The ids, sorted by their keys.
pub ids_sorted : (down : Bool) (key : ℕ → Value) (of_tuple : List ℕ → Value) (js : List ℕ) (ps : List (ℕ × Value)) → ((j : ℕ) → of_tuple (j ∷ []) ≡ key j) →
    ps ≡ keyed_each key js →
    lengthened_tuples [] (map (λ p. p.0) (sorted_by (id_less down) ps)) ≡ sorted_tuples (value_less down) of_tuple (lengthened_tuples [] js)
ids_sorted down key of_tuple js ps h is =
    firsts-tupled (sorted_by (id_less down) ps)
    ∙ ap (map (λ p. p.0)) (sorted-tupled down ps)
    ∙ sorted-is down of_tuple (lengthened_tuples [] js) (tupled ps) (ap tupled is ∙ keyed-tupled key of_tuple js h)

-- The field of a binder's record by which its tuple is sorted.
pub own_key : (w : World) (b : Binder) (name field : List ℕ) (j : ℕ) → same_text b.name name ≡ true →
    key_of w (b ∷ []) name field (j ∷ []) ≡ got w b.model field (value.Ref (Some j))
own_key w b name field j same = rw same refl

-- Two functions that give each id the same key.
pub keyed_same : (f g : ℕ → Value) (js : List ℕ) → ((j : ℕ) → f j ≡ g j) → keyed_each f js ≡ keyed_each g js
keyed_same f g [] h = refl
keyed_same f g (j ∷ js) h = ap (λ v. (j, v) ∷ keyed_each f js) (h j) ∙ ap (λ l. (j, g j) ∷ l) (keyed_same f g js h)
