-- Tables with and without an altered record, and the indexes that are left.
use Rattle.std.proofs.Common.{◌≡◌, ℕ, zero, suc, ◌+◌, ◌<◌, ◌==◌, ◌||◌, Bool, true, false, if◌then◌else◌, List, [], ◌∷◌, Option, Some, None, length, add-zero, zero-add, refl, ap, sym, ◌∙◌, subst, arith}
use Rattle.std.proofs.lemmas.Bool.{or_parts}
use Rattle.jac_value.specs.Ids.{model_of_id}
use Rattle.jac_rows.specs.declared.row.Row.{Row}
use Rattle.jac_rows.specs.Tables.{rows_of}
use Rattle.jac_keep.specs.declared.alteration.Alteration.{Alteration}
use Rattle.jac_keep.specs.declared.table_index.TableIndex.{TableIndex}
use Rattle.jac_keep.specs.declared.table_indexes.TableIndexes.{TableIndexes}
use Rattle.jac_keep.specs.Alterations.{alters, altered_rows, overlaid_from, overlaid}
use Rattle.jac_keep.specs.Indexed.{index_at, IsIndexOf, AreIndexesOf}

pub altered_other : (model : ℕ) (changed : List Alteration) (rows : List Row) → alters model changed ≡ false → altered_rows model changed rows ≡ rows
altered_other model [] rows none = refl
altered_other model (a ∷ rest) rows none =
    let both = or_parts (model_of_id a.id == model) (alters model rest) none in
    rw both.0 (altered_other model rest rows both.1)

rows_unaltered_from : (first model : ℕ) (changed : List Alteration) (tables : List (List Row)) → alters (first + model) changed ≡ false
    → rows_of (overlaid_from first changed tables) model ≡ rows_of tables model
rows_unaltered_from first zero changed [] none = refl
rows_unaltered_from first (suc model) changed [] none = refl
rows_unaltered_from first zero changed (t ∷ tables) none = altered_other first changed t (rw (add-zero first) at none)
rows_unaltered_from first (suc model) changed (t ∷ tables) none =
    let next : first + suc model ≡ (first + 1) + model = omega arith in
    rows_unaltered_from (first + 1) model changed tables (subst (λ m. alters m changed ≡ false) next none)

-- If a change alters no record of a model, its table stays the same.
pub rows_unaltered : (model : ℕ) (changed : List Alteration) (tables : List (List Row)) → alters model changed ≡ false → rows_of (overlaid changed tables) model ≡ rows_of tables model
rows_unaltered model changed tables none = rows_unaltered_from 0 model changed tables (subst (λ m. alters m changed ≡ false) (omega arith) none)

rows_altered_from : (first m : ℕ) (changed : List Alteration) (tables : List (List Row)) → 0 < length (rows_of tables m)
    → rows_of (overlaid_from first changed tables) m ≡ altered_rows (first + m) changed (rows_of tables m)
rows_altered_from first zero changed [] some = absurd (omega (arith, some))
rows_altered_from first (suc m) changed [] some = absurd (omega (arith, some))
rows_altered_from first zero changed (t ∷ tables) some = rw (add-zero first) refl
rows_altered_from first (suc m) changed (t ∷ tables) some =
    let next : (first + 1) + m ≡ first + suc m = omega arith in
    rows_altered_from (first + 1) m changed tables some ∙ ap (λ k. altered_rows k changed (rows_of tables m)) next

-- The table of a model after alterations. If a record of it is altered, it wasn't empty.
pub altered_table : (m : ℕ) (changed : List Alteration) (tables : List (List Row)) → (alters m changed ≡ true → 0 < length (rows_of tables m))
    → altered_rows m changed (rows_of tables m) ≡ rows_of (overlaid changed tables) m
altered_table m changed tables some = by_case (alters m changed) refl
  where
    by_case : (b : Bool) → alters m changed ≡ b → altered_rows m changed (rows_of tables m) ≡ rows_of (overlaid changed tables) m
    by_case true e = sym (rows_altered_from 0 m changed tables (some e) ∙ ap (λ k. altered_rows k changed (rows_of tables m)) (zero-add m))
    by_case false e = altered_other m changed (rows_of tables m) e ∙ sym (rows_unaltered m changed tables e)

-- What is left for a model after the alterations: nothing if a record of it is altered.
abbrev pub forgotten : {X : Type 0} → ℕ → List Alteration → Option X → Option X
forgotten k [] found = found
forgotten k (a ∷ rest) found = forgotten k rest (if model_of_id a.id == k then None else found)

pub forgotten_if : {X : Type 0} (k : ℕ) (rest : List Alteration) (found : Option X) → forgotten k rest found ≡ (if alters k rest then None else found)
forgotten_if k [] found = refl
forgotten_if k (a ∷ rest) found =
    forgotten_if k rest (if model_of_id a.id == k then None else found) ∙ joined (model_of_id a.id == k) (alters k rest)
  where
    joined : (b c : Bool) → (if c then None else (if b then None else found)) ≡ (if b || c then None else found)
    joined true true = refl
    joined true false = refl
    joined false c = refl

left_index : (m : ℕ) (changed : List Alteration) (tables : List (List Row)) (found : Option TableIndex) (x : TableIndex) (b : Bool) → alters m changed ≡ b
    → (found ≡ Some x → IsIndexOf (rows_of tables m) x) → (if b then None else found) ≡ Some x → IsIndexOf (rows_of (overlaid changed tables) m) x
left_index m changed tables found x true test right is = absurd cc
left_index m changed tables found x false test right is =
    subst (λ (rows : List Row). IsIndexOf rows x) (sym (rows_unaltered m changed tables test)) (right is)

-- The indexes that are left are those of the tables after the change.
pub indexes_left : (changed : List Alteration) (tables : List (List Row)) (old new : TableIndexes)
    → ((m : ℕ) → index_at m new ≡ (if alters m changed then None else index_at m old)) → AreIndexesOf tables old → AreIndexesOf (overlaid changed tables) new
indexes_left changed tables old new left right m x is =
    left_index m changed tables (index_at m old) x (alters m changed) refl (right m x) (sym (left m) ∙ is)
