-- Indexes of tables that are altered record by record.
use Rattle.std.proofs.Common.{◌≡◌, ◌∙◌, ◌<◌, ◌==◌, refl, sym, ap, subst, ℕ, zero, suc, Bool, true, false, ◌||◌, if◌then◌else◌, List, [], ◌∷◌, length, get_or, take, Option, Some, None, unwrap_or, arith}
use Rattle.std.proofs.lemmas.Bool.Decides.{Decides-eqb}
use Rattle.jac_value.specs.Ids.{model_of_id}
use Rattle.jac_rows.specs.declared.row.Row.{Row}
use Rattle.jac_rows.specs.Tables.{rows_of}
use Rattle.jac_keep.specs.Alterations.{AreApart, AreOwn, alters, altered_rows, alternatives_named, overlaid}
use Rattle.jac_keep.specs.Indexed.{index_at, IsIndexOf, AreIndexesOf, AreAltered, Remains}
use Rattle.jac_keep.specs.Records.{AreOf, alternatives, placed_rows}
use Rattle.jac_keep.specs.declared.alteration.Alteration.{Alteration}
use Rattle.jac_keep.specs.declared.table_index.TableIndex.{TableIndex}
use Rattle.jac_keep.specs.declared.table_indexes.TableIndexes.{TableIndexes}
use Rattle.jac_keep.proofs.AlteringLaws.{Rises, Above, placed_if, alternatives-altered}
use Rattle.jac_keep.proofs.Forgotten.{altered_table}

-- One step over the alterations.
pub own_at : (i : ℕ) (changed : List Alteration) (a : Alteration) → i < length changed → a ≡ get_or changed i a → AreOwn changed → AreOf a.id a.rows
own_at i [] a h is own = absurd (omega (arith, h))
own_at zero (x ∷ changed) a h is own = rw is own.0
own_at (suc i) (x ∷ changed) a h is own = own_at i changed a (omega (arith, h)) is own.1

altered_more : (m i : ℕ) (changed : List Alteration) (a : Alteration) (rows : List Row) → i < length changed → a ≡ get_or changed i a
    → altered_rows m (take (suc i) changed) rows ≡ placed_if (model_of_id a.id == m) a.id a.rows (altered_rows m (take i changed) rows)
altered_more m i [] a rows h is = absurd (omega (arith, h))
altered_more m zero (x ∷ changed) a rows h is = rw is refl
altered_more m (suc i) (x ∷ changed) a rows h is = altered_more m i changed a (if model_of_id x.id == m then placed_rows x.id x.rows rows else rows) (omega (arith, h)) is

alters_more : (m i : ℕ) (changed : List Alteration) (a : Alteration) → i < length changed → a ≡ get_or changed i a
    → alters m (take (suc i) changed) ≡ ((model_of_id a.id == m) || alters m (take i changed))
alters_more m i [] a h is = absurd (omega (arith, h))
alters_more m zero (x ∷ changed) a h is = rw is refl
alters_more m (suc i) (x ∷ changed) a h is =
    ap (λ b. (model_of_id x.id == m) || b) (alters_more m i changed a (omega (arith, h)) is)
    ∙ turned (model_of_id x.id == m) (model_of_id a.id == m) (alters m (take i changed))
  where
    turned : (p q r : Bool) → (p || (q || r)) ≡ (q || (p || r))
    turned true true r = refl
    turned true false r = refl
    turned false true r = refl
    turned false false r = refl

above_at : (k i : ℕ) (changed : List Alteration) (a : Alteration) → i < length changed → a ≡ get_or changed i a → Above k changed → Rises changed → k < a.id
above_at k i [] a h is above rises = absurd (omega (arith, h))
above_at k zero (x ∷ changed) a h is above rises = rw is above
above_at k (suc i) (x ∷ changed) a h is above rises =
    let later : x.id < a.id = above_at x.id i changed a (omega (arith, h)) is rises.0 rises.1 in
    omega (arith, above, later)

named_not : (id : ℕ) (x : Alteration) (rest : List Alteration) → x.id < id → alternatives_named id rest ≡ None → alternatives_named id (x ∷ rest) ≡ None
named_not id x rest less none = grind (arith, less, none)

unnamed : (i : ℕ) (changed : List Alteration) (a : Alteration) → i < length changed → a ≡ get_or changed i a → Rises changed → alternatives_named a.id (take i changed) ≡ None
unnamed i [] a h is rises = absurd (omega (arith, h))
unnamed zero (x ∷ changed) a h is rises = refl
unnamed (suc i) (x ∷ changed) a h is rises =
    named_not a.id x (take i changed) (above_at x.id i changed a (omega (arith, h)) is rises.0 rises.1) (unnamed i changed a (omega (arith, h)) is rises.1)

above_taken : (k i : ℕ) (changed : List Alteration) → Above k changed → Above k (take i changed)
above_taken k zero changed above = tt
above_taken k (suc i) [] above = tt
above_taken k (suc i) (x ∷ changed) above = above

rises_taken : (i : ℕ) (changed : List Alteration) → Rises changed → Rises (take i changed)
rises_taken zero changed rises = tt
rises_taken (suc i) [] rises = tt
rises_taken (suc i) (x ∷ changed) rises = (above_taken x.id i changed rises.0, rises_taken i changed rises.1)

own_taken : (i : ℕ) (changed : List Alteration) → AreOwn changed → AreOwn (take i changed)
own_taken zero changed own = tt
own_taken (suc i) [] own = tt
own_taken (suc i) (x ∷ changed) own = (own.0, own_taken i changed own.1)

-- A record's alternatives are the same until its own alteration.
unaltered_yet : (i : ℕ) (changed : List Alteration) (a : Alteration) (rows : List Row) → i < length changed → a ≡ get_or changed i a → AreApart changed
    → alternatives a.id (altered_rows (model_of_id a.id) (take i changed) rows) ≡ alternatives a.id rows
unaltered_yet i changed a rows h is apart =
    alternatives-altered a.id (take i changed) rows (rises_taken i changed apart.rising) (own_taken i changed apart.own)
    ∙ ap (λ (o : Option (List Row)). unwrap_or o (alternatives a.id rows)) (unnamed i changed a h is apart.rising)

module _ (table : ℕ → List Row) (changed : List Alteration) (i next : ℕ) (a : Alteration) (apart : AreApart changed) (h : i < length changed) (is : a ≡ get_or changed i a) (more : next ≡ suc i)
    (old before after : TableIndexes) (so_far : AreAltered table (take i changed) old before)
    (others : (m : ℕ) → (model_of_id a.id == m) ≡ false → index_at m after ≡ index_at m before)
    (left : Remains a.id (table (model_of_id a.id)) a.rows (index_at (model_of_id a.id) before) (index_at (model_of_id a.id) after)) where
  right_here : (u : TableIndex) → index_at (model_of_id a.id) after ≡ Some u
      → IsIndexOf (placed_rows a.id a.rows (altered_rows (model_of_id a.id) (take i changed) (table (model_of_id a.id)))) u
  right_here u at =
      let found = left u at in
      found.1.1.0 (altered_rows (model_of_id a.id) (take i changed) (table (model_of_id a.id)))
      (unaltered_yet i changed a (table (model_of_id a.id)) h is apart)
      (so_far.right (model_of_id a.id) found.0 found.1.0)

  right_at : (m : ℕ) (b : Bool) (x : TableIndex) → (model_of_id a.id == m) ≡ b → index_at m after ≡ Some x
      → IsIndexOf (placed_if b a.id a.rows (altered_rows m (take i changed) (table m))) x
  right_at m true x e at =
      let same : model_of_id a.id ≡ m = (Decides-eqb (model_of_id a.id) m).0 e in
      subst (λ k. index_at k after ≡ Some x → IsIndexOf (placed_rows a.id a.rows (altered_rows k (take i changed) (table k))) x) same (right_here x) at
  right_at m false x e at = so_far.right m x (sym (others m e) ∙ at)

  some_at : (m : ℕ) (b : Bool) (x : TableIndex) → (model_of_id a.id == m) ≡ b → index_at m after ≡ Some x → (b || alters m (take i changed)) ≡ true → 0 < length (table m)
  some_at m true x e at hit =
      let same : model_of_id a.id ≡ m = (Decides-eqb (model_of_id a.id) m).0 e in
      subst (λ k. index_at k after ≡ Some x → 0 < length (table k)) same (λ here. (left x here).1.1.1) at
  some_at m false x e at hit = so_far.some m x (sym (others m e) ∙ at) hit

  same_at : (m : ℕ) (b : Bool) → (model_of_id a.id == m) ≡ b → (b || alters m (take i changed)) ≡ false → index_at m after ≡ index_at m old
  same_at m true e none = absurd cc
  same_at m false e none = others m e ∙ so_far.same m none

  altered_suc : AreAltered table (take (suc i) changed) old after
  altered_suc = record {
    right = λ m x at.
        subst (λ (rows : List Row). IsIndexOf rows x) (sym (altered_more m i changed a (table m) h is))
        (right_at m (model_of_id a.id == m) x refl at);
    some = λ m x at hit. some_at m (model_of_id a.id == m) x refl at (sym (alters_more m i changed a h is) ∙ hit);
    same = λ m none. same_at m (model_of_id a.id == m) refl (sym (alters_more m i changed a h is) ∙ none);
  }

  pub altered_next : AreAltered table (take next changed) old after
  altered_next = subst (λ n. AreAltered table (take n changed) old after) (sym more) altered_suc

-- The indexes are those of the tables after the alterations.
pub indexes_follow : (tables : List (List Row)) (changed : List Alteration) (old new : TableIndexes) → AreAltered (rows_of tables) changed old new → AreIndexesOf (overlaid changed tables) new
indexes_follow tables changed old new all m x is =
    subst (λ (rows : List Row). IsIndexOf rows x) (altered_table m changed tables (all.some m x is)) (all.right m x is)
