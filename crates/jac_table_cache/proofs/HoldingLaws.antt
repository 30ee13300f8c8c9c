-- The indexes remain indexes of the held tables.
use Rattle.std.proofs.Common.{◌≡◌, ℕ, zero, suc, ◌==◌, Bool, true, false, if◌then◌else◌, List, [], ◌∷◌, Option, Some, None, IfSome, Result, Ok, Err, OnOk, OnErr, refl, sym, ap, ◌∙◌, subst}
use Rattle.std.proofs.lemmas.Bool.Decides.{Decides-eqb}
use Rattle.jac_value.specs.declared.memory.Memory.{Memory}
use Rattle.jac_rows.specs.Tables.{rows_of, rows_or_none}
use Rattle.jac_rows.specs.declared.row.Row.{Row}
use Rattle.jac_keep.specs.declared.alteration.Alteration.{Alteration}
use Rattle.jac_keep.specs.declared.table_index.TableIndex.{TableIndex}
use Rattle.jac_keep.specs.declared.table_indexes.TableIndexes.{TableIndexes}
use Rattle.jac_keep.specs.Alterations.{alters, altered_rows}
use Rattle.jac_keep.specs.Indexed.{index_at, IsIndexOf, AreIndexesOf, AreAltered}
use Rattle.jac_keep.specs.Records.{AreOrdered, are_in_order}
use Rattle.jac_keep.proofs.OrderLaws.{ordered_if_tested}
use Rattle.jac_table_cache.specs.Held.{held, rows_held, IsAfter, IsHolding, IsLater}

-- The rows of each held table, and no rows for each other model.
abbrev pub all_held : List (Option (List Row)) → List (List Row)
all_held [] = []
all_held (t ∷ ts) = rows_or_none t ∷ all_held ts

pub rows_of_all : (tables : List (Option (List Row))) (model : ℕ) → rows_of (all_held tables) model ≡ rows_held model tables
rows_of_all [] zero = refl
rows_of_all [] (suc model) = refl
rows_of_all (t ∷ tables) zero = refl
rows_of_all (t ∷ tables) (suc model) = rows_of_all tables model

pub are_indexes : (tables : List (Option (List Row))) (indexes : TableIndexes) → IsHolding tables indexes → AreIndexesOf (all_held tables) indexes
are_indexes tables indexes holding m x is = subst (λ (rows : List Row). IsIndexOf rows x) (sym (rows_of_all tables m)) (holding.indexed m x is)

pub is_holding : (tables : List (Option (List Row))) (old new : TableIndexes) → IsHolding tables old → AreIndexesOf (all_held tables) new → IsHolding tables new
is_holding tables old new holding right = record {
  ordered = holding.ordered;
  indexed = λ m x is. subst (λ (rows : List Row). IsIndexOf rows x) (rows_of_all tables m) (right m x is);
}

-- If no table is held.
pub holding_none : (indexes : TableIndexes) → ((tables : List (List Row)) → AreIndexesOf tables indexes) → IsHolding [] indexes
holding_none indexes right = record {
  ordered = λ m. subst AreOrdered (rows_of_all [] m) (none m);
  indexed = λ m x is. subst (λ (rows : List Row). IsIndexOf rows x) (rows_of_all [] m) (right [] m x is);
}
  where
    none : (m : ℕ) → AreOrdered (rows_of [] m)
    none zero = tt
    none (suc m) = tt

-- If the table isn't held afterwards, an index that is left is of a table that wasn't altered.
indexed_none : (b : Bool) (before after : Option (List Row)) (old mid : Option TableIndex) (x : TableIndex) → (b ≡ false → after ≡ before) → (b ≡ false → mid ≡ old)
    → (old ≡ Some x → IsIndexOf (rows_or_none before) x) → (if b then None else mid) ≡ Some x → IsIndexOf (rows_or_none after) x
indexed_none true before after old mid x same kept indexed is = absurd cc
indexed_none false before after old mid x same kept indexed is =
    subst (λ (t : Option (List Row)). IsIndexOf (rows_or_none t) x) (sym (same refl)) (indexed (sym (kept refl) ∙ is))

indexed_some : (m : ℕ) (changed : List Alteration) (before : Option (List Row)) (rows : List Row) (x : TableIndex) → IsAfter m changed before rows
    → IsIndexOf (altered_rows m changed (rows_or_none before)) x → IsIndexOf rows x
indexed_some m changed before rows x after right =
    subst (λ (r : List Row). IsIndexOf r x) (ap (λ t. altered_rows m changed (rows_or_none t)) after.was ∙ sym after.same) right

module _ (changed : List Alteration) (before after : List (Option (List Row))) (old mid new : TableIndexes) (holding : IsHolding before old)
    (same : (m : ℕ) → alters m changed ≡ false → held m after ≡ held m before) (later : (m : ℕ) → IsLater m changed (held m before) (held m after))
    (all : AreAltered (λ m. rows_held m before) changed old mid) (gone : (m : ℕ) → held m after ≡ None → index_at m new ≡ (if alters m changed then None else index_at m mid))
    (kept : (m : ℕ) (rows : List Row) → held m after ≡ Some rows → index_at m new ≡ index_at m mid) where
  indexed_after : (m : ℕ) (x : TableIndex) (table : Option (List Row)) → held m after ≡ table → index_at m new ≡ Some x → IsIndexOf (rows_or_none table) x
  indexed_after m x None e is =
      subst (λ (t : Option (List Row)). IsIndexOf (rows_or_none t) x) e
      (indexed_none (alters m changed) (held m before) (held m after) (index_at m old) (index_at m mid) x (same m) (all.same m) (holding.indexed m x) (sym (gone m e) ∙ is))
  indexed_after m x (Some rows) e is =
      indexed_some m changed (held m before) rows x ((later m).left rows e) (all.right m x (sym (kept m rows e) ∙ is))

  pub holding_left : ((m : ℕ) → AreOrdered (rows_held m after)) → IsHolding after new
  holding_left ordered = record {
    ordered = ordered;
    indexed = λ m x is. indexed_after m x (held m after) refl is;
  }

-- Dropping the index of a model that isn't held changes no index of a held model. For a held model
-- nothing is dropped.
pub gone_held : (model m : ℕ) (tables : List (Option (List Row))) (rows : List Row) (found : Option TableIndex) → held model tables ≡ Some rows → held m tables ≡ None
    → found ≡ (if model == m then None else found)
gone_held model m tables rows found is none = by_case (model == m) refl
  where
    by_case : (b : Bool) → (model == m) ≡ b → found ≡ (if b then None else found)
    by_case true e =
        let same : model ≡ m = (Decides-eqb model m).0 e in
        absurd (clash (sym none ∙ ap (λ k. held k tables) (sym same) ∙ is))
      where
        clash : None ≡ Some rows → ⊥
        clash bad = absurd cc
    by_case false e = refl

pub same_held : (model m : ℕ) (tables : List (Option (List Row))) (rows : List Row) (before after : Option TableIndex) → held model tables ≡ None → held m tables ≡ Some rows
    → after ≡ (if model == m then None else before) → after ≡ before
same_held model m tables rows before after none is left = by_case (model == m) refl left
  where
    by_case : (b : Bool) → (model == m) ≡ b → after ≡ (if b then None else before) → after ≡ before
    by_case true e gone =
        let same : model ≡ m = (Decides-eqb model m).0 e in
        absurd (clash (sym none ∙ ap (λ k. held k tables) same ∙ is))
      where
        clash : None ≡ Some rows → ⊥
        clash bad = absurd cc
    by_case false e gone = gone

-- After a step the held rows are still ordered by rising id.
pub ordered_step : (b : Bool) (put table : Option (List Row)) → IfSome put AreOrdered → AreOrdered (rows_or_none table)
    → AreOrdered (rows_or_none (if b then put else (if b then None else table)))
ordered_step true None table put old = tt
ordered_step true (Some rows) table put old = put
ordered_step false put table ordered old = old

-- One more table is held, and its model has no index.
ordered_put : (b : Bool) (rows : List Row) (table : Option (List Row)) → AreOrdered rows → AreOrdered (rows_or_none table)
    → AreOrdered (rows_or_none (if b then Some rows else table))
ordered_put true rows table new old = new
ordered_put false rows table new old = old

indexed_put : (b : Bool) (rows : List Row) (table : Option (List Row)) (found : Option TableIndex) (x : TableIndex) → (found ≡ Some x → IsIndexOf (rows_or_none table) x)
    → (if b then None else found) ≡ Some x → IsIndexOf (rows_or_none (if b then Some rows else table)) x
indexed_put true rows table found x indexed is = absurd cc
indexed_put false rows table found x indexed is = indexed is

indexed_same : (b : Bool) (table : Option (List Row)) (found : Option TableIndex) (x : TableIndex) → (found ≡ Some x → IsIndexOf (rows_or_none table) x)
    → (if b then None else found) ≡ Some x → IsIndexOf (rows_or_none table) x
indexed_same true table found x indexed is = absurd cc
indexed_same false table found x indexed is = indexed is

pub holding_put : (result : Result (Unit {0}) Memory) (model : ℕ) (rows : List Row) (before after : List (Option (List Row))) (old new : TableIndexes) → IsHolding before old
    → are_in_order 0 rows ≡ true → ((m : ℕ) → index_at m new ≡ (if model == m then None else index_at m old))
    → OnOk result ((m : ℕ) → held m after ≡ (if model == m then Some rows else held m before)) → OnErr result ((m : ℕ) → held m after ≡ held m before)
    → IsHolding after new
holding_put (Ok done) model rows before after old new holding order gone put kept = record {
  ordered = λ m.
      subst (λ t. AreOrdered (rows_or_none t)) (sym (put m))
      (ordered_put (model == m) rows (held m before) (ordered_if_tested 0 rows order) (holding.ordered m));
  indexed = λ m x is.
      subst (λ (t : Option (List Row)). IsIndexOf (rows_or_none t) x) (sym (put m))
      (indexed_put (model == m) rows (held m before) (index_at m old) x (holding.indexed m x) (sym (gone m) ∙ is));
}
holding_put (Err e) model rows before after old new holding order gone put kept = record {
  ordered = λ m. subst (λ t. AreOrdered (rows_or_none t)) (sym (kept m)) (holding.ordered m);
  indexed = λ m x is.
      subst (λ (t : Option (List Row)). IsIndexOf (rows_or_none t) x) (sym (kept m))
      (indexed_same (model == m) (held m before) (index_at m old) x (holding.indexed m x) (sym (gone m) ∙ is));
}
