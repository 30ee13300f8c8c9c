-- Indexes of tables by the values of fields, and how they follow changes of the tables.
use Rattle.std.specs.Prelude.{◌≡◌, ℕ, ◌<◌, true, false, not, ◌&&◌, ◌||◌, List, length, Option, Some, None, slice_get, ⊤}
use Rattle.std.specs.BTreeMap.{get}
use Rattle.std.specs.Option.{is_some}
use Rattle.std.specs.Ordering.{nat_cmp}
use Rattle.jac_value.specs.declared.value.Value.{Value}
use Rattle.jac_rows.specs.declared.row.Row.{Row}
use Rattle.jac_rows.specs.Tables.{rows_of}
use Rattle.jac_index.specs.declared.by_value.ByValue.{ByValue}
use Rattle.jac_index.specs.Triples.{has_index_pair}
use Rattle.jac_keep.specs.declared.alteration.Alteration.{Alteration}
use Rattle.jac_keep.specs.Alterations.{alters, altered_rows}
use Rattle.jac_keep.specs.MatchingRecords.{holds_cell}
use Rattle.jac_keep.specs.Records.{alternatives, placed_rows}
use Rattle.jac_keep.specs.declared.table_index.TableIndex.{TableIndex}
use Rattle.jac_keep.specs.declared.table_indexes.TableIndexes.{TableIndexes}

-- The index contains a value with an id if and only if a row of this record has the value in the
-- field.
abbrev pub IsByField : ℕ → List Row → ByValue → Type 0
IsByField f rows b = (v : Value) (id : ℕ) → has_index_pair b v id ≡ holds_cell f v rows id

abbrev pub entry_or_none : Option (Option ByValue) → Option ByValue
entry_or_none None = None
entry_or_none (Some entry) = entry

-- The index of a field, if there is one.
abbrev pub field_index : ℕ → List (Option ByValue) → Option ByValue
field_index f fields = entry_or_none (slice_get fields f)

-- Each index of a field is an index of the rows.
abbrev pub IsIndexOf : List Row → TableIndex → Type 0
IsIndexOf rows t = (f : ℕ) (b : ByValue) → field_index f t.fields.items ≡ Some b
    → IsByField f rows b

abbrev pub IndexesField : ℕ → TableIndex → Type 0
IndexesField f t = is_some (field_index f t.fields.items) ≡ true

-- The index after rows are replaced: the pairs of the old rows are removed, then those of the new
-- rows are added.
abbrev pub IsRewritten : ℕ → List Row → List Row → ByValue → ByValue → Type 0
IsRewritten f old new b c = (v : Value) (id : ℕ)
    → has_index_pair c v id ≡ (holds_cell f v new id || (not (holds_cell f v old id)
    && has_index_pair b v id))

-- The same for a field that may have no index.
abbrev pub IsFieldAfter : ℕ → List Row → List Row → Option ByValue → Option ByValue → Type 0
IsFieldAfter f old new None after = after ≡ None
IsFieldAfter f old new (Some b) after =
    (c : ByValue) × ((after ≡ Some c) × IsRewritten f old new b c)

-- If `old` is an index of rows in which the record has the alternatives `own`, then `after` is an
-- index of these rows after `new` replaces them.
abbrev pub Follows : ℕ → List Row → List Row → TableIndex → TableIndex → Type 0
Follows id own new old after = (rows : List Row) → alternatives id rows ≡ own → IsIndexOf rows old
    → IsIndexOf (placed_rows id new rows) after

abbrev pub KeepsFields : TableIndex → TableIndex → Type 0
KeepsFields old new = (f : ℕ) → IndexesField f old → IndexesField f new

-- If an index is left, there was one before, and it follows the replacement of the record's
-- alternatives by `new`. The table wasn't empty.
abbrev pub Remains : ℕ → List Row → List Row → Option TableIndex → Option TableIndex → Type 0
Remains id rows new before after = (u : TableIndex) → after ≡ Some u
    → (t : TableIndex) × ((before ≡ Some t) × (Follows id (alternatives id rows) new t u
    × (0 < length rows)))

-- An index is kept, with an index of each of its fields.
abbrev pub IsIndexKept : Option TableIndex → Option TableIndex → Type 0
IsIndexKept before after = (t : TableIndex) → before ≡ Some t
    → (u : TableIndex) × ((after ≡ Some u) × KeepsFields t u)

-- The index of a model, if there is one.
abbrev pub index_at : ℕ → TableIndexes → Option TableIndex
index_at m t = get nat_cmp t.models m

-- Each index of a model is an index of its table.
abbrev pub AreIndexesOf : List (List Row) → TableIndexes → Type 0
AreIndexesOf tables t = (m : ℕ) (x : TableIndex) → index_at m t ≡ Some x
    → IsIndexOf (rows_of tables m) x

-- The same for indexes that may not exist yet.
abbrev pub AreIndexesIfMade : List (List Row) → Option TableIndexes → Type 0
AreIndexesIfMade tables None = ⊤
AreIndexesIfMade tables (Some t) = AreIndexesOf tables t

abbrev pub IndexesModel : ℕ → TableIndexes → Type 0
IndexesModel m t = is_some (index_at m t) ≡ true

-- The indexes after alterations of the tables. Each index that is left is an index of its table
-- after the alterations. If the alterations include a record of this table, the table wasn't empty.
-- The indexes of other tables are the same.
pub record AreAltered (table : ℕ → List Row) (changed : List Alteration)
    (old new : TableIndexes) : Type 0 where
  pub right : (m : ℕ) (x : TableIndex) → index_at m new ≡ Some x
      → IsIndexOf (altered_rows m changed (table m)) x
  pub some : (m : ℕ) (x : TableIndex) → index_at m new ≡ Some x → alters m changed ≡ true
      → 0 < length (table m)
  pub same : (m : ℕ) → alters m changed ≡ false → index_at m new ≡ index_at m old
