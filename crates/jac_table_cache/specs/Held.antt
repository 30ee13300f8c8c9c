-- The tables of a keeper that are cached.
use Rattle.std.specs.Prelude.{◌≡◌, ◌<◌, ℕ, true, List, [], length, Option, Some, None, slice_get, IsTrue}
use Rattle.jac_rows.specs.Good.{IsSound}
use Rattle.jac_rows.specs.Tables.{rows_of, rows_or_none}
use Rattle.jac_rows.specs.declared.row.Row.{Row}
use Rattle.jac_rows.specs.declared.state.State.{State}
use Rattle.jac_keep.specs.declared.alteration.Alteration.{Alteration}
use Rattle.jac_keep.specs.Alterations.{alters, altered_rows}
use Rattle.jac_keep.specs.declared.table_index.TableIndex.{TableIndex}
use Rattle.jac_keep.specs.declared.table_indexes.TableIndexes.{TableIndexes}
use Rattle.jac_keep.specs.Indexed.{index_at, IsIndexOf}
use Rattle.jac_keep.specs.Records.{AreOrdered}
use Rattle.jac_keep.specs.KeeperSeen.{KeeperSeen}

-- A keeper, and its tables that are held.
pub record Cached (K : Type 0) : Type 0 where
  pub keeper : K
  pub tables : List (Option (List Row))

-- No table is held.
abbrev pub HoldsNothing : {K : Type 0} → Cached K → Type 0
HoldsNothing c = c.tables ≡ []

abbrev pub table_or_none : Option (Option (List Row)) → Option (List Row)
table_or_none None = None
table_or_none (Some table) = table

-- The table of a model, if it is held.
abbrev pub held : ℕ → List (Option (List Row)) → Option (List Row)
held model tables = table_or_none (slice_get tables model)

-- The rows of a model's held table. There are none if the table isn't held.
abbrev pub rows_held : ℕ → List (Option (List Row)) → List Row
rows_held model tables = rows_or_none (held model tables)

-- The rows of each held table are ordered by rising id, and each index is an index of those rows.
pub record IsHolding (tables : List (Option (List Row))) (indexes : TableIndexes) : Type 0 where
  pub ordered : (model : ℕ) → AreOrdered (rows_held model tables)
  pub indexed : (model : ℕ) (x : TableIndex) → index_at model indexes ≡ Some x
      → IsIndexOf (rows_held model tables) x

-- The rows are those of the model in a sound state.
pub record IsTableIn (s : State) (model : ℕ) (rows : List Row) : Type 0 where
  pub sound : IsSound s
  pub same : rows ≡ rows_of s.tables model

-- If the keeper's contents are known, each held table is the model's table in the keeper's state.
pub record AreHeld (seen : KeeperSeen) (tables : List (Option (List Row))) : Type 0 where
  pub shown : IsTrue seen.tells → (model : ℕ) (rows : List Row) → held model tables ≡ Some rows
      → IsTableIn seen.state model rows

-- The rows are what the alterations make of the table that was held before. If they alter this
-- model, that table wasn't empty.
pub record IsAfter (model : ℕ) (changed : List Alteration) (before : Option (List Row))
    (rows : List Row) : Type 0 where
  pub old : List Row
  pub was : before ≡ Some old
  pub same : rows ≡ altered_rows model changed old
  pub some : alters model changed ≡ true → 0 < length old

-- If a table is held after the alterations, it is what they make of the table before.
pub record IsLater (model : ℕ) (changed : List Alteration)
    (before after : Option (List Row)) : Type 0 where
  pub left : (rows : List Row) → after ≡ Some rows → IsAfter model changed before rows
