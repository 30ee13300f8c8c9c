-- When a database represents a state.
use Rattle.std.specs.Prelude.{◌<◌, ◌^◌, ◌≡◌, ℕ, ℤ, pos, false, List, [], ◌∷◌, map}
use Rattle.std.specs.List.{AllByRecursion}
use Rattle.std.specs.List.Sorted.{IsPermutation}
use Rattle.std.specs.Ordering.{is_eq, int_cmp}
use Rattle.sqlite_trees.specs.Tree.{IsAscending}
use Rattle.sqlite.specs.Effect.{Database}
use Rattle.sqlite_value.specs.Order.{Row as Values}
use Rattle.jac_keep.specs.declared.alteration.Alteration.{Alteration}
use Rattle.jac_rows.specs.declared.state.State.{State}
use Rattle.jac_sql_spec.specs.Facts.{Fact, facts}
use Rattle.jac_sql_spec.specs.Tables.{two_tables, meta_row}
use Rattle.jac_sql_spec.specs.Lines.{Line, encode}

-- A row of `rec` without its rowid.
abbrev pub fact : Line → Fact
fact l = record { model = l.model; jid = l.jid; alt = l.alt; jvars = l.jvars; body = l.body }

-- No rowid comes twice.
abbrev pub AreDistinct : List Line → Type 0
AreDistinct = IsAscending (λ a b. is_eq (int_cmp a.at b.at) ≡ false)

-- The rows of the table `rec` are these facts, in some order.
pub record Holds (rows : List Values) (all : List Fact) : Type 0 where
  pub lines : List Line
  pub stored : rows ≡ map encode lines
  pub rowids : AreDistinct lines
  pub same : IsPermutation (map fact lines) all

-- The database has the two tables, the state's number with this schema text, and a row for each
-- alternative.
pub record Stands (schema : List ℕ) (db : Database) (s : State) : Type 0 where
  pub schema_is : db.schema ≡ two_tables 0 1 2
  pub meta : db.trees 0 ≡ meta_row s.number schema ∷ []
  pub rec : Holds (db.trees 1) (facts s.tables)

-- The id of each altered record fits into 16 bytes.
abbrev pub AreNarrow : List Alteration → Type 0
AreNarrow = AllByRecursion (λ (a : Alteration). a.id < 2 ^ 128)
