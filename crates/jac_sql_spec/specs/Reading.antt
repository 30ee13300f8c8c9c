-- The rows that are read, each from the values that the database shows at its place.
use Rattle.std.specs.Prelude.{◌≡◌, ℕ, ⊤, List, [], ◌∷◌}
use Rattle.sqlite_value.specs.Order.{Row as Values, column}
use Rattle.sqlite_value.specs.declared.value.Value.TheVariants.{Blob}
use Rattle.sqlite_trees.specs.declared.store.Store.{Ghosts}
use Rattle.sqlite.specs.State.{Shown}
use Rattle.sqlite.specs.Held.{Held, state}
use Rattle.jac_value.specs.declared.value.Kind.{Kind}
use Rattle.jac_rows.specs.declared.row.Row.{Row}
use Rattle.jac_row_codec.specs.Faults.{IsIdOf, IsRowOf}
use Rattle.jac_sql_spec.specs.Facts.{Fact}
use Rattle.jac_sql_spec.specs.Statements.{SqlStatement, model_reading, record_reading}

-- The row of this id, with the guard and the cells that these columns encode.
pub record IsRowIn (guard cells : ℕ) (kinds : List Kind) (values : Values) (id : ℕ) (row : Row) :
    Type 0 where
  pub jvars : List ℕ
  pub body : List ℕ
  pub guard_stored : column values guard ≡ Blob jvars
  pub cells_stored : column values cells ≡ Blob body
  pub spelled : IsRowOf id kinds jvars body row

-- A row of the model: its id, its guard and its cells.
pub record IsModelRow (model : ℕ) (kinds : List Kind) (values : Values) (row : Row) : Type 0 where
  pub jid : List ℕ
  pub id_stored : column values 0 ≡ Blob jid
  pub id_spelled : IsIdOf jid model row.id
  pub rest : IsRowIn 1 2 kinds values row.id row

-- A row of the record: its guard and its cells.
abbrev pub IsRecordRow : ℕ → List Kind → Values → Row → Type 0
IsRecordRow id kinds values row = IsRowIn 0 1 kinds values id row

-- There are as many rows as lists of values, and `Is` holds of each list and its row, in order.
abbrev pub Each : (Values → Row → Type 0) → List Values → List Row → Type 0
Each Is [] [] = ⊤
Each Is (x ∷ xs) (r ∷ rs) = Is x r × Each Is xs rs
Each Is [] (r ∷ rs) = ⊥
Each Is (x ∷ xs) [] = ⊥

-- What the query for a model and the query for a record show of a row of the table.
abbrev pub model_shows : Fact → Values
model_shows f = Blob f.jid ∷ Blob f.jvars ∷ Blob f.body ∷ []

abbrev pub record_shows : Fact → Values
record_shows f = Blob f.jvars ∷ Blob f.body ∷ []

-- The rows are all that the query shows.
pub record AreShown {S : Type 0} (g : Ghosts S) (question : SqlStatement) (Is : Values → Row
    → Type 0)
    (old new : Held S) (rows : List Row) : Type 0 where
  pub found : List Values
  pub shown : Shown question.text question.params (state g old) (state g new) found
  pub each : Each Is found rows
