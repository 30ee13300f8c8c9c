-- Supports that contain only labels of one record, and rows whose guards name only such labels.
use Rattle.std.specs.Prelude.{◌≡◌, ◌==◌, ◌||◌, not, ℕ, Bool, true, false, List, [], Option, Some, None}
use Rattle.std.specs.List.{list_all}
use Rattle.jac_value.specs.Ids.{model_of_id, record_of_label}
use Rattle.jac_value.specs.declared.value.Value.{Value}
use Rattle.jac_value.specs.declared.value.Value.TheVariants as value
use Rattle.jac_world.specs.World.{shown_by}
use Rattle.jac_lang.specs.Lookup.{model_place}
use Rattle.jac_lang.specs.Syntax.{Application}
use Rattle.jac_rows.specs.declared.row.Row.{Row}
use Rattle.jac_rows.specs.declared.state.State.{State}
use Rattle.jac_rows.specs.Tables.{rows_of}

-- There is a record, and the id is that of the record.
abbrev pub is_of : Option ℕ → ℕ → Bool
is_of None id = false
is_of (Some this) id = this == id

-- The labels are the record's.
pub record IsOwn (this : Option ℕ) (support : List ℕ) : Type 0 where
  pub each : (k : ℕ) → shown_by support k ≡ true → is_of this (record_of_label k) ≡ true

-- The pair's label is the record's.
abbrev pub is_own_pair : Option ℕ → (ℕ × Bool) → Bool
is_own_pair this p = is_of this (record_of_label p.0)

-- The guard names only labels of the record.
abbrev pub names_own : Option ℕ → List (ℕ × Bool) → Bool
names_own this g = list_all (is_own_pair this) g

-- The row's guard names only labels of the record.
abbrev pub has_own_guard : Option ℕ → Row → Bool
has_own_guard this r = names_own this r.guard

-- The row has another id, or its guard names only labels of the record.
abbrev pub is_own_row : Option ℕ → ℕ → Row → Bool
is_own_row this id r = not (r.id == id) || has_own_guard this r

-- The same for each row.
abbrev pub are_own_rows : Option ℕ → ℕ → List Row → Bool
are_own_rows this id rows = list_all (is_own_row this id) rows

-- Each row's guard names only labels of the record.
abbrev pub is_own_table : Option ℕ → List Row → Bool
is_own_table this rows = list_all (has_own_guard this) rows

-- The rows to which the value refers have such guards.
abbrev pub reads_own : Option ℕ → Value → List Row → Bool
reads_own this (value.Ref (Some id)) rows = are_own_rows this id rows
reads_own this v rows = true

-- The same, for the rows in the table of the model to which the value refers.
abbrev pub stands_own : Option ℕ → Value → List (List Row) → Bool
stands_own this (value.Ref (Some id)) tables = are_own_rows this id
    (rows_of tables (model_of_id id))
stands_own this v tables = true

-- The rows of the model at this place, if there is one.
abbrev pub table_at : List (List Row) → Option ℕ → List Row
table_at tables None = []
table_at tables (Some m) = rows_of tables m

-- The rows of the model with this name. There are none if there is no such model.
abbrev pub table_named : Application → State → List ℕ → List Row
table_named app s name = table_at s.tables (model_place app.models name)
