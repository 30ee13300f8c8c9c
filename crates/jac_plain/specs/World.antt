-- A world: plain tables, and a viewer.
use Rattle.std.specs.Prelude.{ℕ, ◌==◌, if◌then◌else◌, List, [], ◌∷◌, slice_get, unwrap_or, Option, Some, None, pos}
use Rattle.jac_value.specs.declared.value.Value.{Value}
use Rattle.jac_value.specs.declared.value.Value.TheVariants as value
use Rattle.jac_value.specs.Values.{default_value}
use Rattle.jac_lang.specs.Lookup.{model_place, fields_at, field_place, kind_at}
use Rattle.jac_lang.specs.Syntax.{Entity}
use Rattle.jac_rows.specs.declared.plain.PlainRow.{PlainRow}
use Rattle.jac_rows.specs.Tables.{rows_of}

-- The world in which an expression is evaluated: the models, the record that the policy is about,
-- the viewer, and the tables.
pub record World : Type 0 where
  pub models : List Entity
  pub this : Option ℕ
  pub viewer : Option ℕ
  pub tables : List (List PlainRow)

abbrev pub rows_at_place : List (List PlainRow) → Option ℕ → List PlainRow
rows_at_place tables None = []
rows_at_place tables (Some m) = rows_of tables m

-- The records of the model of this name. If there is no such model, none.
abbrev pub records : World → List ℕ → List PlainRow
records w name = rows_at_place w.tables (model_place w.models name)

-- The record of this id.
abbrev pub record_with : ℕ → List PlainRow → Option PlainRow
record_with id [] = None
record_with id (r ∷ rs) = if r.id == id then Some r else record_with id rs

-- The record that a value refers to.
abbrev pub referred_record : Value → List PlainRow → Option PlainRow
referred_record (value.Ref (Some id)) rows = record_with id rows
referred_record v rows = None

-- A record's cell. If the record or the cell is missing, the default.
abbrev pub cell_of : Option PlainRow → ℕ → Value → Value
cell_of None f absent = absent
cell_of (Some r) f absent = unwrap_or (slice_get r.cells f) absent

-- The field of this name. If there is no such field, 0.
abbrev pub cell_named : World → ℕ → Option ℕ → Option PlainRow → Value
cell_named w m None r = value.Int (pos 0)
cell_named w m (Some f) r = cell_of r f (default_value (kind_at w.models (fields_at w.models m) f))

abbrev pub got_of : World → Option ℕ → List ℕ → Value → Value
got_of w None field v = value.Int (pos 0)
got_of w (Some m) field v = cell_named w m (field_place (fields_at w.models m) field)
    (referred_record v (rows_of w.tables m))

-- The field of the record that the value refers to.
abbrev pub got : World → List ℕ → List ℕ → Value → Value
got w model field v = got_of w (model_place w.models model) field v
