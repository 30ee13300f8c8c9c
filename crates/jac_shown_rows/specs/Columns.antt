-- A field of a model, given by numbers, and its value in a record.
use Rattle.std.specs.Prelude.{List, Option, Some, None, pos}
use Rattle.jac_value.specs.declared.value.Value.{Value}
use Rattle.jac_value.specs.declared.value.Value.TheVariants as value
use Rattle.jac_value.specs.Values.{default_value}
use Rattle.jac_lang.specs.Lookup.{fields_at, kind_at}
use Rattle.jac_lang.specs.Mirror.{application_of}
use Rattle.jac_rows.specs.declared.plain.PlainRow.{PlainRow}
use Rattle.jac_rows.specs.Tables.{rows_of}
use Rattle.jac_plain.specs.World.{cell_of, referred_record}
use Rattle.jac_shown_rows.specs.declared.column.Column.{Column}

-- The value that is read if there is no cell.
abbrev pub absent_in : Column → Value
absent_in c =
    let models = (application_of c.app.now).models in
    default_value (kind_at models (fields_at models c.model) c.field)

-- The field of the record that the value refers to, or 0 if there is no such field.
abbrev pub column_got : List (List PlainRow) → Option Column → Value → Value
column_got tables None v = value.Int (pos 0)
column_got tables (Some c) v = cell_of (referred_record v (rows_of tables c.model)) c.field
    (absent_in c)
