-- What a write makes of a record in one world: its cells, and the rows of its table.
use Rattle.std.specs.Prelude.{ℕ, ◌+◌, ◌==◌, ◌&&◌, not, nat_lt, zero, suc, Bool, true, false, if◌then◌else◌, List, [], ◌∷◌, ◌++◌, slice_get, slice_set, Option, Some, None}
use Rattle.jac_value.specs.declared.value.Kind.{Kind}
use Rattle.jac_value.specs.declared.value.Value.{Value}
use Rattle.jac_value.specs.declared.value.Value.TheVariants as value
use Rattle.jac_value.specs.Ids.{label_of}
use Rattle.jac_value.specs.Values.{default_value, has_kind}
use Rattle.jac_lang.specs.declared.field_kinds.Field.{Field}
use Rattle.jac_lang.specs.Lookup.{same_text, fields_at, groups_at, group_in, field_place, kind_named, kind_at}
use Rattle.jac_lang.specs.Syntax.{Entity, Expression, Assigned, FieldGroup}
use Rattle.jac_rows.specs.declared.plain.PlainRow.{PlainRow}
use Rattle.jac_rows.specs.Tables.{rows_of}
use Rattle.jac_plain.specs.Expressions.{mean}

-- The value that is stored in a field of this kind. A value of another kind becomes the default of
-- the kind.
abbrev pub fitting : Kind → Value → Value
fitting kind v = if has_kind kind v then v else default_value kind

abbrev pub cell_set : List Entity → List Field → Option ℕ → Value → List Value → List Value
cell_set models fields None v cells = cells
cell_set models fields (Some f) v cells = slice_set cells f (fitting (kind_at models fields f) v)

-- The cells after the assignments. All expressions are evaluated before any cell is set. An
-- assignment to a field that doesn't exist is ignored.
abbrev pub drafted_cells : List Entity → List Field → (Expression → Value) → List Assigned
    → List Value
    → List Value
drafted_cells models fields value_of [] cells = cells
drafted_cells models fields value_of (a ∷ rest) cells =
    drafted_cells models fields value_of rest (cell_set models fields (field_place fields a.field)
    (value_of a.value) cells)

abbrev pub default_cells : List Entity → List Field → List Value
default_cells models [] = []
default_cells models (f ∷ fields) = default_value (kind_named models f.kind) ∷ default_cells models
    fields

abbrev pub plain_row : ℕ → List Value → PlainRow
plain_row id cells = record { id = id; cells = cells }

-- The tables with this record of the model, and no other.
abbrev pub alone : ℕ → PlainRow → List (List PlainRow)
alone zero row = (row ∷ []) ∷ []
alone (suc m) row = [] ∷ alone m row

-- The value of an expression over a record's cells. The record is `this`, and there is no viewer.
abbrev pub value_over : List Entity → ℕ → ℕ → List Value → Expression → Value
value_over models m id cells e = mean (record {
  models = models;
  this = Some id;
  viewer = None;
  tables = alone m (plain_row id cells);
}) e []

-- The expression assigned to the field of this name.
abbrev pub expression_for : List ℕ → List Assigned → Option Expression
expression_for name [] = None
expression_for name (a ∷ rest) = if same_text a.field name then Some a.value
    else expression_for name rest

abbrev pub name_in : Option Field → List ℕ
name_in None = []
name_in (Some f) = f.name

abbrev pub guards_in : Option FieldGroup → List Assigned
guards_in None = []
guards_in (Some g) = g.guards

abbrev pub public_in : List FieldGroup → Option ℕ → List ℕ → Option Expression
public_in groups None name = None
public_in groups (Some g) name = expression_for name (guards_in (slice_get groups g))

-- The public expression of the field, if a group guards the field.
abbrev pub public_expression : List Entity → ℕ → ℕ → Option Expression
public_expression models m f =
    public_in (groups_at models m) (group_in (groups_at models m) (fields_at models m) f)
    (name_in (slice_get (fields_at models m) f))

abbrev pub public_or : (Expression → Value) → Option Expression → Value → Value
public_or value_of None cell = cell
public_or value_of (Some e) cell = value_of e

-- The cell that a field has if its group is hidden: the value of its public expression over the
-- record's cells. If there is no public expression, the cell itself.
abbrev pub public_cell : List Entity → ℕ → ℕ → List Value → ℕ → Value → Value
public_cell models m id cells f cell =
    public_or (λ e. fitting (kind_at models (fields_at models m) f) (value_over models m id cells
    e)) (public_expression models m f) cell

abbrev pub is_hidden_by : (ℕ → Bool) → ℕ → Option ℕ → Bool
is_hidden_by shown id None = false
is_hidden_by shown id (Some g) = not (shown (label_of id g))

-- Whether a group guards the field, and its label isn't shown.
abbrev pub is_hidden : List Entity → (ℕ → Bool) → ℕ → ℕ → ℕ → Bool
is_hidden models shown m id f = is_hidden_by shown id (group_in (groups_at models m)
    (fields_at models m) f)

-- The function applied to each cell and its place. The first cell has this place.
abbrev pub each_cell : (ℕ → Value → Value) → ℕ → List Value → List Value
each_cell cell_of f [] = []
each_cell cell_of f (v ∷ cells) = cell_of f v ∷ each_cell cell_of (f + 1) cells

-- The cells that are stored for a draft. A named field that is hidden has its public value over the
-- draft. Every other field has the draft's cell.
abbrev pub shielded_cells : List Entity → (ℕ → Bool) → ℕ → ℕ → (ℕ → Bool) → List Value → List Value
shielded_cells models shown m id named draft =
    each_cell (λ f cell. if named f && is_hidden models shown m id f
    then public_cell models m id draft f cell else cell) 0 draft

-- A new record names every field.
abbrev pub every_field : ℕ → Bool
every_field f = true

abbrev pub is_field_place : ℕ → Option ℕ → Bool
is_field_place f None = false
is_field_place f (Some g) = g == f

-- An update names the fields that it sets.
abbrev pub is_set : List Field → List Assigned → ℕ → Bool
is_set fields [] f = false
is_set fields (a ∷ rest) f = if is_field_place f (field_place fields a.field) then true
    else is_set fields rest f

-- The rows with ids that pass the test.
abbrev pub with_ids : (ℕ → Bool) → List PlainRow → List PlainRow
with_ids test [] = []
with_ids test (r ∷ rows) = if test r.id then r ∷ with_ids test rows else with_ids test rows

-- The rows with this one inserted: after lesser ids, and before greater ones. It replaces rows with
-- its own id.
abbrev pub with_row : PlainRow → List PlainRow → List PlainRow
with_row row rows = with_ids (λ id. nat_lt id row.id) rows ++ row ∷ with_ids
    (λ id. nat_lt row.id id) rows

-- The rows, after the cells of the record with this id are changed.
abbrev pub changed_rows : ℕ → (List Value → List Value) → List PlainRow → List PlainRow
changed_rows id change [] = []
changed_rows id change (r ∷ rows) = if r.id == id then plain_row r.id (change r.cells) ∷ rows
    else r ∷ changed_rows id change rows

abbrev pub without : ℕ → List PlainRow → List PlainRow
without id [] = []
without id (r ∷ rows) = if r.id == id then rows else r ∷ without id rows

-- The tables with a new record of the model.
abbrev pub tables_with : ℕ → PlainRow → List (List PlainRow) → List (List PlainRow)
tables_with m row tables = slice_set tables m (with_row row (rows_of tables m))

-- The tables after a step on the record that the value refers to. If it refers to none, they are
-- the same.
abbrev pub tables_after : ℕ → Value → (ℕ → List PlainRow → List PlainRow) → List (List PlainRow)
    → List (List PlainRow)
tables_after m (value.Ref (Some id)) step tables = slice_set tables m (step id (rows_of tables m))
tables_after m v step tables = tables
