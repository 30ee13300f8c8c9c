-- What an assignment shows of the rows of one record.
use Rattle.std.proofs.Common.{◌≡◌, refl, ap, sym, ◌∙◌, ℕ, ◌==◌, Bool, true, false, List, [], ◌∷◌, if◌then◌else◌, map, Option, Some, None, slice_get, unwrap_or}
use Rattle.std.specs.List.{filter}
use Rattle.std.proofs.lemmas.Option.{slice_get-map}
use Rattle.jac_value.specs.declared.value.Value.{Value}
use Rattle.jac_value.specs.declared.value.Value.TheVariants as value
use Rattle.jac_value.specs.Values.{default_value}
use Rattle.jac_lang.specs.Lookup.{model_place, fields_at, field_place, kind_at}
use Rattle.jac_world.specs.World.{holds}
use Rattle.jac_rows.specs.declared.row.Row.{Row}
use Rattle.jac_rows.specs.declared.plain.PlainRow.{PlainRow}
use Rattle.jac_rows.specs.Project.{rows_at}
use Rattle.jac_rows.specs.Tables.{rows_of, rows_or_none}
use Rattle.jac_keep.specs.Records.{alternatives}
use Rattle.jac_query.specs.Field.{field_of, value_or}
use Rattle.jac_plain.specs.World.{World, record_with, referred_record, cell_of, got}
use Rattle.jac_plain.specs.Expressions.{is_live, stands}
use Rattle.jac_expr.specs.Leafed.{first_row, stood_by, stands_in}

or_none-map : (w : ℕ → Bool) (o : Option (List Row)) → rows_or_none (Rattle.std.specs.Option.option_map (rows_at w) o) ≡ rows_at w (rows_or_none o)
or_none-map w None = refl
or_none-map w (Some t) = refl

-- The projected table of a model.
pub rows_of-project : (w : ℕ → Bool) (tables : List (List Row)) (m : ℕ) → rows_of (map (rows_at w) tables) m ≡ rows_at w (rows_of tables m)
rows_of-project w tables m = ap rows_or_none (slice_get-map (rows_at w) tables m) ∙ or_none-map w (slice_get tables m)

record_step : (id : ℕ) (p : PlainRow) (held same : Bool) (rest : List PlainRow) (alts : List PlainRow) → (p.id == id) ≡ same → record_with id rest ≡ first_row alts →
    record_with id (if held then p ∷ rest else rest) ≡ first_row (if same then (if held then p ∷ alts else alts) else alts)
record_step id p true true rest alts e h = rw e refl
record_step id p true false rest alts e h = rw e h
record_step id p false true rest alts e h = h
record_step id p false false rest alts e h = h

rows_at-if : (w : ℕ → Bool) (b : Bool) (r : Row) (rs : List Row) →
    rows_at w (if b then r ∷ rs else rs) ≡ (if b then rows_at w (r ∷ rs) else rows_at w rs)
rows_at-if w true r rs = refl
rows_at-if w false r rs = refl

-- The record of an id is the first of its alternatives that is shown.
pub record-is : (w : ℕ → Bool) (id : ℕ) (rows : List Row) → record_with id (rows_at w rows) ≡ first_row (rows_at w (alternatives id rows))
record-is w id [] = refl
record-is w id (r ∷ rows) =
    record_step id (record { id = r.id; cells = r.cells }) (holds w r.guard) (r.id == id) (rows_at w rows) (rows_at w (alternatives id rows)) refl (record-is w id rows)
    ∙ ap first_row (sym (rows_at-if w (r.id == id) r (alternatives id rows)))

value_or-is : (absent : Value) (o : Option Value) → value_or absent o ≡ unwrap_or o absent
value_or-is absent None = refl
value_or-is absent (Some v) = refl

field-is : (field : ℕ) (absent : Value) (rows : List PlainRow) → field_of field absent rows ≡ cell_of (first_row rows) field absent
field-is field absent [] = refl
field-is field absent (r ∷ rows) = value_or-is absent (slice_get r.cells field)

record-shown : (w : ℕ → Bool) (id m : ℕ) (tables : List (List Row)) (rows : List Row) → rows ≡ alternatives id (rows_of tables m) →
    first_row (rows_at w rows) ≡ record_with id (rows_of (map (rows_at w) tables) m)
record-shown w id m tables rows e =
    ap (λ rs. first_row (rows_at w rs)) e
    ∙ sym (record-is w id (rows_of tables m))
    ∙ ap (record_with id) (sym (rows_of-project w tables m))

-- A field of the record, read from its alternatives.
pub field-shown : (w : ℕ → Bool) (id m field : ℕ) (absent : Value) (tables : List (List Row)) (rows : List Row) → rows ≡ alternatives id (rows_of tables m) →
    field_of field absent (rows_at w rows) ≡ cell_of (record_with id (rows_of (map (rows_at w) tables) m)) field absent
field-shown w id m field absent tables rows e =
    field-is field absent (rows_at w rows) ∙ ap (λ r. cell_of r field absent) (record-shown w id m tables rows e)

stood-true : (rows : List PlainRow) → stood_by (value.Bool true) rows ≡ value.Bool true
stood-true [] = refl
stood-true (r ∷ rows) = stood-true rows

stood-is : (rows : List PlainRow) → stood_by (value.Bool false) rows ≡ value.Bool (stands (first_row rows))
stood-is [] = refl
stood-is (r ∷ rows) = stood-true rows

-- Whether the record exists, read from its alternatives.
pub stands-shown : (w : ℕ → Bool) (id m : ℕ) (tables : List (List Row)) (rows : List Row) → rows ≡ alternatives id (rows_of tables m) →
    stood_by (value.Bool false) (rows_at w rows) ≡ value.Bool (stands (record_with id (rows_of (map (rows_at w) tables) m)))
stands-shown w id m tables rows e = stood-is (rows_at w rows) ∙ ap (λ r. value.Bool (stands r)) (record-shown w id m tables rows e)

pub filter-alternatives : (id : ℕ) (rows : List Row) → filter (λ (r : Row). r.id == id) rows ≡ alternatives id rows
filter-alternatives id [] = refl
filter-alternatives id (r ∷ rows) = filter_step (r.id == id) r _ _ (filter-alternatives id rows)
  where
    filter_step : (b : Bool) (r : Row) (xs ys : List Row) → xs ≡ ys → (if b then r ∷ xs else xs) ≡ (if b then r ∷ ys else ys)
    filter_step true r xs ys e = ap (λ l. r ∷ l) e
    filter_step false r xs ys e = e

pub live-is : (w : World) (v : Value) → is_live w v ≡ stands_in w.tables v
live-is w (value.Ref (Some id)) = refl
live-is w (value.Ref None) = refl
live-is w (value.Int i) = refl
live-is w (value.Text t) = refl
live-is w (value.Bool b) = refl

-- A cell that is read at its place.
pub got-is : (w : World) (model field : List ℕ) (m f : ℕ) (absent v : Value) → model_place w.models model ≡ Some m → field_place (fields_at w.models m) field ≡ Some f →
    absent ≡ default_value (kind_at w.models (fields_at w.models m) f) → cell_of (referred_record v (rows_of w.tables m)) f absent ≡ got w model field v
got-is w model field m f absent v of_model of_field default = rw (of_model, of_field, default) refl
