-- Tables that fit still fit after a statement has written to them.
use Rattle.std.proofs.Common.{◌≡◌, refl, ℕ, zero, suc, ◌<◌, ◌≤◌, ◌^◌, ◌==◌, nat_lt, Bool, true, false, if◌then◌else◌, List, [], ◌∷◌, length, Option, Some, None, arith}
use Rattle.std.specs.Prelude.{slice_get, slice_set}
use Rattle.std.specs.List.{AllByRecursion}
use Rattle.std.proofs.lemmas.Bool.{and_parts, and_from}
use Rattle.std.proofs.lemmas.List.Quantifiers.{position-Some}
use Rattle.jac_value.specs.Ids.{is_id_of, record_id}
use Rattle.jac_value.specs.Values.{has_kind}
use Rattle.jac_value.specs.declared.value.Value.{Value}
use Rattle.jac_value.specs.declared.value.Value.TheVariants as value
use Rattle.jac_lang.specs.declared.field_kinds.Field.{Field}
use Rattle.jac_lang.specs.Lookup.{same_text, model_place, fields_at, field_place, kind_named, kind_in, is_nested_at}
use Rattle.jac_lang.specs.Syntax.{Entity, Expression, Assigned}
use Rattle.jac_rows.specs.Good.{have_kinds}
use Rattle.jac_rows.specs.Tables.{rows_of}
use Rattle.jac_rows.specs.declared.plain.PlainRow.{PlainRow}
use Rattle.jac_plain.specs.Models.{kinds_of_fields}
use Rattle.jac_plain.specs.Records.{fitting, cell_set, drafted_cells, default_cells, plain_row, every_field, is_set, with_ids, with_row, changed_rows, without, tables_after}
use Rattle.jac_plain.specs.Statements.{Setting, Run, value_in, id_made, tables_made, created_cells, updated_cells, update_run, delete_run}
use Rattle.jac_plain.proofs.GoodLaws.{fitting_kind, kinds_shielded}
use Rattle.jac_plain.proofs.MadeIds.{form_of, form_made}
use Rattle.jac_plain.specs.World.{referred_record}
use Rattle.jac_kind_laws.specs.Publics.{PublicsFit}
use Rattle.jac_kind_laws.specs.Runs.{DraftFits}
use Rattle.jac_kind_laws.proofs.Tables.{FitsModel, AreRows, AreFit, IsSomeRow, referred_fits, kinds_at, default_has}
use Rattle.jac_kind_laws.proofs.Tuples.{all_append}

-- A property of rows that each write to a table keeps.
module _ (P : PlainRow → Type 0) where
  row_if : (b : Bool) (r : PlainRow) (rows : List PlainRow) → P r → AllByRecursion P rows → AllByRecursion P (if b then r ∷ rows else rows)
  row_if true r rows p a = (p, a)
  row_if false r rows p a = a

  with_ids_all : (test : ℕ → Bool) (rows : List PlainRow) → AllByRecursion P rows → AllByRecursion P (with_ids test rows)
  with_ids_all test [] a = tt
  with_ids_all test (r ∷ rows) a = row_if (test r.id) r (with_ids test rows) a.0 (with_ids_all test rows a.1)

  with_row_all : (row : PlainRow) (rows : List PlainRow) → P row → AllByRecursion P rows → AllByRecursion P (with_row row rows)
  with_row_all row rows p a =
      all_append P (with_ids (λ id. nat_lt id row.id) rows) (row ∷ with_ids (λ id. nat_lt row.id id) rows) (with_ids_all (λ id. nat_lt id row.id) rows a)
      (p, with_ids_all (λ id. nat_lt row.id id) rows a)

  either_rows : (b : Bool) (xs ys : List PlainRow) → AllByRecursion P xs → AllByRecursion P ys → AllByRecursion P (if b then xs else ys)
  either_rows true xs ys a c = a
  either_rows false xs ys a c = c

  changed_all : (id : ℕ) (change : List Value → List Value) → ((r : PlainRow) → P r → P (plain_row r.id (change r.cells)))
      → (rows : List PlainRow) → AllByRecursion P rows → AllByRecursion P (changed_rows id change rows)
  changed_all id change step [] a = tt
  changed_all id change step (r ∷ rows) a =
      either_rows (r.id == id) (plain_row r.id (change r.cells) ∷ rows) (r ∷ changed_rows id change rows) (step r a.0, a.1) (a.0, changed_all id change step rows a.1)

  without_all : (id : ℕ) (rows : List PlainRow) → AllByRecursion P rows → AllByRecursion P (without id rows)
  without_all id [] a = tt
  without_all id (r ∷ rows) a = either_rows (r.id == id) rows (r ∷ without id rows) a.1 (a.0, without_all id rows a.1)

-- The tables after one of them is set.
table_set : (P : ℕ → List PlainRow → Type 0) (tables : List (List PlainRow)) (m : ℕ) (rows : List PlainRow) → ((i : ℕ) → P i (rows_of tables i)) → P m rows
    → (i : ℕ) → P i (rows_of (slice_set tables m rows) i)
table_set P [] m rows all new i = all i
table_set P (t ∷ ts) zero rows all new zero = new
table_set P (t ∷ ts) zero rows all new (suc i) = all (suc i)
table_set P (t ∷ ts) (suc m) rows all new zero = all zero
table_set P (t ∷ ts) (suc m) rows all new (suc i) = table_set (λ n. P (suc n)) ts m rows (λ n. all (suc n)) new i

-- The cells of a draft.
default_kinds : (ms : List Entity) (fields : List Field) → have_kinds (kinds_of_fields ms fields) (default_cells ms fields) ≡ true
default_kinds ms [] = refl
default_kinds ms (f ∷ fields) = and_from _ _ (default_has (kind_named ms f.kind)) (default_kinds ms fields)

cell_kinds : (ms : List Entity) (fields : List Field) (f : ℕ) (v : Value) (cells : List Value) → have_kinds (kinds_of_fields ms fields) cells ≡ true
    → have_kinds (kinds_of_fields ms fields) (slice_set cells f (fitting (kind_in ms (slice_get fields f)) v)) ≡ true
cell_kinds ms [] f v [] h = refl
cell_kinds ms [] f v (c ∷ cells) h = cc
cell_kinds ms (d ∷ fields) f v [] h = cc
cell_kinds ms (d ∷ fields) zero v (c ∷ cells) h = and_from _ _ (fitting_kind (kind_named ms d.kind) v) (and_parts (has_kind (kind_named ms d.kind) c) _ h).1
cell_kinds ms (d ∷ fields) (suc f) v (c ∷ cells) h =
    let p = and_parts (has_kind (kind_named ms d.kind) c) (have_kinds (kinds_of_fields ms fields) cells) h in
    and_from _ _ p.0 (cell_kinds ms fields f v cells p.1)

set_kinds : (ms : List Entity) (fields : List Field) (f : Option ℕ) (v : Value) (cells : List Value) → have_kinds (kinds_of_fields ms fields) cells ≡ true
    → have_kinds (kinds_of_fields ms fields) (cell_set ms fields f v cells) ≡ true
set_kinds ms fields None v cells h = h
set_kinds ms fields (Some f) v cells h = cell_kinds ms fields f v cells h

drafted_kinds : (ms : List Entity) (fields : List Field) (value_of : Expression → Value) (sets : List Assigned) (cells : List Value)
    → have_kinds (kinds_of_fields ms fields) cells ≡ true → have_kinds (kinds_of_fields ms fields) (drafted_cells ms fields value_of sets cells) ≡ true
drafted_kinds ms fields value_of [] cells h = h
drafted_kinds ms fields value_of (a ∷ rest) cells h =
    let place = field_place fields a.field in
    drafted_kinds ms fields value_of rest (cell_set ms fields place (value_of a.value) cells) (set_kinds ms fields place (value_of a.value) cells h)

created_kinds : (k : Setting) (m id : ℕ) (sets : List Assigned) (r : Run) → have_kinds (kinds_at k.models m) (created_cells k m id sets r) ≡ true
created_kinds k m id sets r =
    let fields = fields_at k.models m in
    kinds_shielded k.models k.shown m id every_field (drafted_cells k.models fields (λ e. value_in k e r) sets (default_cells k.models fields))
    (drafted_kinds k.models fields (λ e. value_in k e r) sets (default_cells k.models fields) (default_kinds k.models fields))

updated_kinds : (k : Setting) (m id : ℕ) (sets : List Assigned) (r : Run) (old : List Value) → have_kinds (kinds_at k.models m) old ≡ true
    → have_kinds (kinds_at k.models m) (updated_cells k m id sets r old) ≡ true
updated_kinds k m id sets r old h =
    let fields = fields_at k.models m in
    kinds_shielded k.models k.shown m id (is_set fields sets) (drafted_cells k.models fields (λ e. value_in k e r) sets old) (drafted_kinds k.models fields (λ e. value_in k e r) sets old h)

-- What a create needs of its setting: the request's number has ids, and so have the models.
pub record CanCreate (k : Setting) : Type 0 where
  pub some : 0 < k.number
  pub room : k.number < 2 ^ 40
  pub few : length k.models ≤ 64

-- If the cells of a record fit, so do its public values.
abbrev pub HasPublics : Setting → Type 0
HasPublics k = (m id : ℕ) (cells : List Value) → is_id_of id m ≡ true → have_kinds (kinds_at k.models m) cells ≡ true → PublicsFit k.models m id cells

bare : Entity
bare = record { name = []; nested = false; fields = []; groups = [] }

-- The id of a new record is an id of its model.
pub id_fits : (k : Setting) (name : List ℕ) (site m : ℕ) → CanCreate k → site < 64 → model_place k.models name ≡ Some m → is_id_of (id_made k m site) m ≡ true
id_fits k name site m ids h e =
    let within = (position-Some (λ (x : Entity). same_text x.name name) k.models m bare e).0 in
    (form_made k.number site m (id_made k m site) ids.some ids.room h (omega (arith, within, ids.few))
    (form_of (is_nested_at k.models m) k.around (record_id k.number site m))).is_one

-- The public values of a new record, and of a record that is updated.
pub new_draft : (k : Setting) (m id : ℕ) (sets : List Assigned) (r : Run) → HasPublics k → is_id_of id m ≡ true
    → DraftFits k m sets r (Some (plain_row id (default_cells k.models (fields_at k.models m))))
new_draft k m id sets r publics h =
    let fields = fields_at k.models m in
    publics m id (drafted_cells k.models fields (λ e. value_in k e r) sets (default_cells k.models fields)) h
    (drafted_kinds k.models fields (λ e. value_in k e r) sets (default_cells k.models fields) (default_kinds k.models fields))

draft_in : (k : Setting) (m : ℕ) (sets : List Assigned) (r : Run) (o : Option PlainRow) → HasPublics k → IsSomeRow k.models m o → DraftFits k m sets r o
draft_in k m sets r None publics h = tt
draft_in k m sets r (Some old) publics h =
    let fields = fields_at k.models m in
    publics m old.id (drafted_cells k.models fields (λ e. value_in k e r) sets old.cells) h.of_model (drafted_kinds k.models fields (λ e. value_in k e r) sets old.cells h.cells)

pub old_draft : (k : Setting) (m : ℕ) (target : Value) (sets : List Assigned) (r : Run) → HasPublics k → AreFit k.models r.tables
    → DraftFits k m sets r (referred_record target (rows_of r.tables m))
old_draft k m target sets r publics g =
    draft_in k m sets r (referred_record target (rows_of r.tables m)) publics (referred_fits k.models m target (rows_of r.tables m) (g m))

kept_fit : (ms : List Entity) (m : ℕ) (kept : Bool) (row : PlainRow) (tables : List (List PlainRow)) → FitsModel ms m row → AreFit ms tables → AreFit ms (tables_made kept m row tables)
kept_fit ms m true row tables h g =
    table_set (AreRows ms) tables m (with_row row (rows_of tables m)) g (with_row_all (FitsModel ms m) row (rows_of tables m) h (g m))
kept_fit ms m false row tables h g = g

pub created_fit : (k : Setting) (m id : ℕ) (kept : Bool) (sets : List Assigned) (r : Run) → is_id_of id m ≡ true → AreFit k.models r.tables
    → AreFit k.models (tables_made kept m (plain_row id (created_cells k m id sets r)) r.tables)
created_fit k m id kept sets r h g =
    kept_fit k.models m kept (plain_row id (created_cells k m id sets r)) r.tables (record { of_model = h; cells = created_kinds k m id sets r }) g

after_fit : (ms : List Entity) (m : ℕ) (target : Value) (step : ℕ → List PlainRow → List PlainRow) (tables : List (List PlainRow))
    → ((id : ℕ) (rows : List PlainRow) → AreRows ms m rows → AreRows ms m (step id rows)) → AreFit ms tables → AreFit ms (tables_after m target step tables)
after_fit ms m (value.Ref (Some id)) step tables h g = table_set (AreRows ms) tables m (step id (rows_of tables m)) g (h id (rows_of tables m) (g m))
after_fit ms m (value.Ref None) step tables h g = g
after_fit ms m (value.Int i) step tables h g = g
after_fit ms m (value.Text t) step tables h g = g
after_fit ms m (value.Bool b) step tables h g = g

pub updated_fit : (k : Setting) (place : Option ℕ) (target : Value) (sets : List Assigned) (r : Run) → AreFit k.models r.tables → AreFit k.models (update_run k place target sets r).tables
updated_fit k None target sets r g = g
updated_fit k (Some m) target sets r g =
    after_fit k.models m target (λ id rows. changed_rows id (updated_cells k m id sets r) rows) r.tables
    (λ id rows a. changed_all (FitsModel k.models m) id (updated_cells k m id sets r)
    (λ row h. record { of_model = h.of_model; cells = updated_kinds k m id sets r row.cells h.cells }) rows a) g

pub deleted_fit : (ms : List Entity) (place : Option ℕ) (target : Value) (r : Run) → AreFit ms r.tables → AreFit ms (delete_run place target r).tables
deleted_fit ms None target r g = g
deleted_fit ms (Some m) target r g = after_fit ms m target without r.tables (λ id rows a. without_all (FitsModel ms m) id rows a) g
