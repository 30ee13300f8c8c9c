-- A state that is good stays good.
use Rattle.std.proofs.Common.{◌≡◌, subst, refl, arith, zero, suc, ℕ, ◌+◌, ◌<◌, ◌≤◌, ◌^◌, ◌&&◌, Bool, true, false, if◌then◌else◌, List, [], ◌∷◌, length, Option, Some, None}
use Rattle.std.specs.Prelude.{slice_get, slice_set, IsSomeAnd}
use Rattle.std.specs.List.{AllByRecursion}
use Rattle.std.proofs.lemmas.Bool.{and_parts, and_from}
use Rattle.jac_value.specs.Ids.{record_id, is_wide}
use Rattle.jac_value.specs.Values.{default_value, has_kind}
use Rattle.jac_value.specs.declared.value.Kind.{Kind}
use Rattle.jac_value.specs.declared.value.Kind.TheVariants as kind
use Rattle.jac_value.specs.declared.value.Value.{Value}
use Rattle.jac_lang.specs.declared.field_kinds.Field.{Field}
use Rattle.jac_lang.specs.declared.pages.Verb.{Verb}
use Rattle.jac_lang.specs.declared.pages.Verb.TheVariants as verbs
use Rattle.jac_lang.specs.Lookup.{fields_at, field_place, kind_named, kind_in, kind_at, is_nested_at}
use Rattle.jac_lang.specs.Loops.{Loops, are_placed}
use Rattle.jac_lang.specs.Syntax.{Entity, Expression, Assigned, Application}
use Rattle.jac_rows.specs.Good.{have_kinds, ModelShape, IsShaped, IsRecord, ArePlain, IsNext, IsGoodPlain}
use Rattle.jac_rows.specs.Tables.{rows_of}
use Rattle.jac_rows.specs.declared.plain.PlainRow.{PlainRow}
use Rattle.jac_rows.specs.declared.plain.PlainState.{PlainState}
use Rattle.jac_plain.specs.Models.{kinds_of_fields, shapes_of_models, shapes_of, are_sited, is_shaped, AreFlat, HaveRisingIds}
use Rattle.jac_plain.specs.Records.{fitting, cell_set, drafted_cells, default_cells, value_over, public_or, public_expression, public_cell, is_hidden, each_cell, shielded_cells, every_field, is_set}
use Rattle.jac_plain.specs.Requests.{Visit, body_in, method_in, setting_of, run_of, after_by, after}
use Rattle.jac_plain.specs.Statements.{Run, value_in, id_made, created_cells, updated_cells}
use Rattle.jac_plain.proofs.RowLaws.{AreRows, table_of, tables_by}
use Rattle.jac_plain.proofs.MadeIds.{form_of, form_made, wide_by, shaped_from}
use Rattle.jac_plain.proofs.KeptLaws.{IsKeeping, keeps_all, kept_flat}

default_kind : (k : Kind) → has_kind k (default_value k) ≡ true
default_kind kind.Int = refl
default_kind kind.Text = refl
default_kind kind.Bool = refl
default_kind (kind.Ref m) = refl

fitting_if : (k : Kind) (v : Value) (b : Bool) → has_kind k v ≡ b → has_kind k (if b then v else default_value k) ≡ true
fitting_if k v true e = e
fitting_if k v false e = default_kind k

pub fitting_kind : (k : Kind) (v : Value) → has_kind k (fitting k v) ≡ true
fitting_kind k v = fitting_if k v (has_kind k v) refl

kinds_default : (models : List Entity) (fields : List Field) → have_kinds (kinds_of_fields models fields) (default_cells models fields) ≡ true
kinds_default models [] = refl
kinds_default models (f ∷ fields) = rw (default_kind (kind_named models f.kind), kinds_default models fields) refl

-- A cell is set to a value that fits.
kinds_cell : (models : List Entity) (fields : List Field) (f : ℕ) (v : Value) (cells : List Value) → have_kinds (kinds_of_fields models fields) cells ≡ true
    → have_kinds (kinds_of_fields models fields) (slice_set cells f (fitting (kind_in models (slice_get fields f)) v)) ≡ true
kinds_cell models [] f v [] h = refl
kinds_cell models [] f v (c ∷ cells) h = cc
kinds_cell models (d ∷ fields) f v [] h = cc
kinds_cell models (d ∷ fields) zero v (c ∷ cells) h =
    and_from _ _ (fitting_kind (kind_named models d.kind) v) (and_parts (has_kind (kind_named models d.kind) c) _ h).1
kinds_cell models (d ∷ fields) (suc f) v (c ∷ cells) h =
    and_from _ _ (and_parts (has_kind (kind_named models d.kind) c) _ h).0
    (kinds_cell models fields f v cells (and_parts (has_kind (kind_named models d.kind) c) _ h).1)

kinds_set : (models : List Entity) (fields : List Field) (f : Option ℕ) (v : Value) (cells : List Value) → have_kinds (kinds_of_fields models fields) cells ≡ true
    → have_kinds (kinds_of_fields models fields) (cell_set models fields f v cells) ≡ true
kinds_set models fields None v cells h = h
kinds_set models fields (Some f) v cells h = kinds_cell models fields f v cells h

kinds_drafted : (models : List Entity) (fields : List Field) (value_of : Expression → Value) (sets : List Assigned) (cells : List Value)
    → have_kinds (kinds_of_fields models fields) cells ≡ true → have_kinds (kinds_of_fields models fields) (drafted_cells models fields value_of sets cells) ≡ true
kinds_drafted models fields value_of [] cells h = h
kinds_drafted models fields value_of (a ∷ rest) cells h =
    kinds_drafted models fields value_of rest (cell_set models fields (field_place fields a.field) (value_of a.value) cells)
    (kinds_set models fields (field_place fields a.field) (value_of a.value) cells h)

-- Each cell keeps its kind.
kinds_each : (cell_of : ℕ → Value → Value) (kinds : List Kind) (from : ℕ) (cells : List Value)
    → ((f i : ℕ) (k : Kind) (v : Value) → f ≡ from + i → slice_get kinds i ≡ Some k → has_kind k v ≡ true → has_kind k (cell_of f v) ≡ true)
    → have_kinds kinds cells ≡ true → have_kinds kinds (each_cell cell_of from cells) ≡ true
kinds_each cell_of [] from [] step h = refl
kinds_each cell_of [] from (c ∷ cells) step h = cc
kinds_each cell_of (k ∷ kinds) from [] step h = cc
kinds_each cell_of (k ∷ kinds) from (c ∷ cells) step h =
    and_from _ _ (step from 0 k c (omega arith) refl (and_parts (has_kind k c) _ h).0)
    (kinds_each cell_of kinds (from + 1) cells (λ f i j v e there fits. step f (suc i) j v (omega (arith, e)) there fits) (and_parts (has_kind k c) _ h).1)

kind_there : (models : List Entity) (fields : List Field) (f : ℕ) (k : Kind) → slice_get (kinds_of_fields models fields) f ≡ Some k → kind_at models fields f ≡ k
kind_there models [] f k e = cc
kind_there models (d ∷ fields) zero k e = cc
kind_there models (d ∷ fields) (suc f) k e = kind_there models fields f k e

kind_public : (k : Kind) (value_of : Expression → Value) (e : Option Expression) (cell : Value) → ((x : Expression) → has_kind k (value_of x) ≡ true) → has_kind k cell ≡ true
    → has_kind k (public_or value_of e cell) ≡ true
kind_public k value_of None cell fits h = h
kind_public k value_of (Some e) cell fits h = fits e

kind_if : (k : Kind) (b : Bool) (u v : Value) → has_kind k u ≡ true → has_kind k v ≡ true → has_kind k (if b then u else v) ≡ true
kind_if k true u v h g = h
kind_if k false u v h g = g

pub kinds_shielded : (models : List Entity) (shown : ℕ → Bool) (m id : ℕ) (named : ℕ → Bool) (draft : List Value)
    → have_kinds (kinds_of_fields models (fields_at models m)) draft ≡ true
    → have_kinds (kinds_of_fields models (fields_at models m)) (shielded_cells models shown m id named draft) ≡ true
kinds_shielded models shown m id named draft h =
    kinds_each (λ f cell. if named f && is_hidden models shown m id f then public_cell models m id draft f cell else cell)
    (kinds_of_fields models (fields_at models m)) 0 draft
    (λ f i k v e there fits.
    let same : f ≡ i = omega (arith, e) in
    let is : kind_at models (fields_at models m) f ≡ k = rw same (kind_there models (fields_at models m) i k there) in
    kind_if k (named f && is_hidden models shown m id f) (public_cell models m id draft f v) v
    (kind_public k (λ x. fitting (kind_at models (fields_at models m) f) (value_over models m id draft x)) (public_expression models m f) v
    (λ x. subst (λ j. has_kind j (fitting (kind_at models (fields_at models m) f) (value_over models m id draft x)) ≡ true) is
    (fitting_kind (kind_at models (fields_at models m) f) (value_over models m id draft x))) fits) fits)
    h

-- The shape of a model.
shape_now : (all models : List Entity) (m id : ℕ) (cells : List Value) → m < length models → have_kinds (kinds_of_fields all (fields_at models m)) cells ≡ true → is_wide id ≡ is_nested_at models m
    → IsSomeAnd (slice_get (shapes_of_models all models) m) (λ s. IsShaped s id cells)
shape_now all [] m id cells within h w = absurd (omega (arith, within))
shape_now all (e ∷ models) zero id cells within h w = record { fit = h; wide = w }
shape_now all (e ∷ models) (suc m) id cells within h w = shape_now all models m id cells (omega (arith, within)) h w

kinds_then : (all models : List Entity) (m id : ℕ) (cells : List Value) → IsSomeAnd (slice_get (shapes_of_models all models) m) (λ s. IsShaped s id cells)
    → have_kinds (kinds_of_fields all (fields_at models m)) cells ≡ true
kinds_then all [] m id cells h = absurd h
kinds_then all (e ∷ models) zero id cells h = h.fit
kinds_then all (e ∷ models) (suc m) id cells h = kinds_then all models m id cells h

wide_then : (all models : List Entity) (m id : ℕ) (cells : List Value) → IsSomeAnd (slice_get (shapes_of_models all models) m) (λ s. IsShaped s id cells) → is_wide id ≡ is_nested_at models m
wide_then all [] m id cells h = absurd h
wide_then all (e ∷ models) zero id cells h = h.wide
wide_then all (e ∷ models) (suc m) id cells h = wide_then all models m id cells h

abbrev IsRowOf : List Entity → ℕ → ℕ → PlainRow → Type 0
IsRowOf models number m r = IsRecord (shapes_of_models models models) m (number + 1) r.id r.cells

is_keeping : IsKeeping IsRowOf
is_keeping = record {
  made = λ k m site cells r fit within few shaped.
      let most = fit.few in
      let id = id_made k m site in
      record {
        made = form_made k.number site m id fit.some fit.room few (omega (arith, within, most)) (form_of (is_nested_at k.models m) k.around (record_id k.number site m));
        fit = shape_now k.models k.models m id (created_cells k m id cells r) within
            (kinds_shielded k.models k.shown m id every_field (drafted_cells k.models (fields_at k.models m) (λ e. value_in k e r) cells (default_cells k.models (fields_at k.models m)))
            (kinds_drafted k.models (fields_at k.models m) (λ e. value_in k e r) cells (default_cells k.models (fields_at k.models m)) (kinds_default k.models (fields_at k.models m))))
            (wide_by (is_nested_at k.models m) id shaped);
      };
  updates = λ k m id sets run row within h.
      let fields = fields_at k.models m in
      record {
        made = h.made;
        fit = shape_now k.models k.models m row.id (updated_cells k m id sets run row.cells) within
            (kinds_shielded k.models k.shown m id (is_set fields sets) (drafted_cells k.models fields (λ e. value_in k e run) sets row.cells)
            (kinds_drafted k.models fields (λ e. value_in k e run) sets row.cells (kinds_then k.models k.models m row.id row.cells h.fit)))
            (wide_then k.models k.models m row.id row.cells h.fit);
      };
  shaped = λ models number m row h. shaped_from (is_nested_at models m) row.id m h.made.is_one (wide_then models models m row.id row.cells h.fit);
}

-- A good state is good for a greater number too.
module _ (shapes : List ModelShape) (n : ℕ) where
  later_rows : (m : ℕ) (rows : List PlainRow) → AllByRecursion (λ (r : PlainRow). IsRecord shapes m n r.id r.cells) rows
      → AllByRecursion (λ (r : PlainRow). IsRecord shapes m (n + 1) r.id r.cells) rows
  later_rows m [] a = tt
  later_rows m (r ∷ rows) a =
      (record { made = record { of_model = a.0.made.of_model; is_one = a.0.made.is_one; numbered = a.0.made.numbered; made = omega (arith, a.0.made.made) }; fit = a.0.fit }, later_rows m rows a.1)

  later : (m : ℕ) (tables : List (List PlainRow)) → ArePlain shapes n m tables → ArePlain shapes (n + 1) m tables
  later m [] a = tt
  later m (t ∷ ts) a = (a.0, later_rows m t a.1, later (m + 1) ts a.2)

from_zero : (IsRow : ℕ → PlainRow → Type 0) (tables : List (List PlainRow)) → ((m : ℕ) → AreRows IsRow m (rows_of tables m)) → (i : ℕ) → AreRows IsRow (0 + i) (rows_of tables i)
from_zero IsRow tables h i = let same : i ≡ 0 + i = omega arith in subst (λ m. AreRows IsRow m (rows_of tables i)) same (h i)

good_by : (v : Verb) (w : ℕ → Bool) (app : Application) (t : PlainState) (visit : Visit)
    → IsGoodPlain (shapes_of app) t → t.number < 2 ^ 40 → length app.models ≤ 64 → are_sited (body_in (slice_get app.views visit.view)) ≡ true
    → are_placed app.models Loops.none (body_in (slice_get app.views visit.view)) ≡ true
    → IsGoodPlain (shapes_of app) (after_by v w app t visit)
good_by verbs.Get w app t visit good room few sited placed = good
good_by verbs.Post w app t visit good room few sited placed =
    let next : IsNext (t.number + 1) = (omega arith, omega (arith, room)) in
    let start = later (shapes_of app) t.number 0 t.tables good.1 in
    let run : Run = record { tables = t.tables; env = visit.env; pieces = [] } in (
      next,
      tables_by (IsRowOf app.models t.number) 0 (run_of w app t visit).tables
          (from_zero (IsRowOf app.models t.number) (run_of w app t visit).tables
          (keeps_all IsRowOf is_keeping (setting_of w app t visit) Loops.none (body_in (slice_get app.views visit.view))
          (record { some = omega (arith, good.0.0); room = room; few = few }) tt sited placed run
          (λ m. table_of (IsRowOf app.models t.number) 0 m m t.tables (omega arith) start))),
    )

pub good_after : (w : ℕ → Bool) (app : Application) (t : PlainState) (visit : Visit)
    → IsGoodPlain (shapes_of app) t → t.number < 2 ^ 40 → length app.models ≤ 64 → are_sited (body_in (slice_get app.views visit.view)) ≡ true
    → are_placed app.models Loops.none (body_in (slice_get app.views visit.view)) ≡ true
    → IsGoodPlain (shapes_of app) (after w app t visit)
good_after w app t visit good room few sited placed = good_by (method_in (slice_get app.views visit.view)) w app t visit good room few sited placed

-- The same for the ids alone.
abbrev pub IsShapedRow : List Entity → ℕ → ℕ → PlainRow → Type 0
IsShapedRow models number m r = is_shaped (is_nested_at models m) r.id ≡ true

pub shapes_keeping : IsKeeping IsShapedRow
shapes_keeping = record {
  made = λ k m site cells r fit within few shaped. shaped;
  updates = λ k m id sets run row within h. h;
  shaped = λ models number m row h. h;
}

flat_by : (v : Verb) (w : ℕ → Bool) (app : Application) (t : PlainState) (visit : Visit)
    → 0 < t.number → t.number < 2 ^ 40 → length app.models ≤ 64 → are_sited (body_in (slice_get app.views visit.view)) ≡ true
    → are_placed app.models Loops.none (body_in (slice_get app.views visit.view)) ≡ true → HaveRisingIds t.tables → AreFlat app.models t.tables
    → AreFlat app.models (after_by v w app t visit).tables
flat_by verbs.Get w app t visit some room few sited placed ordered flat = flat
flat_by verbs.Post w app t visit some room few sited placed ordered flat =
    kept_flat IsShapedRow shapes_keeping app.models t.number (run_of w app t visit).tables
    (keeps_all IsShapedRow shapes_keeping (setting_of w app t visit) Loops.none (body_in (slice_get app.views visit.view))
    (record { some = some; room = room; few = few }) tt sited placed (record { tables = t.tables; env = visit.env; pieces = [] }) (λ m. (ordered m, flat m)))

pub flat_after : (w : ℕ → Bool) (app : Application) (t : PlainState) (visit : Visit)
    → 0 < t.number → t.number < 2 ^ 40 → length app.models ≤ 64 → are_sited (body_in (slice_get app.views visit.view)) ≡ true
    → are_placed app.models Loops.none (body_in (slice_get app.views visit.view)) ≡ true → HaveRisingIds t.tables → AreFlat app.models t.tables
    → AreFlat app.models (after w app t visit).tables
flat_after w app t visit some room few sited placed ordered flat = flat_by (method_in (slice_get app.views visit.view)) w app t visit some room few sited placed ordered flat
