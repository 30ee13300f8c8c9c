-- Tables that fit: each record's id is an id of its model, and its cells have the kinds of the
-- model's fields.
use Rattle.std.specs.Prelude.{⊤, IsSomeAnd}
use Rattle.std.proofs.Common.{◌≡◌, subst, ℕ, ◌+◌, ◌==◌, zero, suc, Bool, true, false, refl, List, [], ◌∷◌, Option, Some, None, is_some, slice_get, unwrap_or, if◌then◌else◌, arith}
use Rattle.std.specs.List.{AllByRecursion}
use Rattle.std.proofs.lemmas.Bool.{and_parts}
use Rattle.jac_value.specs.declared.value.Kind.{Kind}
use Rattle.jac_value.specs.declared.value.Kind.TheVariants as kinds
use Rattle.jac_value.specs.declared.value.Value.{Value}
use Rattle.jac_value.specs.declared.value.Value.TheVariants as value
use Rattle.jac_value.specs.Ids.{is_id_of}
use Rattle.jac_value.specs.Values.{has_kind, default_value}
use Rattle.jac_lang.specs.declared.field_kinds.Field.{Field}
use Rattle.jac_lang.specs.Syntax.{Entity}
use Rattle.jac_lang.specs.Lookup.{fields_at, field_place, kind_at, kind_named}
use Rattle.jac_rows.specs.declared.plain.PlainRow.{PlainRow}
use Rattle.jac_rows.specs.Good.{IsRecord, IsShaped, ArePlain, have_kinds}
use Rattle.jac_rows.specs.Tables.{rows_of}
use Rattle.jac_plain.specs.Models.{kinds_of_fields, shapes_of_models}
use Rattle.jac_plain.specs.World.{World, rows_at_place, record_with, referred_record, cell_of, cell_named, got_of}
use Rattle.jac_check.specs.Kinds.{is_field}
use Rattle.jac_check.specs.Scope.{fields_placed, kind_placed, field_kind}
use Rattle.jac_kind_laws.specs.Fits.{Has, AreGood}
use Rattle.jac_kind_laws.proofs.Tests.{at_kind}

pub all_with : {X : Type 0} (P Q : X → Type 0) → ((x : X) → P x → Q x) → (xs : List X) → AllByRecursion P xs → AllByRecursion Q xs
all_with P Q f [] a = tt
all_with P Q f (x ∷ xs) a = (f x a.0, all_with P Q f xs a.1)

-- The kinds of the fields of the model at this place.
abbrev pub kinds_at : List Entity → ℕ → List Kind
kinds_at ms m = kinds_of_fields ms (fields_at ms m)

pub record FitsModel (ms : List Entity) (m : ℕ) (r : PlainRow) : Type 0 where
  pub of_model : is_id_of r.id m ≡ true
  pub cells : have_kinds (kinds_at ms m) r.cells ≡ true

abbrev pub AreRows : List Entity → ℕ → List PlainRow → Type 0
AreRows ms m rows = AllByRecursion (FitsModel ms m) rows

abbrev pub AreFit : List Entity → List (List PlainRow) → Type 0
AreFit ms tables = (m : ℕ) → AreRows ms m (rows_of tables m)

-- Good tables fit.
cells_fit : (all ms : List Entity) (m id : ℕ) (cells : List Value) → IsSomeAnd (slice_get (shapes_of_models all ms) m) (λ s. IsShaped s id cells)
    → have_kinds (kinds_of_fields all (fields_at ms m)) cells ≡ true
cells_fit all [] m id cells h = absurd h
cells_fit all (e ∷ ms) zero id cells h = h.fit
cells_fit all (e ∷ ms) (suc m) id cells h = cells_fit all ms m id cells h

record_fits : (ms : List Entity) (m next : ℕ) (r : PlainRow) → IsRecord (shapes_of_models ms ms) m next r.id r.cells → FitsModel ms m r
record_fits ms m next r a = record { of_model = a.made.is_one; cells = cells_fit ms ms m r.id r.cells a.fit }

rows_fit : (ms : List Entity) (next from m : ℕ) (tables : List (List PlainRow)) → ArePlain (shapes_of_models ms ms) next from tables → AreRows ms (from + m) (rows_of tables m)
rows_fit ms next from m [] g = tt
rows_fit ms next from zero (t ∷ ts) g =
    let here : from + 0 ≡ from = omega arith in
    rw here (all_with (λ (r : PlainRow). IsRecord (shapes_of_models ms ms) from next r.id r.cells) (FitsModel ms from) (λ r a. record_fits ms from next r a) t g.1)
rows_fit ms next from (suc m) (t ∷ ts) g = let on : from + suc m ≡ from + 1 + m = omega arith in rw on (rows_fit ms next (from + 1) m ts g.2)

pub good_fit : (ms : List Entity) (tables : List (List PlainRow)) → AreGood ms tables → AreFit ms tables
good_fit ms tables g m =
    let start : 0 + m ≡ m = omega arith in
    subst (λ (n : ℕ). AreRows ms n (rows_of tables m)) start (rows_fit ms g.next 0 m tables g.good.1)

-- The record fits, if there is one.
abbrev pub IsSomeRow : List Entity → ℕ → Option PlainRow → Type 0
IsSomeRow ms m None = ⊤
IsSomeRow ms m (Some r) = FitsModel ms m r

found_if : (ms : List Entity) (m : ℕ) (b : Bool) (r : PlainRow) (o : Option PlainRow) → FitsModel ms m r → IsSomeRow ms m o → IsSomeRow ms m (if b then Some r else o)
found_if ms m true r o h k = h
found_if ms m false r o h k = k

found : (ms : List Entity) (m id : ℕ) (rows : List PlainRow) → AreRows ms m rows → IsSomeRow ms m (record_with id rows)
found ms m id [] a = tt
found ms m id (r ∷ rows) a = found_if ms m (r.id == id) r (record_with id rows) a.0 (found ms m id rows a.1)

pub referred_fits : (ms : List Entity) (m : ℕ) (v : Value) (rows : List PlainRow) → AreRows ms m rows → IsSomeRow ms m (referred_record v rows)
referred_fits ms m (value.Int i) rows a = tt
referred_fits ms m (value.Text t) rows a = tt
referred_fits ms m (value.Bool b) rows a = tt
referred_fits ms m (value.Ref None) rows a = tt
referred_fits ms m (value.Ref (Some id)) rows a = found ms m id rows a

pub default_has : (k : Kind) → Has k (default_value k)
default_has kinds.Int = refl
default_has kinds.Text = refl
default_has kinds.Bool = refl
default_has (kinds.Ref m) = refl

cell : (ms : List Entity) (fs : List Field) (vs : List Value) (f : ℕ) (d : Value) → have_kinds (kinds_of_fields ms fs) vs ≡ true → Has (kind_at ms fs f) d → Has (kind_at ms fs f) (unwrap_or (slice_get vs f) d)
cell ms [] [] f d h k = k
cell ms [] (v ∷ vs) f d h k = cc
cell ms (g ∷ fs) [] f d h k = k
cell ms (g ∷ fs) (v ∷ vs) zero d h k = (and_parts _ _ h).0
cell ms (g ∷ fs) (v ∷ vs) (suc f) d h k = cell ms fs vs f d (and_parts (has_kind (kind_named ms g.kind) v) _ h).1 k

cell_there : (ms : List Entity) (m f : ℕ) (r : Option PlainRow) → IsSomeRow ms m r → Has (kind_at ms (fields_at ms m) f) (cell_of r f (default_value (kind_at ms (fields_at ms m) f)))
cell_there ms m f None g = default_has _
cell_there ms m f (Some r) g = cell ms (fields_at ms m) r.cells f (default_value (kind_at ms (fields_at ms m) f)) g.cells (default_has _)

cell_named_kind : (w : World) (m : ℕ) (place : Option ℕ) (r : Option PlainRow) (k : Kind) → IsSomeRow w.models m r → is_some place ≡ true
    → Some (kind_placed w.models (fields_at w.models m) place) ≡ Some k → Has k (cell_named w m place r)
cell_named_kind w m None r k g known h = cc
cell_named_kind w m (Some f) r k g known h = at_kind (kind_at w.models (fields_at w.models m) f) k _ h (cell_there w.models m f r g)

-- A field that is read has its kind.
pub got_kind : (w : World) (place : Option ℕ) (field : List ℕ) (k : Kind) (v : Value) → AreFit w.models w.tables
    → is_some place ≡ true → is_field (fields_placed w.models place) field ≡ true → Some (field_kind w.models (fields_placed w.models place) field) ≡ Some k
    → Has k (got_of w place field v)
got_kind w None field k v g known has_field h = cc
got_kind w (Some m) field k v g known has_field h =
    cell_named_kind w m (field_place (fields_at w.models m) field) (referred_record v (rows_of w.tables m)) k (referred_fits w.models m v (rows_of w.tables m) (g m)) has_field h

-- The ids of a model's records are references to the model.
pub records_refer : (w : World) (place : Option ℕ) (n : ℕ) → AreFit w.models w.tables
    → AllByRecursion (λ (r : PlainRow). Has (Kind.Ref (unwrap_or place n)) (value.Ref (Some r.id))) (rows_at_place w.tables place)
records_refer w None n g = tt
records_refer w (Some m) n g =
    all_with (FitsModel w.models m) (λ (r : PlainRow). Has (Kind.Ref m) (value.Ref (Some r.id))) (λ r a. a.of_model) (rows_of w.tables m) (g m)
