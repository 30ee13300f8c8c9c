-- The state after an upgrade fits the new application.
use Rattle.std.proofs.Common.{◌≡◌, ◌∙◌, refl, ap, sym, subst, arith, zero, suc, ℕ, ◌+◌, ◌-◌, ◌<◌, ◌≤◌, ◌==◌, ◌&&◌, Bool, true, false, if◌then◌else◌, IsTrue, List, [], ◌∷◌, ◌++◌, length, drop, map, Option, Some, None, unwrap_or}
use Rattle.std.proofs.lemmas.Bool.{and_parts, and_from, eqb-true}
use Rattle.std.specs.Prelude.{slice_get, IsSomeAnd}
use Rattle.std.specs.List.{AllByRecursion}
use Rattle.jac_value.specs.Ids.{is_wide, model_of_id}
use Rattle.jac_value.specs.declared.value.Kind.{Kind}
use Rattle.jac_value.specs.declared.value.Kind.TheVariants as kind
use Rattle.jac_value.specs.declared.value.Value.{Value}
use Rattle.jac_value.specs.Values.{default_value, has_kind}
use Rattle.jac_world.specs.World.{holds, guard_wants}
use Rattle.jac_check.specs.Well.{is_well}
use Rattle.jac_lang.specs.declared.field_kinds.Field.{Field}
use Rattle.jac_lang.specs.Lookup.{fields_at, is_nested_at, kind_named}
use Rattle.jac_lang.specs.Syntax.{Application, Entity}
use Rattle.jac_rows.specs.Good.{AreGuarded, AreRising, AreTablesOf, IsGoodByGuards, IsMade, IsRecord, IsShaped, ModelShape, have_kinds}
use Rattle.jac_rows.specs.Tables.{rows_of}
use Rattle.jac_rows.specs.declared.row.Row.{Row}
use Rattle.jac_rows.specs.declared.state.State.{State}
use Rattle.jac_plain.specs.Models.{kinds_of_fields, shapes_of, shapes_of_models}
use Rattle.jac_plain.specs.Records.{default_cells}
use Rattle.jac_plain.proofs.GoodLaws.{kinds_shielded}
use Rattle.jac_keep.specs.Alterations.{AreApart, alternatives_named, overlaid}
use Rattle.jac_keep.specs.ChangedState.{changed_state}
use Rattle.jac_keep.specs.Records.{AreOf, alternatives}
use Rattle.jac_keep.specs.Reshaping.{widened_state}
use Rattle.jac_keep.specs.Schema.{IsFit, empties}
use Rattle.jac_keep.specs.declared.alteration.Alteration.{Alteration}
use Rattle.jac_keep.specs.declared.alteration.Change.{Change}
use Rattle.jac_keep.proofs.SoundLaws.{sound_if_good}
use Rattle.jac_write.specs.Regrouped.{is_guarded_from, stays}
use Rattle.jac_write.specs.Writes.{cells_at}
use Rattle.jac_write.proofs.RecordLaws.{few_cells}
use Rattle.jac_upgrade.specs.Changed.{has_alternative}
use Rattle.jac_upgrade.specs.Extends.{models_lack}
use Rattle.jac_upgrade.specs.Steps.{AltersBelow, AreMet, IsUpgradeOf, upgraded_all}
use Rattle.jac_upgrade.specs.Upgraded.{draft_of, group_count, upgraded_cells}
use Rattle.jac_upgrade.proofs.Applied.{Changes, after_change, change_of, length_after, none_left, none_other, renewed_of, sound_of, table_after}
use Rattle.jac_upgrade.proofs.Modeling.{IsTableOf, made_there, table_of}
use Rattle.jac_upgrade.proofs.Prefixes.{at_least, kinds_grown, same_nested}
use Rattle.jac_upgrade.proofs.Walking.{all_mapped, same_id}

-- The cells have the kinds of the model's fields.
abbrev Fits : List Entity → ℕ → List Value → Type 0
Fits models m cells = have_kinds (kinds_of_fields models (fields_at models m)) cells ≡ true

default_kind : (k : Kind) → has_kind k (default_value k) ≡ true
default_kind kind.Int = refl
default_kind kind.Text = refl
default_kind kind.Bool = refl
default_kind (kind.Ref m) = refl

defaults_fit : (models : List Entity) (fields : List Field) → have_kinds (kinds_of_fields models fields) (default_cells models fields) ≡ true
defaults_fit models [] = refl
defaults_fit models (f ∷ fields) =
    and_from (has_kind (kind_named models f.kind) (default_value (kind_named models f.kind))) (have_kinds (kinds_of_fields models fields) (default_cells models fields))
    (default_kind (kind_named models f.kind)) (defaults_fit models fields)

kinds_append : (ks ls : List Kind) (cs ds : List Value) → have_kinds ks cs ≡ true → have_kinds ls ds ≡ true → have_kinds (ks ++ ls) (cs ++ ds) ≡ true
kinds_append [] ls [] ds p q = q
kinds_append [] ls (c ∷ cs) ds p q = cc
kinds_append (k ∷ ks) ls [] ds p q = cc
kinds_append (k ∷ ks) ls (c ∷ cs) ds p q =
    let parts = and_parts (has_kind k c) (have_kinds ks cs) p in
    and_from (has_kind k c) (have_kinds (ks ++ ls) (cs ++ ds)) parts.0 (kinds_append ks ls cs ds parts.1 q)

-- A draft, and what is stored of it.
draft_fits : (app : Application) (news : List Entity) (m : ℕ) (cells : List Value) → IsTrue (is_well app) → models_lack 0 app.models news ≡ None → m < length app.models
    → Fits app.models m cells → Fits news m (draft_of app.models news m cells)
draft_fits app news m cells well h within fits =
    let added : List Field = drop (length (fields_at app.models m)) (fields_at news m) in
    ap (λ ks. have_kinds ks (draft_of app.models news m cells)) (kinds_grown app news m well h within)
    ∙ kinds_append (kinds_of_fields app.models (fields_at app.models m)) (kinds_of_fields news added) cells (default_cells news added) fits (defaults_fit news added)

cells_fit : (w : ℕ → Bool) (app : Application) (news : List Entity) (m id : ℕ) (cells : List Value) → IsTrue (is_well app) → models_lack 0 app.models news ≡ None → m < length app.models
    → Fits app.models m cells → Fits news m (upgraded_cells w app.models news m id cells)
cells_fit w app news m id cells well h within fits =
    kinds_shielded news w m id (is_guarded_from news m (group_count app.models m)) (draft_of app.models news m cells) (draft_fits app news m cells well h within fits)

all_fit : (w : ℕ → Bool) (app : Application) (news : List Entity) (m id : ℕ) (cs : List (List Value)) → IsTrue (is_well app) → models_lack 0 app.models news ≡ None → m < length app.models
    → AllByRecursion (Fits app.models m) cs → AllByRecursion (Fits news m) (map (upgraded_cells w app.models news m id) cs)
all_fit w app news m id [] well h within all = tt
all_fit w app news m id (c ∷ cs) well h within all = (cells_fit w app news m id c well h within all.0, all_fit w app news m id cs well h within all.1)

upgraded_fit : (w : ℕ → Bool) (app : Application) (news : List Entity) (m id : ℕ) (cs : List (List Value)) → IsTrue (is_well app) → models_lack 0 app.models news ≡ None → m < length app.models
    → AllByRecursion (Fits app.models m) cs → AllByRecursion (Fits news m) (upgraded_all w app.models news m id cs)
upgraded_fit w app news m id cs well h within all = fit_if (stays news w m id (group_count app.models m)) where
  fit_if : (b : Bool) → AllByRecursion (Fits news m) (if b then map (upgraded_cells w app.models news m id) cs else [])
  fit_if true = all_fit w app news m id cs well h within all
  fit_if false = tt

-- Cells that some assignment shows.
module _ (Q : List Value → Type 0) where
  shown_if : (b : Bool) (c : List Value) (cs : List (List Value)) → b ≡ true → AllByRecursion Q (if b then c ∷ cs else cs) → Q c
  shown_if true c cs h all = all.0
  shown_if false c cs h all = cc

  later_if : (b : Bool) (c : List Value) (cs : List (List Value)) → AllByRecursion Q (if b then c ∷ cs else cs) → AllByRecursion Q cs
  later_if true c cs all = all.1
  later_if false c cs all = all

  -- A property of all cells that are shown holds for all rows whose guards can hold.
  each_shown : (rows : List Row) → AreMet rows → ((w : ℕ → Bool) → AllByRecursion Q (cells_at w rows)) → AllByRecursion (λ (r : Row). Q r.cells) rows
  each_shown [] met all = tt
  each_shown (r ∷ rows) met all = (
    shown_if (holds (guard_wants r.guard) r.guard) r.cells (cells_at (guard_wants r.guard) rows) met.0 (all (guard_wants r.guard)),
    each_shown rows met.1 (λ w. later_if (holds w r.guard) r.cells (cells_at w rows) (all w)),
  )

  shows_if : (b : Bool) (c : List Value) (cs : List (List Value)) → Q c → AllByRecursion Q cs → AllByRecursion Q (if b then c ∷ cs else cs)
  shows_if true c cs one rest = (one, rest)
  shows_if false c cs one rest = rest

  all_shown : (w : ℕ → Bool) (rows : List Row) → AllByRecursion (λ (r : Row). Q r.cells) rows → AllByRecursion Q (cells_at w rows)
  all_shown w [] all = tt
  all_shown w (r ∷ rows) all = shows_if (holds w r.guard) r.cells (cells_at w rows) all.0 (all_shown w rows all.1)

module _ (P : Row → Type 0) where
  kept_if : (b : Bool) (r : Row) (rows : List Row) → P r → AllByRecursion P rows → AllByRecursion P (if b then r ∷ rows else rows)
  kept_if true r rows one rest = (one, rest)
  kept_if false r rows one rest = rest

  all_alternatives : (id : ℕ) (rows : List Row) → AllByRecursion P rows → AllByRecursion P (alternatives id rows)
  all_alternatives id [] all = tt
  all_alternatives id (r ∷ rows) all = kept_if (r.id == id) r (alternatives id rows) all.0 (all_alternatives id rows all.1)

  own_if : (b : Bool) (r : Row) (rows : List Row) → b ≡ true → AllByRecursion P (if b then r ∷ rows else rows) → P r
  own_if true r rows e all = all.0
  own_if false r rows e all = cc

  rest_if : (b : Bool) (r : Row) (rows : List Row) → AllByRecursion P (if b then r ∷ rows else rows) → AllByRecursion P rows
  rest_if true r rows all = all.1
  rest_if false r rows all = all

  -- A property of the rows of each record holds for all rows.
  each_record : (rows : List Row) → ((id : ℕ) → AllByRecursion P (alternatives id rows)) → AllByRecursion P rows
  each_record [] all = tt
  each_record (r ∷ rows) all = (
    own_if (r.id == r.id) r (alternatives r.id rows) (same_id r.id) (all r.id),
    each_record rows (λ id. rest_if (r.id == id) r (alternatives id rows) (all id)),
  )

-- The shape of a model.
shape_to : (all models : List Entity) (m id : ℕ) (cells : List Value) → m < length models → have_kinds (kinds_of_fields all (fields_at models m)) cells ≡ true → is_wide id ≡ is_nested_at models m
    → IsSomeAnd (slice_get (shapes_of_models all models) m) (λ s. IsShaped s id cells)
shape_to all [] m id cells within h w = absurd (omega (arith, within))
shape_to all (e ∷ models) zero id cells within h w = record { fit = h; wide = w }
shape_to all (e ∷ models) (suc m) id cells within h w = shape_to all models m id cells (omega (arith, within)) h w

shape_from : (all models : List Entity) (m id : ℕ) (cells : List Value) → m < length models → IsSomeAnd (slice_get (shapes_of_models all models) m) (λ s. IsShaped s id cells)
    → (have_kinds (kinds_of_fields all (fields_at models m)) cells ≡ true) × (is_wide id ≡ is_nested_at models m)
shape_from all [] m id cells within h = absurd (omega (arith, within))
shape_from all (e ∷ models) zero id cells within h = (h.fit, h.wide)
shape_from all (e ∷ models) (suc m) id cells within h = shape_from all models m id cells (omega (arith, within)) h

length_shapes : (all models : List Entity) → length (shapes_of_models all models) ≡ length models
length_shapes all [] = refl
length_shapes all (e ∷ models) = ap suc (length_shapes all models)

-- A table of a state that fits.
table_in : (IsRow : ℕ → Row → Type 0) (from i : ℕ) (tables : List (List Row)) → AreTablesOf AreRising IsRow from tables → AllByRecursion (IsRow (from + i)) (rows_of tables i)
table_in IsRow from i [] h = tt
table_in IsRow from zero (t ∷ ts) h =
    let here : from ≡ from + 0 = omega arith in
    subst (λ k. AllByRecursion (IsRow k) t) here h.1
table_in IsRow from (suc i) (t ∷ ts) h =
    let same : (from + 1) + i ≡ from + suc i = omega arith in
    subst (λ k. AllByRecursion (IsRow k) (rows_of ts i)) same (table_in IsRow (from + 1) i ts h.2)

records_of : (shapes : List ModelShape) (s : State) (m : ℕ) → IsGoodByGuards shapes s → AllByRecursion (λ (r : Row). IsRecord shapes m s.number r.id r.cells) (rows_of s.tables m)
records_of shapes s m good =
    let here : 0 + m ≡ m = omega arith in
    subst (λ k. AllByRecursion (λ (r : Row). IsRecord shapes k s.number r.id r.cells) (rows_of s.tables m)) here
    (table_in (λ model (r : Row). IsRecord shapes model s.number r.id r.cells) 0 m s.tables good.1)

-- A row of a record that has one.
wide_if : (id k : ℕ) (nested b later : Bool) → (k == id) ≡ b → is_wide k ≡ nested → (later ≡ true → is_wide id ≡ nested) → (if b then true else later) ≡ true → is_wide id ≡ nested
wide_if id k nested true later same one rest h = subst (λ i. is_wide i ≡ nested) (eqb-true k id same) one
wide_if id k nested false later same one rest h = rest h

wide_there : (models : List Entity) (next m id : ℕ) (rows : List Row) → m < length models → AllByRecursion (λ (r : Row). IsRecord (shapes_of_models models models) m next r.id r.cells) rows
    → has_alternative id rows ≡ true → is_wide id ≡ is_nested_at models m
wide_there models next m id [] within all h = cc
wide_there models next m id (r ∷ rows) within all h =
    wide_if id r.id (is_nested_at models m) (r.id == id) (has_alternative id rows) refl (shape_from models models m r.id r.cells within all.0.fit).1
    (λ later. wide_there models next m id rows within all.1 later) h

own_record : (shapes : List ModelShape) (m next id : ℕ) (rows : List Row) → AreOf id rows → AllByRecursion (λ (r : Row). IsRecord shapes m next id r.cells) rows
    → AllByRecursion (λ (r : Row). IsRecord shapes m next r.id r.cells) rows
own_record shapes m next id [] own all = tt
own_record shapes m next id (r ∷ rows) own all = (subst (λ i. IsRecord shapes m next i r.cells) (sym own.0) all.0, own_record shapes m next id rows own.1 all.1)

-- The premises of an upgrade.
pub record Upgrading (app new : Application) (s : State) (changed : List Alteration) : Type 0 where
  pub well : IsTrue (is_well app)
  pub extends : models_lack 0 app.models new.models ≡ None
  pub fit : IsFit (shapes_of app) s
  pub all : Changes app.models new.models s changed

-- The rows of a record after the change.
module _ (app new : Application) (s : State) (changed : List Alteration) (u : Upgrading app new s changed) where
  abbrev IsRecordOf : ℕ → Row → Type 0
  IsRecordOf m r = IsRecord (shapes_of new) m s.number r.id r.cells

  old_records : (m : ℕ) → AllByRecursion (λ (r : Row). IsRecord (shapes_of app) m s.number r.id r.cells) (rows_of s.tables m)
  old_records m = records_of (shapes_of app) s m u.fit.good

  -- The rows of a record that is altered.
  named_records : (id : ℕ) (rows : List Row) → model_of_id id < length app.models → IsUpgradeOf app.models new.models s (record { id = id; rows = rows }) → AllByRecursion (IsRecordOf (model_of_id id)) rows
  named_records id rows within is =
      let m : ℕ = model_of_id id in
      let table : List Row = rows_of s.tables m in
      let t : IsTableOf s.number m table = table_of s m u.all.sound in
      let made : IsMade m s.number id = made_there s.number m id table t.made is.upgrade.there in
      let olds : AllByRecursion (λ (r : Row). Fits app.models m r.cells) table =
      all_mapped (λ (r : Row). IsRecord (shapes_of app) m s.number r.id r.cells) (λ (r : Row). Fits app.models m r.cells) table (λ r h. (shape_from app.models app.models m r.id r.cells within h.fit).0) (old_records m) in
      let few : (w : ℕ → Bool) → length (cells_at w (alternatives id table)) ≤ 1 = λ w. few_cells w id table t.rising in
      let kinds : AllByRecursion (λ (r : Row). Fits new.models m r.cells) rows =
      each_shown (Fits new.models m) rows is.upgrade.renewed.met (λ w.
      subst (λ cs. AllByRecursion (Fits new.models m) cs) (sym (is.upgrade.renewed.shown w (few w)))
      (upgraded_fit w app new.models m id (cells_at w (alternatives id table)) u.well u.extends within
      (all_shown (Fits app.models m) w (alternatives id table) (all_alternatives (λ (r : Row). Fits app.models m r.cells) id table olds)))) in
      let wide : is_wide id ≡ is_nested_at new.models m =
      wide_there app.models s.number m id table within (old_records m) is.upgrade.there ∙ same_nested app.models new.models m u.extends within in
      let more : m < length new.models = (let long = at_least app.models new.models u.extends in omega (arith, within, long)) in
      own_record (shapes_of new) m s.number id rows is.upgrade.renewed.of
      (all_mapped (λ (r : Row). Fits new.models m r.cells) (λ (r : Row). IsRecord (shapes_of new) m s.number id r.cells) rows
      (λ r h. record { made = made; fit = shape_to new.models new.models m id r.cells more h wide }) kinds)

  found_records : (id : ℕ) (found : Option (List Row)) → model_of_id id < length app.models → alternatives_named id changed ≡ found
      → AllByRecursion (IsRecordOf (model_of_id id)) (unwrap_or found (alternatives id (rows_of s.tables (model_of_id id))))
  found_records id None within h =
      subst (AllByRecursion (IsRecordOf (model_of_id id))) (sym (none_left app.models new.models s changed id u.all within h)) tt
  found_records id (Some rows) within h = named_records id rows within (renewed_of app.models new.models s changed id rows u.all h)

  id_records : (m id : ℕ) (b : Bool) → m < length app.models → (model_of_id id == m) ≡ b → AllByRecursion (IsRecordOf m) (alternatives id (table_after changed s m))
  id_records m id true within e =
      let is : model_of_id id ≡ m = eqb-true (model_of_id id) m e in
      subst (λ k. AllByRecursion (IsRecordOf k) (alternatives id (table_after changed s k))) is
      (subst (AllByRecursion (IsRecordOf (model_of_id id))) (sym (after_change app.models new.models s changed id u.all))
      (found_records id (alternatives_named id changed) (subst (λ k. k < length app.models) (sym is) within) refl))
  id_records m id false within e =
      let other : model_of_id id ≡ m → ⊥ = λ same. grind (arith, e, same) in
      subst (AllByRecursion (IsRecordOf m))
      (sym (none_other s.number m id (table_after changed s m) (table_of (changed_state (change_of changed s) s) m (sound_of app.models new.models s changed u.all)).made other)) tt

  table_records : (m : ℕ) → m < length app.models → AllByRecursion (IsRecordOf m) (table_after changed s m)
  table_records m within = each_record (IsRecordOf m) (table_after changed s m) (λ id. id_records m id (model_of_id id == m) within refl)

-- Tables, each of which belongs to its model.
tables_by : (IsRow : ℕ → Row → Type 0) (from : ℕ) (ts : List (List Row)) → ((i : ℕ) → i < length ts → AreRising (rows_of ts i) × AllByRecursion (IsRow (from + i)) (rows_of ts i))
    → AreTablesOf AreRising IsRow from ts
tables_by IsRow from [] h = tt
tables_by IsRow from (t ∷ ts) h =
    let first = h 0 (omega arith) in
    let here : from + 0 ≡ from = omega arith in (
      first.0,
      subst (λ k. AllByRecursion (IsRow k) t) here first.1,
      tables_by IsRow (from + 1) ts (λ i less.
          let next : from + suc i ≡ (from + 1) + i = omega arith in
          let one = h (suc i) (omega (arith, less)) in
          (one.0, subst (λ k. AllByRecursion (IsRow k) (rows_of ts i)) next one.1)),
    )

tables_append : (IsRow : ℕ → Row → Type 0) (from n : ℕ) (ts : List (List Row)) → AreTablesOf AreRising IsRow from ts → AreTablesOf AreRising IsRow from (ts ++ empties n)
tables_append IsRow from zero [] h = tt
tables_append IsRow from (suc n) [] h = (tt, tt, tables_append IsRow (from + 1) n [] tt)
tables_append IsRow from n (t ∷ ts) h = (h.0, h.1, tables_append IsRow (from + 1) n ts h.2)

length_empties : (n : ℕ) → length (empties n) ≡ n
length_empties zero = refl
length_empties (suc n) = ap suc (length_empties n)

length_append : (xs ys : List (List Row)) → length (xs ++ ys) ≡ length xs + length ys
length_append [] ys = omega arith
length_append (x ∷ xs) ys = grind (arith, length_append xs ys)

pub law_fits : (app new : Application) (s : State) (changed : List Alteration) (c : Change) → c ≡ change_of changed s → Upgrading app new s changed
    → IsFit (shapes_of new) (widened_state (length new.models) (changed_state c s))
law_fits app new s changed c is u =
    let after : List (List Row) = overlaid changed s.tables in
    let n : ℕ = length new.models - length after in
    let same : length after ≡ length app.models = length_after 0 changed s.tables ∙ u.all.tables in
    let more : length app.models ≤ length new.models = at_least app.models new.models u.extends in
    let guarded : AreGuarded (shapes_of new) s.number 0 after =
    tables_by (λ model (r : Row). IsRecord (shapes_of new) model s.number r.id r.cells) 0 after (λ i less.
    let here : i ≡ 0 + i = omega arith in
    let within : i < length app.models = subst (λ k. i < k) same less in
    let rising : AreRising (rows_of after i) = (table_of (changed_state (change_of changed s) s) i (sound_of app.models new.models s changed u.all)).rising in
    (rising, subst (λ k. AllByRecursion (λ (r : Row). IsRecord (shapes_of new) k s.number r.id r.cells) (rows_of after i)) here (table_records app new s changed u i within))) in
    subst (λ (d : Change). IsFit (shapes_of new) (widened_state (length new.models) (changed_state d s))) (sym is) (record {
      good = (u.fit.good.0, tables_append (λ model (r : Row). IsRecord (shapes_of new) model s.number r.id r.cells) 0 n after guarded);
      tables = (
          let long : length (after ++ empties n) ≡ length after + n = length_append after (empties n) ∙ ap (λ k. length after + k) (length_empties n) in
          let shapes : length (shapes_of new) ≡ length new.models = length_shapes new.models new.models in
          omega (arith, long, shapes, same, more));
    })

-- All premises together.
pub upgrading : (app new : Application) (s : State) (changed : List Alteration) → IsTrue (is_well app) → models_lack 0 app.models new.models ≡ None → IsFit (shapes_of app) s
    → AreApart changed → AltersBelow app.models new.models s (length app.models) changed → Upgrading app new s changed
upgrading app new s changed well extends fit apart below = record {
  well = well;
  extends = extends;
  fit = fit;
  all = record {
    sound = sound_if_good (shapes_of app) s fit.good;
    tables = fit.tables ∙ length_shapes app.models app.models;
    apart = apart;
    below = below;
  };
}
