-- The names of what an application lacks, and how the steps of an upgrade end.
use Rattle.std.proofs.Common.{◌≡◌, ◌∙◌, ap, sym, subst, refl, suc, ℕ, ◌<◌, ◌≤◌, ◌⊎◌, inl, inr, Bool, IsTrue, Result, Ok, Err, Option, Some, List, [], ◌∷◌, length, get_or, arith}
use Rattle.std.specs.Prelude.{slice_get}
use Rattle.std.proofs.lemmas.List.{length-map}
use Rattle.std.proofs.lemmas.Option.{slice_get_past, slice_get_read}
use Rattle.jac_lang.specs.declared.field_kinds.Field.{Field}
use Rattle.jac_lang.specs.declared.schema.ModelDef.{ModelDef}
use Rattle.jac_lang.specs.Lookup.{fields_at}
use Rattle.jac_lang.specs.Mirror.{entities_of}
use Rattle.jac_lang.specs.Syntax.{Application, Entity}
use Rattle.jac_lang.proofs.Places.{fields-there, length-entities}
use Rattle.jac_plain.specs.Records.{name_in as field_name_in}
use Rattle.jac_plain.specs.Models.{shapes_of, shapes_of_models}
use Rattle.jac_rows.specs.Good.{ModelShape}
use Rattle.jac_rows.specs.Project.{project_at}
use Rattle.jac_rows.specs.declared.state.State.{State}
use Rattle.jac_keep.specs.KeeperSeen.{KeeperSeen, Store, IsLeft}
use Rattle.jac_keep.specs.ChangedState.{changed_state}
use Rattle.jac_keep.specs.Reshaping.{widened_state, Reshapes}
use Rattle.jac_keep.specs.Schema.{IsSchema, IsFit}
use Rattle.jac_keep.specs.declared.alteration.Alteration.{Alteration}
use Rattle.jac_keep.specs.declared.alteration.Change.{Change}
use Rattle.jac_keep.specs.declared.stop.Stop.{Stop}
use Rattle.jac_app_load.specs.Application.{schema_text}
use Rattle.jac_upgrade.specs.Changed.{AreIdsOf, changed_ids}
use Rattle.jac_upgrade.specs.Upgraded.{upgraded_state}
use Rattle.jac_admin.specs.Upgrade.{IsUpgraded}
use Rattle.jac_admin.proofs.DumpLemmas.{left_then}
use Rattle.jac_serve_events.specs.Outside.{span}
use Rattle.jac_command_base.specs.declared.exit_reason.ExitReason.{ExitReason}
use Rattle.jac_command_base.specs.declared.exit_reason.ExitReason.TheVariants as exits
use Rattle.jac_command_base.specs.Attached.{AttachesAs}

pub fields_found : (ms : List ModelDef) (i : ℕ) (m : ModelDef) → m ≡ get_or ms i m → i < length ms → m.fields ≡ fields_at (entities_of ms) i
fields_found ms i m item below = fields-there ms i m (slice_get_read ms (length ms) i m refl below item)

pub fields_missing : (ms : List ModelDef) (i : ℕ) → length ms ≤ i → [] ≡ fields_at (entities_of ms) i
fields_missing ms i past =
    let shorter : length (entities_of ms) ≤ i = rw (length-entities ms) past in
    rw (slice_get_past (entities_of ms) i shorter) refl

pub field_found : (fs : List Field) (i : ℕ) (f : Field) → f ≡ get_or fs i f → i < length fs → f.name ≡ field_name_in (slice_get fs i)
field_found fs i f item below =
    let there : slice_get fs i ≡ Some f = slice_get_read fs (length fs) i f refl below item in
    rw there refl

pub field_missing : (fs : List Field) (i : ℕ) → length fs ≤ i → [] ≡ field_name_in (slice_get fs i)
field_missing fs i past = rw (slice_get_past fs i past) refl

-- The reason of a refusal, as a result.
pub lacking_told : (exit_reason : ExitReason) (line : List ℕ) → (exit_reason ≡ exits.UpgradeRefused line) ⊎ (exit_reason ≡ exits.Memory)
    → (◌≡◌ {A = Result (Unit {0}) ExitReason} (Err exit_reason) (Err (exits.UpgradeRefused line))) ⊎ (◌≡◌ {A = Result (Unit {0}) ExitReason} (Err exit_reason) (Err exits.Memory))
lacking_told exit_reason line (inl told) = inl (ap (λ (e : ExitReason). Err e) told)
lacking_told exit_reason line (inr memory) = inr (ap (λ (e : ExitReason). Err e) memory)

-- Memory ran out before a store was attached.
pub unattached_still : (db : Option (List ℕ)) (app : Application) (k : KeeperSeen) → AttachesAs db app (span k k) (Err exits.Memory)
unattached_still db app k = record {
  no_out = refl;
  no_audit = refl;
  unattached = refl;
  refused = λ told. record { told = told; same_state = refl; same_schema = refl };
}

-- An application has a shape for each model.
one_each : (models rest : List Entity) → length (shapes_of_models models rest) ≡ length rest
one_each models [] = refl
one_each models (m ∷ rest) = ap suc (one_each models rest)

length_shapes : (app : Application) → length (shapes_of app) ≡ length app.models
length_shapes app = one_each app.models app.models

-- A change that was made from what the store keeps, and the schema under which it is to be applied.
module _ (old new : Application) (before middle : KeeperSeen) (change : Change) (schema : List ℕ)
    (left : IsLeft before middle) (text : schema ≡ schema_text new)
    (is_schema : IsSchema (schema_text new) (shapes_of new))
    (fit : IsTrue middle.tells →
    IsFit (shapes_of new) (widened_state (length new.models) (changed_state change before.state))) where
  schema_is : IsSchema schema (shapes_of new)
  schema_is = subst (λ (t : List ℕ). IsSchema t (shapes_of new)) (sym text) is_schema

  pub reshape_fits : (shapes : List ModelShape) × IsSchema schema shapes
      × (IsTrue middle.tells → IsFit shapes (widened_state (length shapes) (changed_state change middle.state)))
  reshape_fits = (
    shapes_of new,
    schema_is,
    λ told.
        subst (λ (n : ℕ). IsFit (shapes_of new) (widened_state n (changed_state change middle.state)))
        (sym (length_shapes new))
        (subst (λ (s : State). IsFit (shapes_of new) (widened_state (length new.models) (changed_state change s)))
        (sym (left.same_state told)) (fit told)),
  )

  module _ (after : KeeperSeen) where
    pub kept_if_refused : (stop : Stop) → Reshapes middle after change schema (Err stop) → IsLeft before after
    kept_if_refused stop r =
        left_then before middle after left
        (record { later = r.cause.later; told = r.told; same_state = r.err.same_state; same_store = r.err.same_store })

    pub upgraded_if_done : Reshapes middle after change schema (Ok tt)
        → (IsTrue middle.tells → AreIdsOf before.state (changed_ids change.changed))
        → (IsTrue middle.tells → (w : ℕ → Bool) →
        project_at w (widened_state (length new.models) (changed_state change before.state))
        ≡ upgraded_state w old.models new.models (project_at w before.state))
        → IsUpgraded old new (span before after) (length change.changed)
    upgraded_if_done r names shows =
        let state : IsTrue after.tells → after.state ≡ widened_state (length new.models) (changed_state change before.state) =
        λ told.
        r.ok.state told (shapes_of new) schema_is
        ∙ ap (λ (n : ℕ). widened_state n (changed_state change middle.state)) (length_shapes new)
        ∙ ap (λ (s : State). widened_state (length new.models) (changed_state change s)) (left.same_state (r.told told)) in
        record {
          later = omega (arith, left.later, r.cause.later);
          store =
              r.ok.store
              ∙ ap (λ (s : Store). record s { schema = Some schema }) left.same_store
              ∙ ap (λ (t : List ℕ). record before.store { schema = Some t }) text;
          told = λ told. left.told (r.told told);
          worlds = λ told w. ap (λ (s : State). project_at w s) (state told) ∙ shows (r.told told) w;
          fit = λ told. subst (λ (s : State). IsFit (shapes_of new) s) (sym (state told)) (fit (r.told told));
          counted = λ told. (
            changed_ids change.changed,
            names (r.told told),
            sym (length-map change.changed (λ (a : Alteration). a.id)),
          );
        }
