-- If a state fits an application's shapes, its requests may be answered in it.
use Rattle.std.proofs.Common.{◌≡◌, ◌∙◌, ap, refl, zero, suc, ℕ, true, List, [], ◌∷◌, length, arith}
use Rattle.std.specs.Prelude.{IsSomeAnd, slice_get}
use Rattle.std.specs.List.{AllByRecursion}
use Rattle.jac_value.specs.Ids.{is_wide}
use Rattle.jac_value.specs.declared.value.Value.{Value}
use Rattle.jac_lang.specs.Lookup.{is_nested_at}
use Rattle.jac_lang.specs.Syntax.{Application, Entity}
use Rattle.jac_rows.specs.Good.{IsShaped, IsRecord, IsGoodPlain}
use Rattle.jac_rows.specs.Project.{project_at}
use Rattle.jac_rows.specs.declared.plain.PlainRow.{PlainRow}
use Rattle.jac_rows.specs.declared.plain.PlainState.{PlainState}
use Rattle.jac_rows.specs.declared.state.State.{State}
use Rattle.jac_rows.proofs.Goodness.{good}
use Rattle.jac_keep.specs.Schema.{IsFit}
use Rattle.jac_keep.proofs.SoundLaws.{sound_if_good}
use Rattle.jac_plain.specs.Models.{shapes_of, shapes_of_models, is_shaped, AreFlat}
use Rattle.jac_plain.proofs.MadeIds.{shaped_from}
use Rattle.jac_plain.proofs.RowLaws.{table_of}
use Rattle.jac_engine.specs.Start.{IsStart}

one_each : (models rest : List Entity) → length (shapes_of_models models rest) ≡ length rest
one_each models [] = refl
one_each models (m ∷ rest) = ap suc (one_each models rest)

wide_if : (models rest : List Entity) (m id : ℕ) (cells : List Value)
    → IsSomeAnd (slice_get (shapes_of_models models rest) m) (λ s. IsShaped s id cells)
    → is_wide id ≡ is_nested_at rest m
wide_if models [] m id cells h = absurd h
wide_if models (e ∷ rest) zero id cells h = h.wide
wide_if models (e ∷ rest) (suc m) id cells h = wide_if models rest m id cells h

flat_rows : (models : List Entity) (next m : ℕ) (rows : List PlainRow)
    → AllByRecursion (λ (r : PlainRow). IsRecord (shapes_of_models models models) m next r.id r.cells) rows
    → AllByRecursion (λ (r : PlainRow). is_shaped (is_nested_at models m) r.id ≡ true) rows
flat_rows models next m [] all = tt
flat_rows models next m (r ∷ rows) all = (
  shaped_from (is_nested_at models m) r.id m all.0.made.is_one (wide_if models models m r.id r.cells all.0.fit),
  flat_rows models next m rows all.1,
)

-- In a good state, only nested models have wide ids.
flat_if_good : (app : Application) (t : PlainState) → IsGoodPlain (shapes_of app) t → AreFlat app.models t.tables
flat_if_good app t is m =
    flat_rows app.models t.number m _
    (table_of (λ k (r : PlainRow). IsRecord (shapes_of app) k t.number r.id r.cells) 0 m m t.tables (omega arith) is.1).1

pub starts : (app : Application) (s : State) → IsFit (shapes_of app) s → IsStart app s
starts app s fit = record {
  sound = sound_if_good (shapes_of app) s fit.good;
  tables = let same = fit.tables ∙ one_each app.models app.models in omega (arith, same);
  flat = λ w. flat_if_good app (project_at w s) (good (shapes_of app) s fit.good w);
}
