-- Statements that write: their results, from the results of the writes.
use Rattle.std.proofs.Common.{◌≡◌, ◌∙◌, sym, ap, subst, arith, ℕ, ◌+◌, ◌<◌, ◌^◌, Bool, true, false, List, Some, None}
use Rattle.jac_value.specs.declared.value.Value.{Value}
use Rattle.jac_value.specs.declared.value.Value.TheVariants as value
use Rattle.jac_value.specs.Ids.{record_id, model_of_id, number_of_id}
use Rattle.jac_world.specs.World.{holds, guard_wants}
use Rattle.jac_facet.specs.Shape.{Shape, one, at}
use Rattle.jac_lang.specs.declared.application.App.{App}
use Rattle.jac_lang.specs.Lookup.{model_place, fields_at, is_nested_at}
use Rattle.jac_lang.specs.Mirror.{application_of}
use Rattle.jac_lang.specs.Syntax.{Entity, Expression, Assigned, Statement, Statements}
use Rattle.jac_rows.specs.Good.{IsMade}
use Rattle.jac_rows.specs.Project.{project_at}
use Rattle.jac_rows.specs.Tables.{rows_of}
use Rattle.jac_rows.specs.declared.plain.PlainRow.{PlainRow}
use Rattle.jac_rows.specs.declared.state.State.{State}
use Rattle.jac_plain.specs.declared.context.Ctx.{Ctx}
use Rattle.jac_plain.specs.declared.page.Piece.{Piece}
use Rattle.jac_plain.specs.Expressions.{mean, stands}
use Rattle.jac_plain.specs.Making.{MayRun, MayRunAll, IsNew, MayCreate}
use Rattle.jac_plain.specs.Records.{drafted_cells, default_cells, plain_row, shielded_cells, every_field, is_set, changed_rows, without, tables_after}
use Rattle.jac_plain.specs.Statements.{Run, value_in, around_id, is_kept, with_made, created_cells, create_run, updated_cells, update_run, delete_run, leaves, leaves_all}
use Rattle.jac_plain.specs.World.{record_with}
use Rattle.jac_plain.proofs.MadeIds.{form_of, form_made}
use Rattle.jac_expr.specs.Seen.{env_at}
use Rattle.jac_expr.specs.Tupled.{all_at}
use Rattle.jac_write.specs.Writes.{Writes, Creates, fitted_from, tables_created, sets_at, remade_cells, tables_remade}
use Rattle.jac_stmt.specs.Drafts.{placed_sets}
use Rattle.jac_stmt.specs.Runs.{faceted_run, run_at, RunsFaceted, Executes, named_at, MayNameAt}
use Rattle.jac_stmt.proofs.DraftLaws.{drafted-placed, is_set-placed}
use Rattle.jac_stmt.proofs.RunLaws.{MeansAt, value_here, nothing_runs, written_ran, sound_too, write_runs, then_runs}
use Rattle.jac_plain.specs.Shown.{setting_at, world_at}

-- All expressions are read in the run's world.
values_here : (app : App) (ctx : Ctx) (s : State) (env : List (List ℕ × Shape Value)) (out : List (List (ℕ × Bool) × Piece)) (w : ℕ → Bool) → ctx.this ≡ None
    → ◌≡◌ {A = Expression → Value} (λ e. value_in (setting_at app ctx w) e (run_at w (faceted_run s env out))) (λ e. mean (world_at app ctx s w) e (env_at w env))
values_here app ctx s env out w none = λ i e. sym (value_here app ctx s env out e w none) i

-- Deleting records.

pub deletes_none : (app : App) (ctx : Ctx) (name : List ℕ) (e : Expression) (pc : List (ℕ × Bool)) (s : State) (env : List (List ℕ × Shape Value)) (out : List (List (ℕ × Bool) × Piece))
    → model_place (application_of app).models name ≡ None → Executes app ctx (Statement.delete name e) pc (faceted_run s env out) (faceted_run s env out)
deletes_none app ctx name e pc s env out none =
    nothing_runs (λ w. leaves (setting_at app ctx w) (Statement.delete name e)) (λ n w. MayRun n (setting_at app ctx w) (Statement.delete name e)) (λ w. holds w pc) s env out
    (λ w held. ap (λ m. delete_run m (value_in (setting_at app ctx w) e (run_at w (faceted_run s env out))) (run_at w (faceted_run s env out))) none)

pub deletes : (app : App) (ctx : Ctx) (name : List ℕ) (e : Expression) (pc : List (ℕ × Bool)) (m : ℕ) (start old new : State) (env : List (List ℕ × Shape Value)) (out : List (List (ℕ × Bool) × Piece)) (target : Shape Value)
    → ctx.this ≡ None → model_place (application_of app).models name ≡ Some m → old ≡ start → MeansAt app ctx start env pc e target
    → Writes (λ w. tables_after m (at w target) without) pc old new
    → Executes app ctx (Statement.delete name e) pc (faceted_run start env out) (faceted_run new env out)
deletes app ctx name e pc m start old new env out target none place same means write =
    write_runs (λ w. tables_after m (at w target) without) (λ w. leaves (setting_at app ctx w) (Statement.delete name e)) (λ n w. MayRun n (setting_at app ctx w) (Statement.delete name e)) pc start old new env out same
    (λ w held.
    let r : Run = run_at w (faceted_run start env out) in
    ap (λ p. delete_run p (value_in (setting_at app ctx w) e r) r) place
    ∙ ap (λ v. record r { tables = tables_after m v without r.tables }) (sym (value_here app ctx start env out e w none) ∙ sym (means w held)))
    write

-- Updating records.

pub updates_none : (app : App) (ctx : Ctx) (name : List ℕ) (e : Expression) (sets : List Assigned) (pc : List (ℕ × Bool)) (s : State) (env : List (List ℕ × Shape Value)) (out : List (List (ℕ × Bool) × Piece))
    → model_place (application_of app).models name ≡ None → Executes app ctx (Statement.update name e sets) pc (faceted_run s env out) (faceted_run s env out)
updates_none app ctx name e sets pc s env out none =
    nothing_runs (λ w. leaves (setting_at app ctx w) (Statement.update name e sets)) (λ n w. MayRun n (setting_at app ctx w) (Statement.update name e sets)) (λ w. holds w pc) s env out
    (λ w held. ap (λ m. update_run (setting_at app ctx w) m (value_in (setting_at app ctx w) e (run_at w (faceted_run s env out))) sets (run_at w (faceted_run s env out))) none)

-- The cells of an update, by names and by places.
cells_remade : (models : List Entity) (w : ℕ → Bool) (m id : ℕ) (value_of : Expression → Value) (sets : List Assigned) (put : List (ℕ × Value)) → placed_sets (fields_at models m) value_of sets ≡ put
    → ◌≡◌ {A = List Value → List Value} (λ old. shielded_cells models w m id (is_set (fields_at models m) sets) (drafted_cells models (fields_at models m) value_of sets old)) (remade_cells models w m id put)
cells_remade models w m id value_of sets put placed =
    let fields = fields_at models m in
    let by_places : ◌≡◌ {A = List Value → List Value} (λ old. shielded_cells models w m id (is_set fields sets) (drafted_cells models fields value_of sets old)) (remade_cells models w m id (placed_sets fields value_of sets)) =
    λ i old. shielded_cells models w m id (λ f. is_set-placed fields value_of sets f i) (drafted-placed models fields value_of sets old i) in
    by_places ∙ ap (remade_cells models w m id) placed

pub updates : (app : App) (ctx : Ctx) (name : List ℕ) (e : Expression) (sets : List Assigned) (pc : List (ℕ × Bool)) (m : ℕ) (start old new : State) (env : List (List ℕ × Shape Value)) (out : List (List (ℕ × Bool) × Piece))
    (target : Shape Value) (put : List (ℕ × Shape Value))
    → ctx.this ≡ None → model_place (application_of app).models name ≡ Some m → old ≡ start → MeansAt app ctx start env pc e target
    → ((w : ℕ → Bool) → holds w pc ≡ true → sets_at w put ≡ placed_sets (fields_at (application_of app).models m) (λ x. mean (world_at app ctx start w) x (env_at w env)) sets)
    → Writes (λ w. tables_remade (application_of app).models w m (at w target) (sets_at w put)) pc old new
    → Executes app ctx (Statement.update name e sets) pc (faceted_run start env out) (faceted_run new env out)
updates app ctx name e sets pc m start old new env out target put none place same means puts write =
    let models = (application_of app).models in
    write_runs (λ w. tables_remade models w m (at w target) (sets_at w put)) (λ w. leaves (setting_at app ctx w) (Statement.update name e sets)) (λ n w. MayRun n (setting_at app ctx w) (Statement.update name e sets))
    pc start old new env out same
    (λ w held.
    let k = setting_at app ctx w in
    let r : Run = run_at w (faceted_run start env out) in
    let placed : placed_sets (fields_at models m) (λ x. value_in k x r) sets ≡ sets_at w put =
    ap (λ (value_of : Expression → Value). placed_sets (fields_at models m) value_of sets) (values_here app ctx start env out w none) ∙ sym (puts w held) in
    let remade : (id : ℕ) → updated_cells k m id sets r ≡ remade_cells models w m id (sets_at w put) = λ id. cells_remade models w m id (λ x. value_in k x r) sets (sets_at w put) placed in
    ap (λ p. update_run k p (value_in k e r) sets r) place
    ∙ ap (λ v. record r { tables = tables_after m v (λ id rows. changed_rows id (updated_cells k m id sets r) rows) r.tables }) (sym (value_here app ctx start env out e w none) ∙ sym (means w held))
    ∙ ap (λ (step : ℕ → List PlainRow → List PlainRow). record r { tables = tables_after m (at w target) step r.tables }) (λ i id rows. changed_rows id (remade id i) rows))
    write

-- Creating records.

-- The id of a record that is made here. It is around the loop's record if the model is nested.
abbrev pub id_here : App → Ctx → ℕ → ℕ → ℕ
id_here app ctx m site = around_id (is_nested_at (application_of app).models m) ctx.around (record_id ctx.number site m)

pub made_here : (app : App) (ctx : Ctx) (m site : ℕ) → 0 < ctx.number → ctx.number < 2 ^ 40 → site < 64 → m < 64
    → IsMade m (ctx.number + 1) (id_here app ctx m site)
made_here app ctx m site some room few_sites few_models =
    form_made ctx.number site m (id_here app ctx m site) some room few_sites few_models
    (form_of (is_nested_at (application_of app).models m) ctx.around (record_id ctx.number site m))

pub creates_none : (app : App) (ctx : Ctx) (name model : List ℕ) (site : ℕ) (sets : List Assigned) (body : Statements) (pc : List (ℕ × Bool)) (s : State) (env : List (List ℕ × Shape Value)) (out : List (List (ℕ × Bool) × Piece))
    → model_place (application_of app).models model ≡ None → Executes app ctx (Statement.create name model site sets body) pc (faceted_run s env out) (faceted_run s env out)
creates_none app ctx name model site sets body pc s env out none =
    nothing_runs (λ w. leaves (setting_at app ctx w) (Statement.create name model site sets body)) (λ n w. MayRun n (setting_at app ctx w) (Statement.create name model site sets body)) (λ w. holds w pc) s env out
    (λ w held. ap (λ m. create_run (setting_at app ctx w) name m site sets (leaves_all (setting_at app ctx w) body) (run_at w (faceted_run s env out))) none)

-- A record is made where the path condition holds, and kept where its label is shown.
make_runs : (app : App) (ctx : Ctx) (m site : ℕ) (sets : List Assigned) (pc : List (ℕ × Bool)) (start old new : State) (env : List (List ℕ × Shape Value)) (out : List (List (ℕ × Bool) × Piece)) (cells : List (Shape Value))
    → let models = (application_of app).models in let id = id_here app ctx m site in
    holds (guard_wants pc) pc ≡ true → IsMade m (ctx.number + 1) id → ctx.this ≡ None → old ≡ start
    → ((w : ℕ → Bool) → holds w pc ≡ true → fitted_from models (fields_at models m) 0 (all_at w cells) ≡ drafted_cells models (fields_at models m) (λ x. mean (world_at app ctx start w) x (env_at w env)) sets (default_cells models (fields_at models m)))
    → Creates id (λ w. tables_created models w (model_of_id id) id (all_at w cells)) pc old new
    → RunsFaceted (λ w r. with_made (is_kept models w m id) m (plain_row id (created_cells (setting_at app ctx w) m id sets r)) r) (λ n w r. IsNew n ctx.number id (rows_of r.tables m)) (λ w. holds w pc) (faceted_run start env out) (faceted_run new env out)
make_runs app ctx m site sets pc start old new env out cells can_hold made none same drafts create n sound may =
    let models = (application_of app).models in
    let id = id_here app ctx m site in
    let of_model : model_of_id id ≡ m = made.of_model in
    let earlier = made.made in
    let next = (may (guard_wants pc) can_hold).numbered in
    let numbered : number_of_id id < n = omega (arith, earlier, next) in
    let absent : (w : ℕ → Bool) → holds w pc ≡ true → stands (record_with id (rows_of (project_at w old).tables (model_of_id id))) ≡ false = λ w held.
    ap (λ (s : State). stands (record_with id (rows_of (project_at w s).tables (model_of_id id)))) same
    ∙ ap (λ (x : ℕ). stands (record_with id (rows_of (project_at w start).tables x))) of_model
    ∙ (may w held).absent in
    written_ran n (λ w. tables_created models w (model_of_id id) id (all_at w cells)) (λ w r. with_made (is_kept models w m id) m (plain_row id (created_cells (setting_at app ctx w) m id sets r)) r)
    pc start old new env out same
    (λ w held.
    let r : Run = run_at w (faceted_run start env out) in
    let fields = fields_at models m in
    let row_made : List Value → Run = λ draft. with_made (is_kept models w m id) m (plain_row id (shielded_cells models w m id every_field draft)) r in
    ap (λ (value_of : Expression → Value). row_made (drafted_cells models fields value_of sets (default_cells models fields))) (values_here app ctx start env out w none)
    ∙ ap row_made (sym (drafts w held))
    ∙ ap (λ (x : ℕ). record r { tables = tables_created models w x id (all_at w cells) r.tables }) (sym of_model))
    (create n numbered absent (sound_too n start old same sound))

-- A new record, and then the body with the name bound to it.
pub makes : (app : App) (ctx : Ctx) (name : List ℕ) (m site : ℕ) (sets : List Assigned) (body : Statements) (pc : List (ℕ × Bool)) (start old mid new : State) (env env2 : List (List ℕ × Shape Value)) (out out2 : List (List (ℕ × Bool) × Piece))
    (cells : List (Shape Value)) (made : Shape Value)
    → let models = (application_of app).models in let id = id_here app ctx m site in
    holds (guard_wants pc) pc ≡ true → IsMade m (ctx.number + 1) id → ctx.this ≡ None → old ≡ start
    → ((w : ℕ → Bool) → holds w pc ≡ true → fitted_from models (fields_at models m) 0 (all_at w cells) ≡ drafted_cells models (fields_at models m) (λ x. mean (world_at app ctx start w) x (env_at w env)) sets (default_cells models (fields_at models m)))
    → Creates id (λ w. tables_created models w (model_of_id id) id (all_at w cells)) pc old mid
    → made ≡ one (value.Ref (Some id))
    → RunsFaceted (named_at app ctx name (λ w. at w made) body) (MayNameAt app ctx name (λ w. at w made) body) (λ w. holds w pc) (faceted_run mid env out) (faceted_run new env2 out2)
    → RunsFaceted (λ w. create_run (setting_at app ctx w) name (Some m) site sets (leaves_all (setting_at app ctx w) body)) (λ n w. MayCreate n (setting_at app ctx w) name (Some m) site sets (MayRunAll n (setting_at app ctx w) body))
    (λ w. holds w pc) (faceted_run start env out) (faceted_run new env2 out2)
makes app ctx name m site sets body pc start old mid new env env2 out out2 cells made can_hold is_made none same drafts create is named =
    let models = (application_of app).models in
    let id = id_here app ctx m site in
    let after : RunsFaceted (named_at app ctx name (λ w. value.Ref (Some id)) body) (MayNameAt app ctx name (λ w. value.Ref (Some id)) body) (λ w. holds w pc) (faceted_run mid env out) (faceted_run new env2 out2) =
    subst (λ (f : Shape Value). RunsFaceted (named_at app ctx name (λ w. at w f) body) (MayNameAt app ctx name (λ w. at w f) body) (λ w. holds w pc) (faceted_run mid env out) (faceted_run new env2 out2)) is named in
    then_runs (λ w r. with_made (is_kept models w m id) m (plain_row id (created_cells (setting_at app ctx w) m id sets r)) r) (named_at app ctx name (λ w. value.Ref (Some id)) body)
    (λ n w r. IsNew n ctx.number id (rows_of r.tables m)) (MayNameAt app ctx name (λ w. value.Ref (Some id)) body) (λ w. holds w pc)
    (faceted_run start env out) (faceted_run mid env out) (faceted_run new env2 out2)
    (make_runs app ctx m site sets pc start old mid env out cells can_hold is_made none same drafts create) after
