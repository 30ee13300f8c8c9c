use Rattle.std.proofs.Common.{◌∙◌, refl, sym, ap, subst, ℕ, List, [], ◌∷◌, ◌++◌, length, Some}
use Rattle.jac_value.specs.declared.value.Value.TheVariants as value
use Rattle.jac_value.specs.Ids.{model_of_id}
use Rattle.jac_world.specs.World.{holds}
use Rattle.jac_facet.specs.Leaves.{leaves_seen}
use Rattle.jac_facet.specs.Shape.{one, at}
use Rattle.jac_keep.specs.WorkState.{state_of}
use Rattle.jac_lang.specs.Mirror.{application_of, assigned_of, binders_of, expression_of, question_of, statements_of}
use Rattle.jac_plain.specs.declared.context.Ctx.{Ctx}
use Rattle.jac_plain.specs.Expressions.{bound, binding}
use Rattle.jac_plain.specs.Making.{MayRunAll}
use Rattle.jac_plain.specs.Statements.{leaves_all}
use Rattle.jac_expr.specs.Tupled.{all_at, bindings_of}
use Rattle.jac_expr.proofs.Bound.{bound-shown}
use Rattle.jac_expr.proofs.Names.{env_at-append}
use Rattle.jac_query.specs.declared.tuple.Tuple.{Tuple}
use Rattle.jac_write.specs.Writes.{Creates, tables_created}
use Rattle.jac_stmt.specs.Runs.{faceted_run, RunsFaceted, RunsEach, bound_at, MayBindAt, live_under}
use Rattle.jac_stmt.proofs.FormLaws.{branches, repeats}
use Rattle.jac_stmt.proofs.RunLaws.{scopes}
use Rattle.jac_stmt.proofs.WriteLaws.{id_here, made_here, makes}
use Rattle.jac_stmt.proofs.execution.+exec.Goals as goal
use Rattle.jac_plain.specs.Shown.{setting_around, setting_at}

pub execute-returns-in_ok-execute_update-in-Update-clause-left : goal.execute-returns-in_ok-execute_update-in-Update-clause-left
execute-returns-in_ok-execute_update-in-Update-clause-left g t c = λ told. rw c.in-Update.is (c.in_ok-execute_update-in-Update.ensures.left told c.args.frame.now.out)

pub execute-returns-in_ok-execute_delete-in-Delete-clause-left : goal.execute-returns-in_ok-execute_delete-in-Delete-clause-left
execute-returns-in_ok-execute_delete-in-Delete-clause-left g t c = λ told. rw c.in-Delete.is (c.in_ok-execute_delete-in-Delete.ensures.left told c.args.frame.now.out)

pub execute_named-returns-clause-left : goal.execute_named-returns-clause-left
execute_named-returns-clause-left g t c = λ told.
    let body = statements_of c.args.body.now in
    scopes (λ w. leaves_all (setting_at c.args.here.now.app.now c.args.here.now.ctx.now w) body) (λ n w. MayRunAll n (setting_at c.args.here.now.app.now c.args.here.now.ctx.now w) body) (λ w. holds w c.args.here.now.pc.now)
    (λ w env. env ++ binding c.args.name.now (at w c.args.value) ∷ [])
    (state_of g.K.Keeper.seen c.args.work.now) (state_of g.K.Keeper.seen c.execute_all.new.work) c.args.frame.now.env ((c.args.name.now, c.args.value) ∷ []) c.push.new.self c.execute_all.new.frame.env c.cut.new.self
    c.args.frame.now.out c.execute_all.new.frame.out (length c.as_slice-outer.result.now)
    (c.in_ok-push.ensures.ok ∙ ap (λ n. c.args.frame.now.env ++ (n, c.args.value) ∷ []) c.in_ok-name.ensures) (λ w. refl) (ap length c.as_slice-outer.ensures) c.cut.ensures (c.in_ok-execute_all.ensures.left told)

pub execute_bound-returns-clause-left : goal.execute_bound-returns-clause-left
execute_bound-returns-clause-left g t c = λ told.
    let app = c.args.here.now.app.now in
    let body = statements_of c.args.body.now in
    let bs = binders_of c.args.binders.now in
    let ids = c.args.ids.now in
    let more = bindings_of bs ids in
    let old = state_of g.K.Keeper.seen c.args.work.now in
    let new = state_of g.K.Keeper.seen c.execute_all.new.work in
    let ran : RunsFaceted (λ w. leaves_all (setting_around app c.args.here.now.ctx.now ids w) body) (λ n w. MayRunAll n (setting_around app c.args.here.now.ctx.now ids w) body) (λ w. holds w c.args.here.now.pc.now)
    (faceted_run old c.bind_tuple.new.env c.args.frame.now.out) (faceted_run new c.execute_all.new.frame.env c.execute_all.new.frame.out) =
    subst (λ (x : Ctx). RunsFaceted (λ w. leaves_all (setting_at app x w) body) (λ n w. MayRunAll n (setting_at app x w) body) (λ w. holds w c.args.here.now.pc.now)
    (faceted_run old c.bind_tuple.new.env c.args.frame.now.out) (faceted_run new c.execute_all.new.frame.env c.execute_all.new.frame.out))
    c.looped-ctx.ensures (c.in_ok-execute_all.ensures.left told) in
    scopes (λ w. leaves_all (setting_around app c.args.here.now.ctx.now ids w) body) (λ n w. MayRunAll n (setting_around app c.args.here.now.ctx.now ids w) body) (λ w. holds w c.args.here.now.pc.now)
    (λ w env. bound bs ids env)
    old new c.args.frame.now.env more c.bind_tuple.new.env c.execute_all.new.frame.env c.cut.new.self
    c.args.frame.now.out c.execute_all.new.frame.out (length c.as_slice-outer.result.now)
    c.in_ok-bind_tuple.ensures (λ w. sym (env_at-append w c.args.frame.now.env more) ∙ bound-shown w bs ids c.args.frame.now.env (c.args.frame.now.env ++ more) refl)
    (ap length c.as_slice-outer.ensures) c.cut.ensures ran

pub execute_if-returns-clause-left : goal.execute_if-returns-clause-left
execute_if-returns-clause-left g t c = λ told.
    let before = c.in_ok-execute_leaves.ensures.told.back told in
    let app = c.args.here.now.app.now in
    let ctx = c.args.here.now.ctx.now in
    let first = statements_of c.args.first.now in
    let second = statements_of c.args.second.now in
    branches app ctx (expression_of c.args.c.now) first second c.args.here.now.pc.now (state_of g.K.Keeper.seen c.args.work.now) (state_of g.K.Keeper.seen c.eval.new.work) (state_of g.K.Keeper.seen c.execute_leaves.new.work)
    c.args.frame.now.env c.execute_leaves.new.frame.env c.args.frame.now.out c.execute_leaves.new.frame.out c.in_ok-condition.condition c.as_slice-leaves.result.now
    c.requires.no_record (c.in_ok-condition.ensures.reads.same.same_state before) (c.in_ok-condition.ensures.value before)
    (λ w. ap (leaves_seen w) c.as_slice-leaves.ensures ∙ c.in_ok-leaves.ensures.seen w) (c.in_ok-execute_leaves.ensures.left told)

pub execute_for-returns-clause-left : goal.execute_for-returns-clause-left
execute_for-returns-clause-left g t c = λ told.
    let before = c.in_ok-execute_tuples.ensures.told.back told in
    let app = c.args.here.now.app.now in
    let ctx = c.args.here.now.ctx.now in
    let q = question_of c.args.query.now in
    let body = statements_of c.args.body.now in
    let ran : RunsEach (bound_at app ctx q.binders body) (MayBindAt app ctx q.binders body) (live_under c.args.here.now.pc.now c.in_ok-answers.answers)
    (faceted_run (state_of g.K.Keeper.seen c.tuples.new.work) c.args.frame.now.env c.args.frame.now.out) (faceted_run (state_of g.K.Keeper.seen c.execute_tuples.new.work) c.execute_tuples.new.frame.env c.execute_tuples.new.frame.out) =
    subst (λ (ts : List Tuple). RunsEach (bound_at app ctx q.binders body) (MayBindAt app ctx q.binders body) (live_under c.args.here.now.pc.now ts)
    (faceted_run (state_of g.K.Keeper.seen c.tuples.new.work) c.args.frame.now.env c.args.frame.now.out) (faceted_run (state_of g.K.Keeper.seen c.execute_tuples.new.work) c.execute_tuples.new.frame.env c.execute_tuples.new.frame.out))
    c.as_slice-answers.ensures (c.in_ok-execute_tuples.ensures.left told) in
    repeats app ctx q body c.args.here.now.pc.now (state_of g.K.Keeper.seen c.args.work.now) (state_of g.K.Keeper.seen c.tuples.new.work) (state_of g.K.Keeper.seen c.execute_tuples.new.work)
    c.args.frame.now.env c.execute_tuples.new.frame.env c.args.frame.now.out c.execute_tuples.new.frame.out c.in_ok-answers.answers c.requires.no_record (c.in_ok-answers.ensures.reads.same.same_state before)
    (c.in_ok-answers.ensures.answers before) ran

pub execute_made-returns-clause-left : goal.execute_made-returns-clause-left
execute_made-returns-clause-left g t c = λ told.
    let at_named = c.in_ok-execute_named.ensures.told.back told in
    let at_create = c.in_ok-create.ensures.told.back at_named in
    let app = c.args.here.now.app.now in
    let models = (application_of app).models in
    let id = id_here app c.args.here.now.ctx.now c.args.model c.args.creation.now.site in
    let old = state_of g.K.Keeper.seen c.new_cells.new.work in
    let mid = state_of g.K.Keeper.seen c.create.new.work in
    let made : Creates id (λ w. tables_created models w (model_of_id id) id (all_at w c.in_ok-cells.cells)) c.args.here.now.pc.now old mid =
    subst (λ (x : ℕ). Creates x (λ w. tables_created models w (model_of_id x) x (all_at w c.in_ok-cells.cells)) c.args.here.now.pc.now old mid) c.new_id-id.ensures.id (c.in_ok-create.ensures.left at_named) in
    makes app c.args.here.now.ctx.now c.args.creation.now.name.now c.args.model c.args.creation.now.site (assigned_of c.args.creation.now.cells.now) (statements_of c.args.creation.now.body.now) c.args.here.now.pc.now
    (state_of g.K.Keeper.seen c.args.work.now) old mid (state_of g.K.Keeper.seen c.execute_named.new.work)
    c.args.frame.now.env c.execute_named.new.frame.env c.args.frame.now.out c.execute_named.new.frame.out c.in_ok-cells.cells c.leaf-made.result
    c.pairs-pairs.ensures.can_be_met (made_here app c.args.here.now.ctx.now c.args.model c.args.creation.now.site c.requires.numbered c.requires.in_range c.requires.site c.requires.few)
    c.requires.no_record (c.in_ok-cells.ensures.reads.same.same_state at_create)
    (c.in_ok-cells.ensures.cells at_create) made (c.leaf-made.ensures ∙ ap (λ (x : ℕ). one (value.Ref (Some x))) c.new_id-id.ensures.id) (c.in_ok-execute_named.ensures.left told)
