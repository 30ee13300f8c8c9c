use Rattle.std.proofs.Common.{rules, sym, ap, ◌∙◌}
use Rattle.jac_keep.specs.WorkState.{state_of}
use Rattle.jac_expr.specs.Seen.{env_at, world_here}
use Rattle.jac_lang.specs.Lookup.{fields_at}
use Rattle.jac_lang.specs.Mirror.{application_of, assigned_of, expression_of}
use Rattle.jac_plain.specs.Expressions.{mean}
use Rattle.jac_rows.specs.declared.state.State.{State}
use Rattle.jac_stmt.specs.Drafts.{placed_sets}
use Rattle.jac_stmt.proofs.WriteLaws.{updates_none, updates}
use Rattle.jac_stmt.proofs.execution.execute_update.Goals as goal

pub returns-in_default-clause-left : goal.returns-in_default-clause-left
returns-in_default-clause-left g c told out =
    updates_none c.args.here.now.app.now c.args.here.now.ctx.now c.args.model.now (expression_of c.args.e.now) (assigned_of c.args.cells.now) c.args.here.now.pc.now (state_of g.K.Keeper.seen c.args.work.now) c.args.env.now out (search rules)

pub returns-clause-left : goal.returns-clause-left
returns-clause-left g c told out =
    let before = c.in_ok-update.ensures.told.back told in
    let read = c.in_ok-sets.ensures.reads.same.told before in
    let models = (application_of c.args.here.now.app.now).models in
    let same = c.in_ok-target.ensures.reads.same.same_state read in
    updates c.args.here.now.app.now c.args.here.now.ctx.now c.args.model.now (expression_of c.args.e.now) (assigned_of c.args.cells.now) c.args.here.now.pc.now c.in-Some.model (state_of g.K.Keeper.seen c.args.work.now)
    (state_of g.K.Keeper.seen c.read_sets.new.work) (state_of g.K.Keeper.seen c.update.new.work) c.args.env.now out c.in_ok-target.target c.in_ok-sets.sets
    c.requires.no_record (sym c.model_number.ensures.place ∙ c.in-Some.is) (c.in_ok-sets.ensures.reads.same.same_state before ∙ same) (c.in_ok-target.ensures.value read)
    (λ w held.
    c.in_ok-sets.ensures.sets before w held
    ∙ ap (λ (s : State). placed_sets (fields_at models c.in-Some.model) (λ x. mean (world_here c.args.here.now s w) x (env_at w c.args.env.now)) (assigned_of c.args.cells.now)) same)
    (c.in_ok-update.ensures.left told)
