use Rattle.std.proofs.Common.{rules, sym, ◌∙◌}
use Rattle.jac_keep.specs.WorkState.{state_of}
use Rattle.jac_lang.specs.Mirror.{expression_of}
use Rattle.jac_stmt.proofs.WriteLaws.{deletes_none, deletes}
use Rattle.jac_stmt.proofs.execution.execute_delete.Goals as goal

pub returns-in_default-clause-left : goal.returns-in_default-clause-left
returns-in_default-clause-left g c told out =
    deletes_none c.args.here.now.app.now c.args.here.now.ctx.now c.args.model.now (expression_of c.args.e.now) c.args.here.now.pc.now (state_of g.K.Keeper.seen c.args.work.now) c.args.env.now out (search rules)

pub returns-clause-left : goal.returns-clause-left
returns-clause-left g c told out =
    let before = c.in_ok-delete.ensures.told.back told in
    deletes c.args.here.now.app.now c.args.here.now.ctx.now c.args.model.now (expression_of c.args.e.now) c.args.here.now.pc.now c.in-Some.model (state_of g.K.Keeper.seen c.args.work.now) (state_of g.K.Keeper.seen c.eval.new.work)
    (state_of g.K.Keeper.seen c.delete.new.work) c.args.env.now out c.in_ok-target.target c.requires.no_record (sym c.model_number.ensures.place ∙ c.in-Some.is)
    (c.in_ok-target.ensures.reads.same.same_state before) (c.in_ok-target.ensures.value before) (c.in_ok-delete.ensures.left told)
