use Rattle.jac_keep.specs.WorkState.{state_of}
use Rattle.jac_lang.specs.Mirror.{expression_of}
use Rattle.jac_stmt.proofs.RunLaws.{assigns}
use Rattle.jac_stmt.proofs.execution.execute_assign.Goals as goal

pub returns-clause-left : goal.returns-clause-left
returns-clause-left g c told =
    assigns c.args.here.now.app.now c.args.here.now.ctx.now c.args.name.now (expression_of c.args.e.now) c.args.here.now.pc.now (state_of g.K.Keeper.seen c.args.work.now) (state_of g.K.Keeper.seen c.eval.new.work)
    c.args.frame.now.env c.assign.new.env c.args.frame.now.out c.in_ok-value.value c.requires.no_record (c.in_ok-value.ensures.reads.same.same_state told) (c.in_ok-value.ensures.value told) c.in_ok-assign.ensures
