use Rattle.std.proofs.Common.{refl}
use Rattle.jac_keep.specs.WorkState.{state_of}
use Rattle.jac_lang.specs.Mirror.{expression_of}
use Rattle.jac_lang.specs.Syntax.{Statement}
use Rattle.jac_plain.specs.declared.pieces.Form.TheVariants as form
use Rattle.jac_stmt.proofs.RunLaws.{adds_value}
use Rattle.jac_stmt.proofs.execution.execute_redirect.Goals as goal

pub returns-clause-left : goal.returns-clause-left
returns-clause-left g c told =
    let e = expression_of c.args.e.now in
    adds_value c.args.here.now.app.now c.args.here.now.ctx.now form.Location (Statement.redirect e) e c.args.here.now.pc.now (state_of g.K.Keeper.seen c.args.work.now) (state_of g.K.Keeper.seen c.eval.new.work)
    c.args.frame.now.env c.args.frame.now.out c.add_value.new.out c.in_ok-value.value c.requires.no_record (λ w r. refl) (c.in_ok-value.ensures.reads.same.same_state told)
    (c.in_ok-value.ensures.value told) c.in_ok-add_value.ensures
