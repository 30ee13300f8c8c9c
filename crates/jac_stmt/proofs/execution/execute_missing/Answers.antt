use Rattle.std.proofs.Common.{refl}
use Rattle.jac_keep.specs.WorkState.{state_of}
use Rattle.jac_lang.specs.Syntax.{Statement}
use Rattle.jac_plain.specs.declared.page.Piece.TheVariants as piece
use Rattle.jac_stmt.proofs.RunLaws.{adds_piece}
use Rattle.jac_stmt.proofs.execution.execute_missing.Goals as goal

pub returns-clause-left : goal.returns-clause-left
returns-clause-left g c told =
    let s = state_of g.K.Keeper.seen c.args.work.now in
    adds_piece c.args.here.now.app.now c.args.here.now.ctx.now Statement.missing c.args.here.now.pc.now s s c.args.frame.now.env c.args.frame.now.out c.add_missing.new.out (λ w. piece.Missing) refl (λ w held. refl) c.in_ok-add_missing.ensures
