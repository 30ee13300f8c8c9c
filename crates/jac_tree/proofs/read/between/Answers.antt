use Rattle.std.proofs.Common.{sym}
use Rattle.std.proofs.lemmas.Result.{err_from_is_err_and}
use Rattle.jac_tree.proofs.States.{white_step, quote_step}
use Rattle.jac_tree.proofs.read.between.Goals as goal

pub returns-then-is_white-clause-steps : goal.returns-then-is_white-clause-steps
returns-then-is_white-clause-steps c = white_step _ c.args.c (sym c.if-is_white.ensures)

pub returns-in_err-next-in_default-clause-steps : goal.returns-in_err-next-in_default-clause-steps
returns-in_err-next-in_default-clause-steps c =
    let p = err_from_is_err_and c.from_residual-in_err-next-in_default.result c.from_residual-in_err-next-in_default.ensures.1 in
    rw (p.1, p.2) (c.in_err-next-in_default.ensures.steps _)

pub returns-in-34-clause-steps : goal.returns-in-34-clause-steps
returns-in-34-clause-steps c = quote_step _ c.args.c _ c.in-34.is c.new.ensures.bytes
