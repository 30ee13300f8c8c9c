use Rattle.std.proofs.Common.{refl, sym}
use Rattle.jac_tree.proofs.States.{escape_step, escape_stuck}
use Rattle.jac_tree.proofs.read.in_escape.Goals as goal

pub returns-in_ok-text-in-Some-clause-steps : goal.returns-in_ok-text-in-Some-clause-steps
returns-in_ok-text-in-Some-clause-steps c gs = escape_step gs c.args.c _ _ _ (sym c.in-Some.ensures) c.in_ok-text-in-Some.ensures

pub returns-in-None-clause-steps : goal.returns-in-None-clause-steps
returns-in-None-clause-steps c gs = (refl, escape_stuck gs c.args.c _ (sym c.in-None.ensures))
