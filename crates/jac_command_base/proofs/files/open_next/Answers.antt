use Rattle.jac_command_base.proofs.ExitReasonLemmas.{next_unopened}
use Rattle.jac_command_base.proofs.files.open_next.Goals as goal

pub returns-in-Err-clause-unopened : goal.returns-in-Err-clause-unopened
returns-in-Err-clause-unopened c = rw c.of_next.ensures (next_unopened c.args.bytes.now c.in-Err.exit_reason c.in-Err.ensures.unopened)
