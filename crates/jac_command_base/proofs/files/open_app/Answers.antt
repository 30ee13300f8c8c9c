use Rattle.jac_command_base.proofs.ExitReasonLemmas.{refused_ends}
use Rattle.jac_command_base.proofs.files.open_app.Goals as goal

pub returns-in-Err-clause-unopened : goal.returns-in-Err-clause-unopened
returns-in-Err-clause-unopened c =
    refused_ends c.args.bytes.now c.in-Err.refusal c.refused.result c.in-Err.ensures.refused c.in-Err.ensures.none c.refused.ensures
