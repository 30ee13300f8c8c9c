use Rattle.jac_replies.proofs.FailedLemmas.{keeper_text, memory_text}
use Rattle.jac_app.proofs.summary.failed_body.Goals as goal

pub returns-in-Keeper : goal.returns-in-Keeper
returns-in-Keeper c = rw c.in-Keeper.is keeper_text

pub returns-in-Memory : goal.returns-in-Memory
returns-in-Memory c = rw c.in-Memory.is memory_text
