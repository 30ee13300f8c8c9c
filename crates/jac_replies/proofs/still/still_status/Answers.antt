use Rattle.jac_replies.proofs.FailedLemmas.{keeper_status, memory_status}
use Rattle.jac_replies.proofs.still.still_status.Goals as goal

pub returns-in-Keeper503 : goal.returns-in-Keeper503
returns-in-Keeper503 c = rw c.in-Keeper503.is keeper_status

pub returns-in-Memory500 : goal.returns-in-Memory500
returns-in-Memory500 c = rw c.in-Memory500.is memory_status
