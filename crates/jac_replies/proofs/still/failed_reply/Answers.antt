use Rattle.std.proofs.Common.{◌∙◌, sym}
use Rattle.jac_replies.proofs.FailedLemmas.{keeper_head, keeper_body, memory_head, memory_body}
use Rattle.jac_replies.proofs.still.failed_reply.Goals as goal

pub returns-then-is_head : goal.returns-then-is_head
returns-then-is_head c = rw c.in-Keeper.is (keeper_head c.args.method.now (sym c.is_head.ensures ∙ c.if-is_head.true))

pub returns-else-is_head : goal.returns-else-is_head
returns-else-is_head c = rw c.in-Keeper.is (keeper_body c.args.method.now (sym c.is_head.ensures ∙ c.if-is_head.false))

pub returns-then-is_head-2 : goal.returns-then-is_head-2
returns-then-is_head-2 c = rw c.in-Memory.is (memory_head c.args.method.now (sym c.is_head-in-Memory.ensures ∙ c.if-is_head-2.true))

pub returns-else-is_head-2 : goal.returns-else-is_head-2
returns-else-is_head-2 c = rw c.in-Memory.is (memory_body c.args.method.now (sym c.is_head-in-Memory.ensures ∙ c.if-is_head-2.false))
