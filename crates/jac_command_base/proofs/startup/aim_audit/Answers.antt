use Rattle.std.proofs.Common.{refl}
use Rattle.jac_command_base.proofs.startup.aim_audit.Goals as goal

pub returns-in-Replay : goal.returns-in-Replay
returns-in-Replay g c = rw c.in-Replay.is (rw c.named.ensures at c.aim_at.ensures)

pub returns-in-Serve : goal.returns-in-Serve
returns-in-Serve g c = rw c.in-Serve.is (rw c.named-in-Serve.ensures at c.aim_at-in-Serve.ensures)

pub returns-in-Dump : goal.returns-in-Dump
returns-in-Dump g c = rw c.in-Dump.is refl

pub returns-in-Why : goal.returns-in-Why
returns-in-Why g c = rw c.in-Why.is refl
