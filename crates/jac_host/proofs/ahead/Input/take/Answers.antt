use Rattle.std.proofs.Common.{rules}
use Rattle.jac_host.proofs.HeldLaws.{front_taken}
use Rattle.jac_host.proofs.ahead.Input.take.Goals as goal

pub returns-clause-front : goal.returns-clause-front
returns-clause-front c = rw (← c.self.view_is) (front_taken c.self.inside.bytes.items _ c.copy_from_slice.new.self c.self.inside.taken c.min-count.result (search rules) (search rules))
