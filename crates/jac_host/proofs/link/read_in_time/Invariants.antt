use Rattle.std.proofs.Common.{◌≡◌, length}
use Rattle.jac_host.proofs.link.read_in_time.Given as goal

abbrev pub invariant-reads : goal.invariant-reads
invariant-reads l = (l.journal.events ≡ l.fn.journal.events) × (length l.into ≡ length l.fn.into) × (l.input ≡ l.fn.input)
