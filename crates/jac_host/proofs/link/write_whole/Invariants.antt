use Rattle.std.proofs.Common.{◌≡◌, ◌≤◌, ◌++◌, length, take}
use Rattle.jac_host.specs.Sinks.{took}
use Rattle.jac_host.specs.Wrote.{OnlyWrites}
use Rattle.jac_host.proofs.link.write_whole.Given as goal

abbrev pub invariant-writes : goal.invariant-writes
invariant-writes l =
    (l.done ≤ length l.bytes) ×
    (took l.journal.events ≡ took l.fn.journal.events ++ take l.done l.bytes) ×
    OnlyWrites l.fn.journal.events l.journal.events
