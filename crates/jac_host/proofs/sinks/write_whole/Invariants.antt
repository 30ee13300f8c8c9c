use Rattle.std.proofs.Common.{◌≡◌, ◌≤◌, ◌++◌, length, take}
use Rattle.jac_host.specs.Sinks.{took, aims}
use Rattle.jac_host.proofs.sinks.write_whole.Given as goal

abbrev pub invariant-writes : goal.invariant-writes
invariant-writes g l =
    (l.done ≤ length l.bytes) ×
    (took l.journal.events ≡ took l.fn.journal.events ++ take l.done l.bytes) ×
    (aims l.journal.events ≡ aims l.fn.journal.events)
