use Rattle.std.proofs.Common.{◌≡◌, ◌≤◌, ◌∷◌, ◌++◌, [], IsTrue, vec_len}
use Rattle.jac_host.specs.Gave.{agrees, asked_in, bytes_given, last_opened}
use Rattle.jac_host.proofs.files.read_file.Given as goal

abbrev pub invariant-chunks : goal.invariant-chunks
invariant-chunks g l =
    (vec_len l.bytes ≤ l.limit) ×
    (bytes_given l.journal.events ≡ l.bytes.items) ×
    (last_opened l.journal.events ≡ l.name) ×
    (asked_in l.journal.events ≡ asked_in l.fn.journal.events ++ l.name ∷ []) ×
    (IsTrue (agrees g.O.Outside.file l.journal.events) → IsTrue (agrees g.O.Outside.file l.fn.journal.events))
