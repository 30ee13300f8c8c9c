use Rattle.std.proofs.Common.{◌≡◌, take, drop}
use Rattle.std.specs.List.{list_any}
use Rattle.jac_http.specs.Heads.{is_written, head_from, head_in}
use Rattle.jac_http.proofs.blank.head_in.Given as goal

abbrev pub invariant-bytes : goal.invariant-bytes
invariant-bytes l =
    (l.written ≡ list_any is_written (take l.at l.bytes))
    × (head_from (take l.at l.bytes) (drop l.at l.bytes) ≡ head_in l.bytes)
