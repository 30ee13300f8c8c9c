use Rattle.std.proofs.Common.{◌≡◌, ◌++◌, codes, drop}
use Rattle.std.specs.String.{string_bytes}
use Rattle.jac_value.specs.Quoted.{all_escaped}
use Rattle.jac_value.proofs.escape.escape_line.Given as goal

abbrev pub invariant-bytes : goal.invariant-bytes
invariant-bytes l = string_bytes l.text ++ all_escaped (drop l.byte-index l.bytes) ≡ codes "\"" ++ all_escaped l.bytes
