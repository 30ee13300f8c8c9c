use Rattle.std.proofs.Common.{◌≡◌, drop, ◌==◌}
use Rattle.std.specs.Cmp.Lexicographic.{pointwise}
use Rattle.jac_value.proofs.text.same_few.Given as goal

-- The bytes that are left are the same exactly if all bytes are.
abbrev pub invariant-bytes : goal.invariant-bytes
invariant-bytes l = pointwise ◌==◌ (drop l.byte-index l.one) l.left ≡ pointwise ◌==◌ l.one l.other
