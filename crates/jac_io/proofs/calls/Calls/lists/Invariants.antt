use Rattle.std.proofs.Common.{◌≡◌, drop}
use Rattle.jac_io.specs.Calls.{is_listed}
use Rattle.jac_io.proofs.calls.Calls.lists.Given as goal

abbrev pub invariant-calls : goal.invariant-calls
invariant-calls l = is_listed l.number (drop l.call-index l.numbers) ≡ is_listed l.number l.numbers
