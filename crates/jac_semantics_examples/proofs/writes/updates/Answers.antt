use Rattle.std.proofs.Common.{refl}
use Rattle.std.specs.Fmt.{digits}
use Rattle.jac_semantics_examples.proofs.writes.updates.Goals as goal

pub returns-clause-shown : goal.returns-clause-shown
unfolding digits
returns-clause-shown c = refl
