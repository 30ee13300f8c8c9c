use Rattle.std.proofs.Common.{refl}
use Rattle.std.specs.Fmt.{digits}
use Rattle.jac_semantics_examples.proofs.writes.hides_records.Goals as goal

pub returns-clause-hidden : goal.returns-clause-hidden
unfolding digits
returns-clause-hidden c = refl

pub returns-clause-shown : goal.returns-clause-shown
unfolding digits
returns-clause-shown c = refl

pub returns-clause-named : goal.returns-clause-named
unfolding digits
returns-clause-named c = refl
