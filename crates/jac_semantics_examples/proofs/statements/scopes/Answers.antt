use Rattle.std.proofs.Common.{refl}
use Rattle.std.specs.Fmt.{digits}
use Rattle.jac_semantics_examples.proofs.statements.scopes.Goals as goal

pub returns-clause-squared : goal.returns-clause-squared
unfolding digits
returns-clause-squared c = refl

pub returns-clause-inner : goal.returns-clause-inner
unfolding digits
returns-clause-inner c = refl
