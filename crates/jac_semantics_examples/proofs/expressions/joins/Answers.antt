use Rattle.std.proofs.Common.{refl}
use Rattle.std.specs.Fmt.{digits}
use Rattle.jac_semantics_examples.proofs.expressions.joins.Goals as goal

pub returns-clause-number : goal.returns-clause-number
unfolding digits
returns-clause-number c = refl

pub returns-clause-negative : goal.returns-clause-negative
unfolding digits
returns-clause-negative c = refl

pub returns-clause-reference : goal.returns-clause-reference
unfolding digits
returns-clause-reference c = refl
