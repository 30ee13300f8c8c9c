use Rattle.std.proofs.Common.{refl}
use Rattle.std.specs.Fmt.{digits}
use Rattle.jac_semantics_examples.proofs.statements.assigns.Goals as goal

pub returns-clause-counted : goal.returns-clause-counted
unfolding digits
returns-clause-counted c = refl

pub returns-clause-innermost : goal.returns-clause-innermost
unfolding digits
returns-clause-innermost c = refl

pub returns-clause-around : goal.returns-clause-around
unfolding digits
returns-clause-around c = refl
