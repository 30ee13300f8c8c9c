use Rattle.std.proofs.Common.{refl}
use Rattle.std.specs.Fmt.{digits}
use Rattle.jac_semantics_examples.proofs.writes.guards_fields.Goals as goal

pub returns-clause-hidden : goal.returns-clause-hidden
unfolding digits
returns-clause-hidden c = refl

pub returns-clause-title : goal.returns-clause-title
unfolding digits
returns-clause-title c = refl

pub returns-clause-others : goal.returns-clause-others
unfolding digits
returns-clause-others c = refl

pub returns-clause-number : goal.returns-clause-number
unfolding digits
returns-clause-number c = refl

pub returns-clause-number_stored : goal.returns-clause-number_stored
unfolding digits
returns-clause-number_stored c = refl
