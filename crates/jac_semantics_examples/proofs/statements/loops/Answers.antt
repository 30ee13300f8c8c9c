use Rattle.std.proofs.Common.{refl}
use Rattle.std.specs.Fmt.{digits}
use Rattle.jac_semantics_examples.proofs.statements.loops.Goals as goal

pub returns-clause-by_pairs : goal.returns-clause-by_pairs
unfolding digits
returns-clause-by_pairs c = refl

pub returns-clause-adds_up : goal.returns-clause-adds_up
unfolding digits
returns-clause-adds_up c = refl
