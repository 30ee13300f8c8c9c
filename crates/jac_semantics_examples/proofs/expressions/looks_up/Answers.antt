use Rattle.std.proofs.Common.{refl}
use Rattle.std.specs.Fmt.{digits}
use Rattle.jac_semantics_examples.proofs.expressions.looks_up.Goals as goal

pub returns-clause-in_texts : goal.returns-clause-in_texts
unfolding digits
returns-clause-in_texts c = refl
