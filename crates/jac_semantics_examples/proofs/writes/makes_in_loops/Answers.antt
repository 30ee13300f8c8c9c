use Rattle.std.proofs.Common.{refl}
use Rattle.std.specs.Fmt.{digits}
use Rattle.jac_semantics_examples.proofs.writes.makes_in_loops.Goals as goal

pub returns-clause-around : goal.returns-clause-around
unfolding digits
returns-clause-around c = refl

pub returns-clause-outside : goal.returns-clause-outside
unfolding digits
returns-clause-outside c = refl

pub returns-clause-pairs : goal.returns-clause-pairs
unfolding digits
returns-clause-pairs c = refl

pub returns-clause-not_nested : goal.returns-clause-not_nested
unfolding digits
returns-clause-not_nested c = refl

pub returns-clause-around_one_made_so : goal.returns-clause-around_one_made_so
unfolding digits
returns-clause-around_one_made_so c = refl
