use Rattle.std.proofs.Common.{refl}
use Rattle.percent_encoding.specs.Percent.{percent_encode_byte}
use Rattle.jac_semantics_examples.proofs.pages.writes_locations.Goals as goal

pub returns-clause-ends : goal.returns-clause-ends
unfolding percent_encode_byte
returns-clause-ends c = refl

pub returns-clause-others : goal.returns-clause-others
unfolding percent_encode_byte
returns-clause-others c = refl
