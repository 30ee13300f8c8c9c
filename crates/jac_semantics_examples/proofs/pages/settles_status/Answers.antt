use Rattle.std.proofs.Common.{refl}
use Rattle.std.specs.Fmt.{digits}
use Rattle.percent_encoding.specs.Percent.{percent_encode_byte}
use Rattle.jac_semantics_examples.proofs.pages.settles_status.Goals as goal

pub returns-clause-plain : goal.returns-clause-plain
unfolding digits
returns-clause-plain c = refl

pub returns-clause-sent_on : goal.returns-clause-sent_on
unfolding percent_encode_byte
returns-clause-sent_on c = refl
