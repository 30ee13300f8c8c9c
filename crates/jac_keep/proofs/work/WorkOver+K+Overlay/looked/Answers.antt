use Rattle.std.proofs.Common.{◌∙◌}
use Rattle.std.proofs.lemmas.Option.{IfSome_then}
use Rattle.jac_keep.proofs.WorkLaws.{named_read, other_read}
use Rattle.jac_keep.proofs.work.WorkOver+K+Overlay.looked.Goals as goal

pub returns-in-Some : goal.returns-in-Some
returns-in-Some g c = λ told. c.as_slice.ensures ∙ named_read _ _ _ _ told.placed c.in-Some.ensures.apart c.in-Some.ensures.found

pub returns-in-None : goal.returns-in-None
returns-in-None g c = IfSome_then c.held.result c.held.ensures (λ rows exact told. other_read _ _ _ _ told.placed c.in-None.ensures.apart c.in-None.ensures.found (exact told.told))
