use Rattle.std.proofs.Common.{sym}
use Rattle.jac_keep.proofs.WorkLaws.{one_read}
use Rattle.jac_keep.proofs.laws.record_after_change.Goals as goal

pub returns : goal.returns
returns c = λ change s id apart placed. sym (one_read id change.changed s.tables placed apart)
