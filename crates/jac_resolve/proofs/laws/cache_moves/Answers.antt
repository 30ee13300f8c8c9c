use Rattle.jac_resolve.proofs.Moving.{valid_later}
use Rattle.jac_resolve.proofs.laws.cache_moves.Goals as goal

pub returns : goal.returns
returns c app worlds later viewer invalidation old new valid invalidates covered = valid_later app worlds later viewer invalidation old new valid invalidates covered
