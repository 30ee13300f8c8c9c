use Rattle.jac_resolve.proofs.Moving.{valid_empty}
use Rattle.jac_resolve.proofs.laws.empty_cache_is_valid.Goals as goal

pub returns : goal.returns
returns c app worlds viewer cache empty = valid_empty app worlds viewer cache empty
