use Rattle.std.proofs.Common.{subst, sym}
use Rattle.jac_world.specs.World.{shown_by, IsRising}
use Rattle.jac_policy_cache.proofs.Recalling.{signed_rises}
use Rattle.jac_policy_cache.proofs.policy_memo.signs.Goals as goal

pub from_pairs-requires : goal.from_pairs-requires
from_pairs-requires c = subst IsRising (sym c.in_ok-pairs.ensures) (signed_rises (shown_by c.args.a.now) c.args.labels.now c.requires)
