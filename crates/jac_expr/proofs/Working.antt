-- A loop that reads through a work.
use Rattle.jac_keep.specs.declared.alteration.Alterations.{Alterations}
use Rattle.jac_keep.specs.declared.work.WorkOver.{WorkOver}
use Rattle.jac_keep.specs.KeeperSeen.{KeeperSeen}
use Rattle.jac_keep.specs.WorkState.{IsTold, IsUntouched}

-- What a loop keeps of the work, and what it has computed so far, if the state is known.
pub record LoopOver {K : Type 0} (seen : K → KeeperSeen) (old new : WorkOver K Alterations) (computed : Type 0) : Type 0 where
  pub told : IsTold seen new → computed
  pub same : IsUntouched seen old new
