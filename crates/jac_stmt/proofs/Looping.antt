-- A loop that runs statements on a work.
use Rattle.std.proofs.Common.{◌≡◌, ◌≤◌, ℕ, length, IsTrue}
use Rattle.jac_keep.specs.KeeperSeen.{KeeperSeen, IsLeft}
use Rattle.jac_keep.specs.WorkState.{IsTold}
use Rattle.jac_keep.specs.declared.alteration.Alterations.{Alterations}
use Rattle.jac_keep.specs.declared.work.WorkOver.{WorkOver}
use Rattle.jac_write.specs.Writes.{StaysTold}

-- The invariant between two rounds, and what is left to run if the contents of the work are known.
pub record LoopRuns {K : Type 0} (sight : K → KeeperSeen) (old now : WorkOver K Alterations) (models : ℕ) (running : Type 0) : Type 0 where
  pub attached : IsTrue (sight now.keeper.now).store.attached
  pub tables : IsTrue (sight now.keeper.now).tells → models ≤ length (sight now.keeper.now).state.tables
  pub told : StaysTold sight old now
  pub keeper : IsLeft (sight old.keeper.now) (sight now.keeper.now)
  pub same_reference : now.keeper.ghost_name ≡ old.keeper.ghost_name
  pub step : IsTold sight now → running
