-- The state of a request's work over a keeper, and what the calls of the work preserve.
use Rattle.std.specs.Prelude.{◌≡◌, IsTrue, length, Result, IsErrOf}
use Rattle.jac_io.specs.Faults.{Rose}
use Rattle.jac_rows.specs.declared.state.State.{State}
use Rattle.jac_keep.specs.declared.alteration.Alterations.{Alterations}
use Rattle.jac_keep.specs.declared.stop.Stop.{Stop}
use Rattle.jac_keep.specs.declared.stop.Stop.TheVariants.{Keeper}
use Rattle.jac_keep.specs.declared.work.WorkOver.{WorkOver}
use Rattle.jac_keep.specs.Alterations.{overlaid, ArePlaced}
use Rattle.jac_keep.specs.KeeperSeen.{KeeperSeen, IsLeft}

-- The state of a work: the keeper's, after the replaced records.
abbrev pub state_of : {K : Type 0} → (K → KeeperSeen) → WorkOver K Alterations → State
state_of seen w = record (seen w.keeper.now).state {
  tables = overlaid w.over
      (seen w.keeper.now).state.tables;
}

-- The keeper's state is known, and the model of each replaced record has a table there.
pub record IsTold {K : Type 0} (seen : K → KeeperSeen) (w : WorkOver K Alterations) : Type 0 where
  pub told : IsTrue (seen w.keeper.now).tells
  pub placed : ArePlaced w.over (length (seen w.keeper.now).state.tables)

-- A call that only writes doesn't change what contracts see of the keeper.
pub record LeavesKeeper {K : Type 0} (seen : K → KeeperSeen) (old new : WorkOver K Alterations) :
    Type 0 where
  pub same_reference : new.keeper.ghost_name ≡ old.keeper.ghost_name
  pub same_seen : seen new.keeper.now ≡ seen old.keeper.now

-- A call that reads keeps the replaced records. If the state is known afterwards, it was known
-- before, and is the same.
pub record IsUntouched {K : Type 0} (seen : K → KeeperSeen) (old new : WorkOver K Alterations) :
    Type 0 where
  pub same_reference : new.keeper.ghost_name ≡ old.keeper.ghost_name
  pub same_over : new.over ≡ old.over
  pub keeper : IsLeft (seen old.keeper.now) (seen new.keeper.now)
  pub told : IsTold seen new → IsTold seen old
  pub same_state : IsTold seen new → state_of seen new ≡ state_of seen old

-- The same, and the count of faults rose if the call gives `Keeper`.
pub record ReadsWork {T K : Type 0} (seen : K → KeeperSeen) (old new : WorkOver K Alterations)
    (result : Result T Stop) : Type 0 where
  pub same : IsUntouched seen old new
  pub rose : IsErrOf result Keeper → Rose (seen old.keeper.now).faults (seen new.keeper.now).faults

-- What a call keeps that also writes: it leaves the keeper as a call that reads does.
pub record WritesWork {T K : Type 0} (seen : K → KeeperSeen) (old new : WorkOver K Alterations)
    (result : Result T Stop) : Type 0 where
  pub same_reference : new.keeper.ghost_name ≡ old.keeper.ghost_name
  pub keeper : IsLeft (seen old.keeper.now) (seen new.keeper.now)
  pub rose : IsErrOf result Keeper → Rose (seen old.keeper.now).faults (seen new.keeper.now).faults
