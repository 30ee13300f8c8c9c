-- What contracts see of a keeper and of its store, and what calls don't change of them.
use Rattle.std.specs.Prelude.{◌≡◌, ◌≤◌, ℕ, Bool, List, Option, IsTrue, Result, IsErrOf}
use Rattle.jac_io.specs.Faults.{Rose}
use Rattle.jac_rows.specs.declared.state.State.{State}
use Rattle.jac_keep.specs.Cause.{HasCause}
use Rattle.jac_rows.specs.Good.{IsSound}
use Rattle.jac_keep.specs.declared.stop.Stop.{Stop}
use Rattle.jac_keep.specs.declared.stop.Stop.TheVariants.{Keeper}

-- What a keeper knows of its store: whether `attach` was called; whether the store is attached, so
-- that other calls are allowed; the schema of what is stored, if there is one; and the name that
-- the store was attached with.
pub record Store : Type 0 where
  pub called : Bool
  pub attached : Bool
  pub schema : Option (List ℕ)
  pub name : Option (List ℕ)

-- Whether its state is known, the state, the count of faults, and the store.
pub record KeeperSeen : Type 0 where
  pub tells : Bool
  pub state : State
  pub faults : ℕ
  pub store : Store

-- What each call keeps: if the state is known afterwards, it was known before, and is sound.
pub record Keeps {T : Type 0} (old new : KeeperSeen) (result : Result T Stop) : Type 0 where
  pub cause : HasCause old.faults new.faults result
  pub told : IsTrue new.tells → IsTrue old.tells
  pub good : IsTrue new.tells → IsSound new.state
  pub same_store : new.store ≡ old.store

-- The keeper before and after reads: if the state is known afterwards, it was known before, and is
-- the same.
pub record IsLeft (old new : KeeperSeen) : Type 0 where
  pub later : old.faults ≤ new.faults
  pub told : IsTrue new.tells → IsTrue old.tells
  pub same_state : IsTrue new.tells → new.state ≡ old.state
  pub same_store : new.store ≡ old.store

-- What a call that reads rows keeps.
pub record Reads {T : Type 0} (old new : KeeperSeen) (result : Result T Stop) : Type 0 where
  pub left : IsLeft old new
  pub good : IsTrue new.tells → IsSound new.state
  pub rose : IsErrOf result Keeper → Rose old.faults new.faults

-- What a call keeps that only finds out whether rows are in memory, and where.
pub record Looks {T : Type 0} (old new : KeeperSeen) (result : Result T Stop) : Type 0 where
  pub left : IsLeft old new
  pub rose : IsErrOf result Keeper → Rose old.faults new.faults
