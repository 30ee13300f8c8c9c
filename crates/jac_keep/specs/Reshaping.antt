-- A store after a call that changes its schema.
use Rattle.std.specs.Prelude.{◌≡◌, ℕ, ◌-◌, List, ◌++◌, Some, Result, OnOk, OnErr, IsTrue, length}
use Rattle.jac_keep.specs.Cause.{HasCause}
use Rattle.jac_rows.specs.Good.{ModelShape}
use Rattle.jac_rows.specs.declared.state.State.{State}
use Rattle.jac_keep.specs.declared.alteration.Change.{Change}
use Rattle.jac_keep.specs.declared.stop.Stop.{Stop}
use Rattle.jac_keep.specs.KeeperSeen.{KeeperSeen}
use Rattle.jac_keep.specs.ChangedState.{changed_state}
use Rattle.jac_keep.specs.Schema.{IsSchema, empties}

-- The state. If it has fewer tables than this, empty ones are added.
abbrev pub widened_state : ℕ → State → State
widened_state models s = record s { tables = s.tables ++ empties (models - length s.tables) }

-- The change is applied, and the schema is stored. Each model that the schema adds has an empty
-- table.
pub record IsReshaped (old new : KeeperSeen) (change : Change) (schema : List ℕ) : Type 0 where
  pub store : new.store ≡ record old.store { schema = Some schema }
  pub state : IsTrue new.tells → (shapes : List ModelShape) → IsSchema schema shapes
      → new.state ≡ widened_state (length shapes) (changed_state change old.state)

-- The state and the store are the same.
pub record IsUnshaped (old new : KeeperSeen) : Type 0 where
  pub same_store : new.store ≡ old.store
  pub same_state : IsTrue new.tells → new.state ≡ old.state

-- A call of `reshape` is all or nothing. It gives `Keeper` only if the count of faults rose.
pub record Reshapes (old new : KeeperSeen) (change : Change) (schema : List ℕ)
    (result : Result (Unit {0}) Stop) : Type 0 where
  pub cause : HasCause old.faults new.faults result
  pub told : IsTrue new.tells → IsTrue old.tells
  pub ok : OnOk result (IsReshaped old new change schema)
  pub err : OnErr result (IsUnshaped old new)
