-- A store after a call that attaches it.
use Rattle.std.specs.Prelude.{◌≡◌, ◌≤◌, ◌⊎◌, ℕ, List, Option, Some, None, Result, Err, OnOk, OnErr, IsTrue, length}
use Rattle.jac_io.specs.Faults.{Rose}
use Rattle.jac_rows.specs.Good.{ModelShape}
use Rattle.jac_rows.specs.declared.state.State.{State}
use Rattle.jac_keep.specs.KeeperSeen.{KeeperSeen}
use Rattle.jac_keep.specs.Schema.{IsSchema, IsFit, empties}
use Rattle.jac_keep.specs.declared.vault.AttachFault.{AttachFault}
use Rattle.jac_keep.specs.declared.vault.AttachFault.TheVariants.{Failed, Other}

-- A new store has an empty table for each model. Its number stays the same.
pub record IsNewStore (before : State) (shapes : List ModelShape) (state : State) : Type 0 where
  pub tables : state.tables ≡ empties (length shapes)
  pub number : state.number ≡ before.number

-- The store is attached with this name and this schema. If something was stored with the schema, it
-- is kept. Otherwise the store is new.
pub record OpensStore (old new : KeeperSeen) (name : Option (List ℕ))
    (schema : List ℕ) : Type 0 where
  pub attached : IsTrue new.store.attached
  pub named : new.store.name ≡ name
  pub stored : new.store.schema ≡ Some schema
  pub fit : IsTrue new.tells → (shapes : List ModelShape) → IsSchema schema shapes
      → IsFit shapes new.state
  pub known : IsTrue new.tells → IsTrue old.tells → (old.store.schema ≡ None)
      ⊎ (old.store.schema ≡ Some schema)
  pub kept : IsTrue new.tells → IsTrue old.tells → old.store.schema ≡ Some schema
      → new.state ≡ old.state
  pub made : IsTrue new.tells → IsTrue old.tells → old.store.schema ≡ None
      → (shapes : List ModelShape) → IsSchema schema shapes → IsNewStore old.state shapes new.state

-- The state was known before. It and the schema are the same.
pub record IsRefused (old new : KeeperSeen) : Type 0 where
  pub told : IsTrue old.tells
  pub same_state : new.state ≡ old.state
  pub same_schema : new.store.schema ≡ old.store.schema

-- A call of `attach`. It gives `Failed` only if the count of faults rose, and `Other` only if that
-- schema is stored and differs. After an error the store isn't attached by this call.
pub record Attaches (old new : KeeperSeen) (name : Option (List ℕ)) (schema : List ℕ)
    (result : Result (Unit {0}) AttachFault) : Type 0 where
  pub later : old.faults ≤ new.faults
  pub called : IsTrue new.store.called
  pub ok : OnOk result (OpensStore old new name schema)
  pub err : IsTrue new.tells → OnErr result (IsRefused old new)
  pub unattached : OnErr result (new.store.attached ≡ old.store.attached)
  pub rose : result ≡ Err Failed → Rose old.faults new.faults
  pub other : (stored : List ℕ) → result ≡ Err (Other stored) → ¬ (stored ≡ schema)
  pub known_other : (stored : List ℕ) → result ≡ Err (Other stored) → new.store.schema ≡ Some stored
