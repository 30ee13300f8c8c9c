-- What contracts see of a keeper that may open its store again.
use Rattle.std.specs.Prelude.{◌≡◌, ◌≤◌, ◌⊎◌, ⊤, ℕ, Bool, true, false, List, [], Option, Some, None}
use Rattle.jac_rows.specs.Good.{ModelShape}
use Rattle.jac_rows.specs.declared.state.State.{State}
use Rattle.jac_io.specs.Faults.{Rose}
use Rattle.jac_keep.specs.KeeperSeen.{KeeperSeen, Store}
use Rattle.jac_keep.specs.Schema.{IsSchema}

-- A store's name and the schema that it was attached with.
pub record KnownSeen : Type 0 where
  pub name : Option (List ℕ)
  pub schema : List ℕ

-- The attached store with this name and schema.
abbrev pub known_store : KnownSeen → Store
known_store k = record { called = true; attached = true; schema = Some k.schema; name = k.name }

-- Its schema is a schema of some models.
abbrev pub HasShapes : KnownSeen → Type 0
HasShapes k = (shapes : List ModelShape) × IsSchema k.schema shapes

-- A keeper that was attached and whose state isn't known: its store, and how often it failed.
pub record UntoldSeen : Type 0 where
  pub known : KnownSeen
  pub faults : ℕ

abbrev pub seen_untold : UntoldSeen → KeeperSeen
seen_untold u = record {
  tells = false;
  state = record { tables = []; number = 0 };
  faults = u.faults;
  store = known_store u.known;
}

-- What is supposed of a store before it is opened: whether anything is, the stored schema, if there
-- is one, and its state.
pub record Supposed : Type 0 where
  pub known : Bool
  pub schema : Option (List ℕ)
  pub state : State

abbrev pub nothing_supposed : Supposed
nothing_supposed = record {
  known = false;
  schema = None;
  state = record { tables = []; number = 0 };
}

-- A keeper that isn't attached, over a store of which this is supposed.
abbrev pub waiting_keeper : Supposed → KeeperSeen
waiting_keeper s = record {
  tells = s.known;
  state = s.state;
  faults = 0;
  store = record { called = false; attached = false; schema = s.schema; name = None };
}

-- A keeper that isn't attached, over a store of which nothing is supposed.
abbrev pub unopened_keeper : KeeperSeen
unopened_keeper = waiting_keeper nothing_supposed

-- The vault that was attached first, and the keeper over the store that was opened again. If it
-- wasn't opened again, how many vaults were opened.
pub record ReopenSeen (V : Type 0) : Type 0 where
  pub first : Option V
  pub again : Option UntoldSeen
  pub made : Option ℕ

-- As long as the store wasn't opened again, one vault was opened.
abbrev pub IsOnlyVault : {V : Type 0} → ReopenSeen V → Type 0
IsOnlyVault r = r.again ≡ None → r.made ≡ Some 1

abbrev pub seen_first : {V : Type 0} → (V → KeeperSeen) → Option V → KeeperSeen
seen_first seen None = unopened_keeper
seen_first seen (Some v) = seen v

abbrev pub seen_either : {V : Type 0} → (V → KeeperSeen) → Option V → Option UntoldSeen → KeeperSeen
seen_either seen first None = seen_first seen first
seen_either seen first (Some u) = seen_untold u

abbrev pub seen_reopening : {V : Type 0} → (V → KeeperSeen) → ReopenSeen V → KeeperSeen
seen_reopening seen r = seen_either seen r.first r.again

-- If the vault isn't attached, it was refused a store of some name, and `Leaves` is true of that
-- name and the vault.
abbrev pub IsLeftUnattached : {V : Type 0} → (V → KeeperSeen) → (Option (List ℕ) → V → Type 0) → V
    → Type 0
IsLeftUnattached seen Leaves v = (seen v).store.attached ≡ false
    → (name : Option (List ℕ)) × Leaves name v

-- Either there is one before and after, and `Goes` relates them, or there is none.
abbrev pub GoesAlong : {V : Type 0} → (V → V → Type 0) → Option V → Option V → Type 0
GoesAlong Goes None None = ⊤
GoesAlong Goes None (Some b) = ⊥
GoesAlong Goes (Some a) None = ⊥
GoesAlong Goes (Some a) (Some b) = Goes a b

-- From one call to a later one: the vault that was attached first is given up only if a fault was
-- counted, and for good. Until then it goes on as its own relation says.
pub record GivesUpAtFault {V : Type 0} (seen : V → KeeperSeen) (Goes : V → V → Type 0)
    (old new : ReopenSeen V) : Type 0 where
  pub later : (seen_reopening seen old).faults ≤ (seen_reopening seen new).faults
  pub fault : old.again ≡ None → (new.again ≡ None)
      ⊎ Rose (seen_reopening seen old).faults (seen_reopening seen new).faults
  pub once : new.again ≡ None → old.again ≡ None
  pub first : new.again ≡ None → GoesAlong Goes old.first new.first
