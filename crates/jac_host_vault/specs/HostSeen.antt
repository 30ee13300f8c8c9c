-- What contracts see of the program's store, in memory or in a file.
use Rattle.std.specs.Prelude.{◌≡◌, ◌⊎◌, ℕ, Bool, true, false, List, Option, Some, None, IfSome, IsSomeAnd, IsTrue}
use Rattle.jac_io.specs.Faults.{one_more_fault}
use Rattle.jac_keep.specs.KeeperSeen.{KeeperSeen, Store}
use Rattle.jac_keep.specs.KeeperState.{KeeperState}
use Rattle.jac_reopen.specs.Reopened.{ReopenSeen, Supposed, waiting_keeper, seen_reopening, IsLeftUnattached, IsOnlyVault, GoesAlong, GivesUpAtFault}

-- The keeper in memory. The keeper in a file, if a file was requested. Whether what opens the file
-- is still there. Whether there is memory alone, or a file alone. Whether the other of the two was
-- requested in vain.
pub record HostSeen (V : Type 0) : Type 0 where
  pub memory : KeeperState
  pub file : Option (ReopenSeen V)
  pub waits : Bool
  pub alone : Bool
  pub misnamed : Bool

-- If the other kind of store was requested in vain, there is one more fault, and a call to attach.
abbrev pub faults_with : Bool → ℕ → ℕ
faults_with true count = one_more_fault count
faults_with false count = count

abbrev pub store_with : Bool → Store → Store
store_with true store = record store { called = true }
store_with false store = store

-- The keeper in memory, whose state is known.
abbrev pub seen_memory : Bool → KeeperState → KeeperSeen
seen_memory misnamed memory = record {
  tells = true;
  state = memory.state;
  faults = faults_with misnamed memory.faults;
  store = store_with misnamed memory.store;
}

-- A file that isn't attached yet and of which this is supposed.
abbrev pub seen_waiting : Supposed → Bool → KeeperSeen
seen_waiting s misnamed = record {
  tells = s.known;
  state = s.state;
  faults = faults_with misnamed 0;
  store = store_with misnamed (waiting_keeper s).store;
}

-- If no file is attached: memory, if there is memory alone, and otherwise the file that may be
-- attached.
abbrev pub seen_unfiled : Supposed → Bool → Bool → KeeperState → KeeperSeen
seen_unfiled s true misnamed memory = seen_memory misnamed memory
seen_unfiled s false misnamed memory = seen_waiting s misnamed

abbrev pub seen_one : {V : Type 0} → Supposed → (V → KeeperSeen) → Bool → Bool → KeeperState
    → Option (ReopenSeen V) → KeeperSeen
seen_one s seen alone misnamed memory None = seen_unfiled s alone misnamed memory
seen_one s seen alone misnamed memory (Some file) = seen_reopening seen file

abbrev pub seen_host : {V : Type 0} → Supposed → (V → KeeperSeen) → HostSeen V → KeeperSeen
seen_host s seen h = seen_one s seen h.alone h.misnamed h.memory h.file

-- If there is a file, it was called to attach, and there isn't memory alone. If there is neither a
-- file nor memory alone, what opens the file is there. Before memory was called, it isn't attached,
-- and it didn't fail.
pub record IsHost {V : Type 0} (seen : V → KeeperSeen) (h : HostSeen V) : Type 0 where
  pub called : IfSome h.file (λ (f : ReopenSeen V). IsTrue (seen_reopening seen f).store.called)
  pub detached : h.memory.store.called ≡ false → h.memory.store.attached ≡ false
  pub unused : h.memory.store.called ≡ false → h.memory.faults ≡ 0
  pub unfiled : IsTrue h.alone → h.file ≡ None
  pub waiting : h.alone ≡ false → h.file ≡ None → IsTrue h.waits

-- What is attached. Without a name it is memory, and the state is known. With a name it is a file
-- for which `Begins` is true.
abbrev pub IsStorePlaced : {V : Type 0} → Supposed → (V → KeeperSeen) → (List ℕ → V → Type 0)
    → Option (List ℕ) → List ℕ → HostSeen V → Type 0
IsStorePlaced s seen Begins None schema h = (h.file ≡ None) × IsTrue (seen_host s seen h).tells
IsStorePlaced {V} s seen Begins (Some name) schema h = IsSomeAnd h.file (λ (f : ReopenSeen V).
    (f.again ≡ None) × IsSomeAnd f.first (Begins schema))

-- It has no file. Either it has memory alone, or what opens the file is still there.
abbrev pub HasNoFile : {V : Type 0} → HostSeen V → Type 0
HasNoFile h = (h.file ≡ None) × (h.alone ≡ false → IsTrue h.waits)

-- What is left if nothing is attached. Without a name no file was requested. With a name, either a
-- file was requested and is left as `Leaves` says, or the vault has memory alone.
abbrev pub IsStoreLeft : {V : Type 0} → (Option (List ℕ) → V → Type 0) → Option (List ℕ)
    → HostSeen V → Type 0
IsStoreLeft Leaves None h = HasNoFile h
IsStoreLeft {V} Leaves (Some name) h = (IsTrue h.alone × IsTrue h.misnamed × (h.file ≡ None))
    ⊎ IsSomeAnd h.file (λ (f : ReopenSeen V). (f.again ≡ None)
    × IsSomeAnd f.first (Leaves (Some name)))

-- If the file isn't attached, it is left as `Leaves` says.
abbrev pub LeavesUnattached : {V : Type 0} → (V → KeeperSeen) → (Option (List ℕ) → V → Type 0)
    → ReopenSeen V → Type 0
LeavesUnattached seen Leaves f = IfSome f.first (IsLeftUnattached seen Leaves)

-- If there is a file that isn't attached, it is left as `Leaves` says. If there is no file, none
-- was requested.
abbrev pub LeavesFile : {V : Type 0} → (V → KeeperSeen) → (Option (List ℕ) → V → Type 0)
    → HostSeen V → Type 0
LeavesFile seen Leaves h = IfSome h.file (LeavesUnattached seen Leaves)
    × (h.file ≡ None → HasNoFile h)

-- As long as its file wasn't opened again, one vault was opened.
abbrev pub HasOneVault : {V : Type 0} → HostSeen V → Type 0
HasOneVault h = IfSome h.file IsOnlyVault

-- The file that was attached is as `Stands` says.
abbrev pub KeepsRows : {V : Type 0} → (V → Type 0) → HostSeen V → Type 0
KeepsRows {V} Stands h = IfSome h.file (λ (f : ReopenSeen V). IfSome f.first Stands)

-- From one call to a later one: a vault with a file keeps it, and a vault without a file gets none.
-- Only a fault gives up the keeper that attached the file, and that keeper goes on until then. A
-- vault with memory alone stays one, and so does a vault with a file alone.
pub record HostGoesOn {V : Type 0} (seen : V → KeeperSeen) (Goes : V → V → Type 0)
    (old new : HostSeen V) : Type 0 where
  pub file : GoesAlong (GivesUpAtFault seen Goes) old.file new.file
  pub alone : new.alone ≡ old.alone
