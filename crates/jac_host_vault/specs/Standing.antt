-- When the file of the program's store represents the store's state, and how often it was opened.
use Rattle.std.specs.Prelude.{◌≡◌, ◌≤◌, ℕ, false, List, Option, Some, None, IfSome, IsSomeAnd, IsTrue}
use Rattle.sqlite_trees.specs.declared.store.Store.{Ghosts}
use Rattle.sqlite.specs.Held.{Held}
use Rattle.jac_keep.specs.KeeperSeen.{KeeperSeen}
use Rattle.jac_sqlkeep.specs.Based.{Based, IsStanding}
use Rattle.jac_sqlkeep.specs.Kept.{Kept, seen_kept, HasStandingDatabase, HasStore, KnowsSchema, StoodAs}
use Rattle.jac_reopen.specs.Reopened.{ReopenSeen, Supposed, IsOnlyVault}
use Rattle.jac_host_vault.specs.HostSeen.{HostSeen, seen_host}

-- As long as the state of a file is known, its database is well formed and committed, and has the
-- schema text that the store knows. Its opener gave one connection at most.
pub record IsStandingFile (k : Kept) : Type 0 where
  pub database : HasStandingDatabase k
  pub schema : KnowsSchema k
  pub given : k.given ≤ 1

-- The whole database of a file is well formed and committed. It has the schema text of the store,
-- and its rows represent the state of the store.
pub record IsDatabaseStanding (store : KeeperSeen) (b : Based) : Type 0 where
  pub standing : IsStanding b.schema b
  pub schema : store.store.schema ≡ Some b.schema
  pub state : b.state ≡ store.state

abbrev pub IsFileStanding : KeeperSeen → Kept → Type 0
IsFileStanding store k = IsSomeAnd k.database (IsDatabaseStanding store)

-- As long as the store's state is known, the database of the attached file represents it.
abbrev pub IsStoreStanding : Supposed → HostSeen Kept → Type 0
IsStoreStanding s h = IsTrue (seen_host s seen_kept h).tells
    → IfSome h.file (λ (f : ReopenSeen Kept). IsSomeAnd f.first
    (IsFileStanding (seen_host s seen_kept h)))

-- As long as the file wasn't opened again, one opener was made, which gave one connection at most.
abbrev pub IsOpenedOnce : HostSeen Kept → Type 0
IsOpenedOnce h = IfSome h.file (λ (f : ReopenSeen Kept). IsOnlyVault f
    × IfSome f.first (λ (k : Kept). k.given ≤ 1))

-- The file was opened by one connection, which is refused, and is left as it was given. It is a
-- store with this schema text.
abbrev pub IsOtherFile : {S : Type 0} → Ghosts S → (Option (List ℕ) → Held S → Type 0) → List ℕ
    → Kept → Type 0
IsOtherFile g Gives stored k = (k.given ≡ 1) × ((name : Option (List ℕ)) × IsSomeAnd k.refused
    (λ (b : Based). StoodAs g (Gives name) b × HasStore stored b))

-- A file was found to be a store with this schema text. It wasn't opened again.
abbrev pub IsOtherFound : {S : Type 0} → Ghosts S → (Option (List ℕ) → Held S → Type 0) → List ℕ
    → HostSeen Kept → Type 0
IsOtherFound g Gives stored h = IsSomeAnd h.file (λ (f : ReopenSeen Kept). (f.again ≡ None)
    × IsSomeAnd f.first (IsOtherFile g Gives stored))

-- A store was refused, and its schema is known. A file was found to have this schema, unless there
-- is only memory, or the file was supposed to have this schema.
pub record IsOtherStore {S : Type 0} (s : Supposed) (g : Ghosts S)
    (Gives : Option (List ℕ) → Held S → Type 0) (h : HostSeen Kept) : Type 0 where
  pub stored : List ℕ
  pub known : (seen_host s seen_kept h).store.schema ≡ Some stored
  pub found : h.alone ≡ false → ¬ (s.schema ≡ Some stored) → IsOtherFound g Gives stored h
