-- If the state of a store is known, the database of its file represents it.
use Rattle.std.proofs.Common.{◌≡◌, ◌⊎◌, ◌≤◌, inl, inr, refl, sym, ap, subst, ◌∙◌, ℕ, Bool, true, false, true≢false, List, Option, Some, None, IfSome, IsTrue, IsSomeAnd}
use Rattle.sqlite_trees.specs.declared.store.Store.{Ghosts}
use Rattle.sqlite.specs.Held.{Held}
use Rattle.jac_keep.specs.KeeperSeen.{KeeperSeen}
use Rattle.jac_keep.specs.KeeperState.{KeeperState}
use Rattle.jac_sqlkeep.specs.Based.{Based, IsStanding, TellsStanding}
use Rattle.jac_sqlkeep.specs.Kept.{Kept, seen_kept, tells_of, HasStandingDatabase, IsKnownAs, KnowsSchema}
use Rattle.jac_reopen.specs.Reopened.{ReopenSeen, Supposed, UntoldSeen, seen_either, IsLeftUnattached, IsOnlyVault}
use Rattle.jac_host_vault.specs.HostSeen.{HostSeen, HasOneVault, KeepsRows, LeavesFile, LeavesUnattached, seen_one, seen_host}
use Rattle.jac_host_vault.specs.Left.{IsFileLeft}
use Rattle.jac_host_vault.specs.Standing.{IsStandingFile, IsDatabaseStanding, IsFileStanding, IsStoreStanding, IsOpenedOnce, IsOtherFile, IsOtherFound}

untold : {A : Type 0} → IsTrue false → A
untold told = absurd (true≢false (sym told))

pub standing_file : (k : Kept) → HasStandingDatabase k → KnowsSchema k → k.given ≤ 1 → IsStandingFile k
standing_file k database schema given = record { database = database; schema = schema; given = given }

database_stands : (k : Kept) (o : Option Based) → IfSome o TellsStanding → IfSome o (IsKnownAs k.store.schema) → IsTrue (tells_of o)
    → IsSomeAnd o (IsDatabaseStanding (seen_kept (record k { database = o })))
database_stands k None keeps knows told = untold told
database_stands k (Some b) keeps knows told = record { standing = keeps told; schema = knows.same told; state = refl }

first_stands : (first : Option Kept) (again : Option UntoldSeen) → IfSome first IsStandingFile → IsTrue (seen_either seen_kept first again).tells → IsSomeAnd first (IsFileStanding (seen_either seen_kept first again))
first_stands first (Some u) keeps told = untold told
first_stands None None keeps told = untold told
first_stands (Some k) None keeps told = database_stands k k.database keeps.database keeps.schema told

module _ (s : Supposed) (alone misnamed : Bool) (memory : KeeperState) where
  file_stands : (file : Option (ReopenSeen Kept)) → IfSome file (λ (f : ReopenSeen Kept). IfSome f.first IsStandingFile) → IsTrue (seen_one s seen_kept alone misnamed memory file).tells
      → IfSome file (λ (f : ReopenSeen Kept). IsSomeAnd f.first (IsFileStanding (seen_one s seen_kept alone misnamed memory file)))
  file_stands None keeps told = tt
  file_stands (Some f) keeps told = first_stands f.first f.again keeps told

pub store_stands : (s : Supposed) (h : HostSeen Kept) → KeepsRows IsStandingFile h → IsStoreStanding s h
store_stands s h keeps = file_stands s h.alone h.misnamed h.memory h.file keeps

-- ---- one opener

given_once : (first : Option Kept) → IfSome first IsStandingFile → IfSome first (λ (k : Kept). k.given ≤ 1)
given_once None keeps = tt
given_once (Some k) keeps = keeps.given

opened_by : (file : Option (ReopenSeen Kept)) → IfSome file IsOnlyVault → IfSome file (λ (f : ReopenSeen Kept). IfSome f.first IsStandingFile) → IfSome file (λ (f : ReopenSeen Kept). IsOnlyVault f × IfSome f.first (λ (k : Kept). k.given ≤ 1))
opened_by None once keeps = tt
opened_by (Some f) once keeps = (once, given_once f.first keeps)

pub opened_once : (h : HostSeen Kept) → HasOneVault h → KeepsRows IsStandingFile h → IsOpenedOnce h
opened_once h once keeps = opened_by h.file once keeps

-- ---- another store

module _ {S : Type 0} (g : Ghosts S) (Gives : Option (List ℕ) → Held S → Type 0) (stored : List ℕ) where
  abbrev Leaves : Option (List ℕ) → Kept → Type 0
  Leaves name k = IsFileLeft g (Gives name) k

  other_file : (k : Kept) → IsLeftUnattached seen_kept Leaves k → (seen_kept k).store.attached ≡ false → (seen_kept k).store.schema ≡ Some stored → IsOtherFile g Gives stored k
  other_file k left un known =
      let it = left un in
      let other = it.1.other stored known in
      (other.0, (it.0, other.1))

  other_first : (first : Option Kept) (again : Option UntoldSeen) → IfSome first (IsLeftUnattached seen_kept Leaves) → (seen_either seen_kept first again).store.attached ≡ false → (seen_either seen_kept first again).store.schema ≡ Some stored
      → (again ≡ None) × IsSomeAnd first (IsOtherFile g Gives stored)
  other_first first (Some u) left un known = absurd (true≢false un)
  other_first None None left un known = absurd (let e : ◌≡◌ {A = Option (List ℕ)} None (Some stored) = known in cc)
  other_first (Some k) None left un known = (refl, other_file k left un known)

  -- what is known of a file that wasn't opened is what was supposed of it
  only_supposed : (s : Supposed) (misnamed : Bool) (memory : KeeperState) → (seen_one {V = Kept} s seen_kept false misnamed memory None).store.schema ≡ Some stored → s.schema ≡ Some stored
  only_supposed s true memory known = known
  only_supposed s false memory known = known

  other_one : (s : Supposed) (misnamed : Bool) (memory : KeeperState) (file : Option (ReopenSeen Kept)) → IfSome file (LeavesUnattached seen_kept Leaves) → (seen_one s seen_kept false misnamed memory file).store.attached ≡ false
      → (seen_one s seen_kept false misnamed memory file).store.schema ≡ Some stored → ¬ (s.schema ≡ Some stored) → IsSomeAnd file (λ (f : ReopenSeen Kept). (f.again ≡ None) × IsSomeAnd f.first (IsOtherFile g Gives stored))
  other_one s misnamed memory None left un known not_supposed = absurd (not_supposed (only_supposed s misnamed memory known))
  other_one s misnamed memory (Some f) left un known not_supposed = other_first f.first f.again left un known

  other_by : (s : Supposed) (h : HostSeen Kept) (alone : Bool) → alone ≡ false → LeavesFile seen_kept Leaves h → (seen_one s seen_kept alone h.misnamed h.memory h.file).store.attached ≡ false
      → (seen_one s seen_kept alone h.misnamed h.memory h.file).store.schema ≡ Some stored → ¬ (s.schema ≡ Some stored) → IsOtherFound g Gives stored h
  other_by s h true some left un known not_supposed = absurd (true≢false some)
  other_by s h false some left un known not_supposed = other_one s h.misnamed h.memory h.file left.0 un known not_supposed

  -- a store whose schema is known, and that isn't attached, is a file that was opened
  pub other_found : (s : Supposed) (h : HostSeen Kept) → h.alone ≡ false → LeavesFile seen_kept Leaves h → (seen_host s seen_kept h).store.attached ≡ false → (seen_host s seen_kept h).store.schema ≡ Some stored → ¬ (s.schema ≡ Some stored)
      → IsOtherFound g Gives stored h
  other_found s h some left un known not_supposed = other_by s h h.alone some left un known not_supposed
