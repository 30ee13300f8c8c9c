-- A vault that is attached by one of its keepers, and that is called in memory.
use Rattle.std.proofs.Common.{◌≡◌, inl, refl, ℕ, length, ◌≤◌, Bool, true, false, true≢false, List, Option, Some, None, Result, Ok, Err, OnOk, OnErr, IsErrOf, IsTrue, IsSomeAnd, sym, ap, ◌∙◌, subst, arith}
use Rattle.jac_io.specs.Faults.{Rose}
use Rattle.jac_rows.specs.Good.{ModelShape, IsSound}
use Rattle.jac_keep.specs.Cause.{HasCause}
use Rattle.jac_keep.specs.KeeperSeen.{KeeperSeen, Store, Keeps, Looks, Reads}
use Rattle.jac_keep.specs.KeeperState.{KeeperState, seen_keeper}
use Rattle.jac_keep.specs.Attaching.{Attaches}
use Rattle.jac_keep.specs.Reshaping.{Reshapes, widened_state}
use Rattle.jac_keep.specs.ChangedState.{changed_state}
use Rattle.jac_keep.specs.Schema.{IsFit}
use Rattle.jac_keep.specs.declared.alteration.Change.{Change}
use Rattle.jac_keep.specs.declared.stop.Stop.{Stop}
use Rattle.jac_keep.specs.declared.vault.AttachFault.{AttachFault}
use Rattle.jac_keep.specs.declared.vault.AttachFault.TheVariants.{Failed}
use Rattle.sqlite_trees.specs.declared.store.Store.{Ghosts}
use Rattle.sqlite.specs.Held.{Held}
use Rattle.jac_sqlkeep.specs.Based.{Based, IsStanding}
use Rattle.jac_sqlkeep.specs.Kept.{Kept, BeginsGiven}
use Rattle.jac_reopen.specs.Reopened.{ReopenSeen, Supposed, seen_reopening, waiting_keeper}
use Rattle.jac_host_vault.specs.Content.{IsFileOf}
use Rattle.jac_host_vault.specs.HostSeen.{HostSeen, IsStorePlaced, HasNoFile, IsStoreLeft, seen_memory, seen_unfiled, seen_waiting, seen_one, seen_host, faults_with, store_with, IsHost}

-- ---- memory is called

later_with : (m : Bool) (a b : ℕ) → a ≤ b → faults_with m a ≤ faults_with m b
later_with true a b later = omega (arith, later)
later_with false a b later = later

rose_with : (m : Bool) (a b : ℕ) → Rose a b → Rose (faults_with m a) (faults_with m b)
rose_with true a b rose = omega (arith, rose)
rose_with false a b rose = rose

was_attached : (misnamed : Bool) (s : Store) → IsTrue (store_with misnamed s).attached → IsTrue s.attached
was_attached true s is = is
was_attached false s is = is

not_waiting : {A : Type 0} (s : Supposed) (misnamed : Bool) → IsTrue (seen_waiting s misnamed).store.attached → A
not_waiting s true is = absurd (true≢false (sym is))
not_waiting s false is = absurd (true≢false (sym is))

-- If there is no file, what is attached is memory.
pub is_attached : (s : Supposed) (alone misnamed : Bool) (m : KeeperState) → IsTrue (seen_unfiled s alone misnamed m).store.attached → IsTrue m.store.attached
is_attached s true misnamed m is = was_attached misnamed m.store is
is_attached s false misnamed m is = not_waiting s misnamed is

-- What a call requires of the known state, it requires of the state of memory.
pub sound_in_memory : (s : Supposed) (alone misnamed : Bool) (m : KeeperState) (change : Change) → IsTrue (seen_unfiled s alone misnamed m).store.attached
    → (IsTrue (seen_unfiled s alone misnamed m).tells → IsSound (changed_state change (seen_unfiled s alone misnamed m).state)) → IsSound (changed_state change m.state)
sound_in_memory s true misnamed m change is sound = sound refl
sound_in_memory s false misnamed m change is sound = not_waiting s misnamed is

pub fit_in_memory : (s : Supposed) (alone misnamed : Bool) (m : KeeperState) (change : Change) (shapes : List ModelShape) → IsTrue (seen_unfiled s alone misnamed m).store.attached
    → (IsTrue (seen_unfiled s alone misnamed m).tells → IsFit shapes (widened_state (length shapes) (changed_state change (seen_unfiled s alone misnamed m).state))) → IsFit shapes (widened_state (length shapes) (changed_state change m.state))
fit_in_memory s true misnamed m change shapes is fit = fit refl
fit_in_memory s false misnamed m change shapes is fit = not_waiting s misnamed is

module _ (misnamed : Bool) (old new : KeeperState) where
  cause_with : {T : Type 0} (result : Result T Stop) → HasCause old.faults new.faults result → HasCause (faults_with misnamed old.faults) (faults_with misnamed new.faults) result
  cause_with result cause = record { later = later_with misnamed old.faults new.faults cause.later; rose = λ is. rose_with misnamed old.faults new.faults (cause.rose is) }

module _ (s : Supposed) (alone misnamed : Bool) (old new : KeeperState) where
  pub memory_reads : {T : Type 0} (result : Result T Stop) → IsTrue (seen_unfiled s alone misnamed old).store.attached → Reads (seen_keeper old) (seen_keeper new) result
      → Reads (seen_unfiled s alone misnamed old) (seen_unfiled s alone misnamed new) result
  memory_reads result is reads = by alone is
    where
      by : (alone : Bool) → IsTrue (seen_unfiled s alone misnamed old).store.attached → Reads (seen_unfiled s alone misnamed old) (seen_unfiled s alone misnamed new) result
      by true is = record {
        left = record {
          later = later_with misnamed old.faults new.faults reads.left.later;
          told = λ told. refl;
          same_state = λ told. reads.left.same_state refl;
          same_store = ap (store_with misnamed) reads.left.same_store;
        };
        good = λ told. reads.good refl;
        rose = λ is. rose_with misnamed old.faults new.faults (reads.rose is);
      }
      by false is = not_waiting s misnamed is

  pub memory_looks : {T : Type 0} (result : Result T Stop) → IsTrue (seen_unfiled s alone misnamed old).store.attached → Looks (seen_keeper old) (seen_keeper new) result
      → Looks (seen_unfiled s alone misnamed old) (seen_unfiled s alone misnamed new) result
  memory_looks result is looks = by alone is
    where
      by : (alone : Bool) → IsTrue (seen_unfiled s alone misnamed old).store.attached → Looks (seen_unfiled s alone misnamed old) (seen_unfiled s alone misnamed new) result
      by true is = record {
        left = record {
          later = later_with misnamed old.faults new.faults looks.left.later;
          told = λ told. refl;
          same_state = λ told. looks.left.same_state refl;
          same_store = ap (store_with misnamed) looks.left.same_store;
        };
        rose = λ is. rose_with misnamed old.faults new.faults (looks.rose is);
      }
      by false is = not_waiting s misnamed is

  pub memory_keeps : {T : Type 0} (result : Result T Stop) → IsTrue (seen_unfiled s alone misnamed old).store.attached → Keeps (seen_keeper old) (seen_keeper new) result
      → Keeps (seen_unfiled s alone misnamed old) (seen_unfiled s alone misnamed new) result
  memory_keeps result is keeps = by alone is
    where
      by : (alone : Bool) → IsTrue (seen_unfiled s alone misnamed old).store.attached → Keeps (seen_unfiled s alone misnamed old) (seen_unfiled s alone misnamed new) result
      by true is = record {
        cause = cause_with misnamed old new result keeps.cause;
        told = λ told. refl;
        good = λ told. keeps.good refl;
        same_store = ap (store_with misnamed) keeps.same_store;
      }
      by false is = not_waiting s misnamed is

schema_with : (m : Bool) (s : Store) (schema : Option (List ℕ)) → store_with m (record s { schema = schema }) ≡ record (store_with m s) { schema = schema }
schema_with true s schema = refl
schema_with false s schema = refl

reshapes_alone : (misnamed : Bool) (old new : KeeperState) (change : Change) (schema : List ℕ) (result : Result (Unit {0}) Stop) → Reshapes (seen_keeper old) (seen_keeper new) change schema result
    → Reshapes (seen_memory misnamed old) (seen_memory misnamed new) change schema result
reshapes_alone misnamed old new change schema (Ok done) reshapes = record {
  cause = cause_with misnamed old new (Ok done) reshapes.cause;
  told = λ told. refl;
  ok = record { store = ap (store_with misnamed) reshapes.ok.store ∙ schema_with misnamed old.store (Some schema); state = λ told. reshapes.ok.state refl };
  err = tt;
}
reshapes_alone misnamed old new change schema (Err e) reshapes = record {
  cause = cause_with misnamed old new (Err e) reshapes.cause;
  told = λ told. refl;
  ok = tt;
  err = record { same_store = ap (store_with misnamed) reshapes.err.same_store; same_state = λ told. reshapes.err.same_state refl };
}

pub memory_reshapes : (s : Supposed) (alone misnamed : Bool) (old new : KeeperState) (change : Change) (schema : List ℕ) (result : Result (Unit {0}) Stop) → IsTrue (seen_unfiled s alone misnamed old).store.attached
    → Reshapes (seen_keeper old) (seen_keeper new) change schema result → Reshapes (seen_unfiled s alone misnamed old) (seen_unfiled s alone misnamed new) change schema result
memory_reshapes s true misnamed old new change schema result is reshapes = reshapes_alone misnamed old new change schema result reshapes
memory_reshapes s false misnamed old new change schema result is reshapes = not_waiting s misnamed is

-- ---- no file was requested if there is none

pub unopened_by : {V : Type 0} (seen : V → KeeperSeen) (h : HostSeen V) → IsHost seen h → h.file ≡ None → HasNoFile h
unopened_by seen h host unfiled = (unfiled, λ un. host.waiting un unfiled)

-- ---- before anything was attached nothing was requested in vain

module _ {V : Type 0} (s : Supposed) (seen : V → KeeperSeen) where
  record IsFirst (h : HostSeen V) : Type 0 where
    pub uncalled : IsTrue h.alone → h.memory.store.called ≡ false
    pub named : h.misnamed ≡ false
    pub unfiled : h.file ≡ None

  first_unfiled : (alone misnamed : Bool) (memory : KeeperState) → (seen_unfiled s alone misnamed memory).store.called ≡ false → (IsTrue alone → memory.store.called ≡ false) × (misnamed ≡ false)
  first_unfiled true true memory first = absurd (true≢false first)
  first_unfiled true false memory first = (λ alone. first, refl)
  first_unfiled false true memory first = absurd (true≢false first)
  first_unfiled false false memory first = (λ alone. absurd (true≢false (sym alone)), refl)

  first_in : (waits alone misnamed : Bool) (memory : KeeperState) (file : Option (ReopenSeen V)) → IsHost seen (record { memory = memory; file = file; waits = waits; alone = alone; misnamed = misnamed })
      → (seen_one s seen alone misnamed memory file).store.called ≡ false → IsFirst (record { memory = memory; file = file; waits = waits; alone = alone; misnamed = misnamed })
  first_in waits alone misnamed memory (Some f) host first = absurd (true≢false (sym host.called ∙ first))
  first_in waits alone misnamed memory None host first =
      let it = first_unfiled alone misnamed memory first in
      record { uncalled = it.0; named = it.1; unfiled = refl }

  pub memory_first : (h : HostSeen V) → IsHost seen h → (seen_host s seen h).store.called ≡ false → h.alone ≡ true → h.memory.store.called ≡ false
  memory_first h host first alone = (first_in h.waits h.alone h.misnamed h.memory h.file host first).uncalled alone

  -- What is seen of a vault that wasn't called.
  seen_first_of : (h : HostSeen V) (alone : Bool) → h.alone ≡ alone → IsHost seen h → (seen_host s seen h).store.called ≡ false → seen_unfiled s alone false h.memory ≡ seen_host s seen h
  seen_first_of h alone is host first =
      let it = first_in h.waits h.alone h.misnamed h.memory h.file host first in
      ap (λ (a : Bool). seen_unfiled s a false h.memory) (sym is)
      ∙ (ap (λ (m : Bool). seen_unfiled s h.alone m h.memory) (sym it.named)
      ∙ ap (λ (f : Option (ReopenSeen V)). seen_one s seen h.alone h.misnamed h.memory f) (sym it.unfiled))

  -- ---- a file is attached

  pub file_attached : (h : HostSeen V) (new : KeeperSeen) (name : Option (List ℕ)) (schema : List ℕ) (result : Result (Unit {0}) AttachFault)
      → IsHost seen h → (seen_host s seen h).store.called ≡ false → h.alone ≡ false
      → Attaches (waiting_keeper s) new name schema result → Attaches (seen_host s seen h) new name schema result
  file_attached h new name schema result host first some attaches =
      subst (λ (k : KeeperSeen). Attaches k new name schema result) (seen_first_of h false some host first) attaches

  -- ---- memory is attached

  -- What is seen of the vault then.
  seen_then : (h : HostSeen V) (new : KeeperState) → h.alone ≡ true → IsHost seen h → (seen_host s seen h).store.called ≡ false → seen_memory false new ≡ seen_host s seen (record h { memory = new })
  seen_then h new alone host first =
      let it = first_in h.waits h.alone h.misnamed h.memory h.file host first in
      ap (λ (a : Bool). seen_unfiled s a false new) (sym alone)
      ∙ (ap (λ (m : Bool). seen_unfiled s h.alone m new) (sym it.named)
      ∙ ap (λ (f : Option (ReopenSeen V)). seen_one s seen h.alone h.misnamed new f) (sym it.unfiled))

  pub memory_attached : (h : HostSeen V) (new : KeeperState) (name : Option (List ℕ)) (schema : List ℕ) (result : Result (Unit {0}) AttachFault)
      → IsHost seen h → (seen_host s seen h).store.called ≡ false → h.alone ≡ true
      → Attaches (seen_keeper h.memory) (seen_keeper new) name schema result → Attaches (seen_host s seen h) (seen_host s seen (record h { memory = new })) name schema result
  memory_attached h new name schema result host first alone attaches =
      subst (λ (k : KeeperSeen). Attaches k (seen_host s seen (record h { memory = new })) name schema result) (seen_first_of h true alone host first)
      (subst (λ (k : KeeperSeen). Attaches (seen_memory false h.memory) k name schema result) (seen_then h new alone host first) attaches)

  pub host_of_memory : (h : HostSeen V) (new : KeeperState) → IsHost seen h → IsTrue new.store.called → IsHost seen (record h { memory = new })
  host_of_memory h new host called = record { called = host.called; detached = λ un. absurd (true≢false (sym called ∙ un)); unused = λ un. absurd (true≢false (sym called ∙ un)); unfiled = host.unfiled; waiting = host.waiting }

  -- ---- it refuses what it doesn't have

  refuses : (memory : KeeperState) (name : Option (List ℕ)) (schema : List ℕ) (alone : Bool) → (IsTrue alone → memory.faults ≡ 0) → Attaches (seen_unfiled s alone false memory) (seen_unfiled s alone true memory) name schema (Err Failed)
  refuses memory name schema true unused =
      let none = unused refl in
      record {
        later = omega (arith, none);
        called = refl;
        ok = tt;
        err = λ told. record { told = refl; same_state = refl; same_schema = refl };
        unattached = refl;
        rose = λ failed. omega (arith, none);
        other = λ stored is. absurd cc;
        known_other = λ stored is. absurd cc;
      }
  refuses memory name schema false unused = record {
    later = omega arith;
    called = refl;
    ok = tt;
    err = λ told. record { told = told; same_state = refl; same_schema = refl };
    unattached = refl;
    rose = λ failed. omega arith;
    other = λ stored is. absurd cc;
    known_other = λ stored is. absurd cc;
  }

  -- What is seen of the vault then.
  seen_misnamed : (h : HostSeen V) → IsHost seen h → (seen_host s seen h).store.called ≡ false → seen_unfiled s h.alone true h.memory ≡ seen_host s seen (record h { misnamed = true })
  seen_misnamed h host first =
      let it = first_in h.waits h.alone h.misnamed h.memory h.file host first in
      ap (λ (f : Option (ReopenSeen V)). seen_one s seen h.alone true h.memory f) (sym it.unfiled)

  pub name_refused : (h : HostSeen V) (name : Option (List ℕ)) (schema : List ℕ) → IsHost seen h → (seen_host s seen h).store.called ≡ false
      → Attaches (seen_host s seen h) (seen_host s seen (record h { misnamed = true })) name schema (Err Failed)
  name_refused h name schema host first =
      let it = first_in h.waits h.alone h.misnamed h.memory h.file host first in
      subst (λ (k : KeeperSeen). Attaches k (seen_host s seen (record h { misnamed = true })) name schema (Err Failed)) (seen_first_of h h.alone refl host first)
      (subst (λ (k : KeeperSeen). Attaches (seen_unfiled s h.alone false h.memory) k name schema (Err Failed)) (seen_misnamed h host first) (refuses h.memory name schema h.alone (λ alone. host.unused (it.uncalled alone))))

  -- ---- what is attached

  -- The file that was attached is the vault's file.
  pub placed_in : (Begins : List ℕ → V → Type 0) (name schema : List ℕ) (h : HostSeen V) (f : ReopenSeen V) (result : Result (Unit {0}) AttachFault) → h.file ≡ Some f → f.again ≡ None
      → OnOk result (IsSomeAnd f.first (Begins schema)) → OnOk result (IsStorePlaced s seen Begins (Some name) schema h)
  placed_in Begins name schema h f (Ok done) some first begins =
      subst (λ (o : Option (ReopenSeen V)). IsSomeAnd o (λ (f : ReopenSeen V). (f.again ≡ None) × IsSomeAnd f.first (Begins schema))) (sym some) (first, begins)
  placed_in Begins name schema h f (Err e) some first begins = tt

  -- The state of attached memory is known.
  pub memory_placed : (Begins : List ℕ → V → Type 0) (h : HostSeen V) (new : KeeperState) (schema : List ℕ) (result : Result (Unit {0}) AttachFault) → IsHost seen h → (seen_host s seen h).store.called ≡ false
      → h.alone ≡ true → OnOk result (IsStorePlaced s seen Begins None schema (record h { memory = new }))
  memory_placed Begins h new schema (Err e) host first alone = tt
  memory_placed Begins h new schema (Ok done) host first alone =
      let it = first_in h.waits h.alone h.misnamed h.memory h.file host first in
      (it.unfiled, ap (λ (k : KeeperSeen). k.tells) (sym (seen_then h new alone host first)))

  -- ---- what is left if nothing is attached

  -- A vault that wasn't called has no file.
  unopened_first : (h : HostSeen V) → IsHost seen h → (seen_host s seen h).store.called ≡ false → HasNoFile h
  unopened_first h host first = unopened_by seen h host (first_in h.waits h.alone h.misnamed h.memory h.file host first).unfiled

  -- So what opens the file is there, unless there is memory alone.
  pub waits_first : (h : HostSeen V) → IsHost seen h → (seen_host s seen h).store.called ≡ false → h.alone ≡ false → h.waits ≡ true
  waits_first h host first un = (unopened_first h host first).1 un

  -- If there is memory alone, no file was opened for a name.
  pub name_left : (Leaves : Option (List ℕ) → V → Type 0) (h : HostSeen V) (name : List ℕ) → IsHost seen h → (seen_host s seen h).store.called ≡ false → h.alone ≡ true → IsStoreLeft Leaves (Some name) (record h { misnamed = true })
  name_left Leaves h name host first alone = inl (alone, refl, (unopened_first h host first).0)

  pub unnamed_left : (Leaves : Option (List ℕ) → V → Type 0) (h : HostSeen V) → IsHost seen h → (seen_host s seen h).store.called ≡ false → IsStoreLeft Leaves None (record h { misnamed = true })
  unnamed_left Leaves h host first = unopened_first h host first

  -- If memory was requested, no file was opened.
  pub memory_left : (Leaves : Option (List ℕ) → V → Type 0) (h : HostSeen V) (new : KeeperState) (result : Result (Unit {0}) AttachFault) → IsHost seen h → (seen_host s seen h).store.called ≡ false → OnErr result (IsStoreLeft Leaves None (record h { memory = new }))
  memory_left Leaves h new (Ok done) host first = tt
  memory_left Leaves h new (Err e) host first = unopened_first h host first

-- ---- a file whose state is known

placed_at : {S : Type 0} (g : Ghosts S) (Gives : Held S → Type 0) (schema : List ℕ) (o : Option Based) → IsSomeAnd o (BeginsGiven g Gives schema) → IsSomeAnd o (λ (b : Based). (b.tells ≡ b.is_open) × (IsTrue b.is_open → b.schema ≡ schema) × (IsTrue b.is_open → IsStanding schema b))
placed_at g Gives schema None begins = absurd begins
placed_at g Gives schema (Some b) begins = (begins.begins.tells, begins.begins.stored, begins.begins.standing)

pub file_placed : {S : Type 0} (g : Ghosts S) (Gives : Held S → Type 0) (schema : List ℕ) (f : Kept) (result : Result (Unit {0}) AttachFault) → OnOk result (IsSomeAnd f.database (BeginsGiven g Gives schema)) → OnOk result (IsFileOf schema f)
file_placed g Gives schema f (Ok done) begins = placed_at g Gives schema f.database begins
file_placed g Gives schema f (Err e) begins = tt
