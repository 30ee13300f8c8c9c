-- What a file is found to hold is what was supposed of it.
use Rattle.std.proofs.Common.{◌≡◌, ◌⊎◌, inl, inr, refl, ℕ, Bool, true, false, true≢false, List, length, Option, Some, None, Result, Ok, Err, OnOk, OnErr, IsTrue, IsSomeAnd, sym, ap, ◌∙◌, subst, arith}
use Rattle.sqlite_wal.specs.Recovery.{Image}
use Rattle.sqlite_trees.specs.declared.store.Store.{Ghosts}
use Rattle.sqlite.specs.Effect.{Database}
use Rattle.sqlite.specs.Held.{Held, IsNew, state}
use Rattle.sqlite.specs.State.{HasCleanDisk}
use Rattle.jac_io.specs.Faults.{Rose}
use Rattle.jac_rows.specs.Good.{ModelShape}
use Rattle.jac_rows.specs.declared.state.State.{State}
use Rattle.jac_keep.specs.KeeperSeen.{KeeperSeen}
use Rattle.jac_keep.specs.Attaching.{Attaches, OpensStore, IsRefused, IsNewStore}
use Rattle.jac_keep.specs.Schema.{IsSchema, shapes_by, empties}
use Rattle.jac_keep.specs.declared.vault.AttachFault.{AttachFault}
use Rattle.jac_keep.proofs.SchemaLaws.{schema_one, length_shapes}
use Rattle.jac_sql_spec.specs.Tables.{no_tables}
use Rattle.jac_sql_spec.specs.Told.{told}
use Rattle.jac_sqlkeep.specs.Based.{Based}
use Rattle.jac_sqlkeep.specs.Kept.{Kept, seen_kept, tells_of, untouched_keeper, BeginsGiven}
use Rattle.jac_sqlkeep.specs.Opening.{IsFileGiven}
use Rattle.jac_reopen.specs.Reopened.{Supposed, waiting_keeper}
use Rattle.jac_host_vault.specs.Content.{StandFor, HoldsSupposed, IsAsSupposed, IsFound}

-- A database that a clean disk gives holds what its bytes represent.
pub given_holds : {S : Type 0} (g : Ghosts S) (image : Image) (s : Supposed) (h : Held S) → StandFor image s → IsTrue s.known → IsFileGiven image (state g h) × IsNew h → HasCleanDisk (state g h) → HoldsSupposed s (state g h).now
given_holds g image s h law supposed gave clean =
    let is = gave.0.opened clean in
    let found = gave.0.found clean in
    subst (HoldsSupposed s) (sym is.0.clean)
    (law supposed (state g h).committed (is.1 is.0.is_open).1 (record { holds = found.holds; reads = found.reads }))

module _ {S : Type 0} (g : Ghosts S) (Gives : Option (List ℕ) → Held S → Type 0) (s : Supposed) (name : Option (List ℕ)) (schema : List ℕ)
    (law : IsTrue s.known → (name : Option (List ℕ)) (h : Held S) → Gives name h → HasCleanDisk (state g h) → HoldsSupposed s (state g h).now) where
  module _ (b : Based) (begins : BeginsGiven g (Gives name) schema b) (supposed : IsTrue s.known) (tells : IsTrue b.tells) where
    -- What was stored there holds what was supposed.
    opened : IsTrue b.is_open
    opened = sym begins.begins.tells ∙ tells

    held : HoldsSupposed s (state g begins.given).now
    held = law supposed name begins.given begins.gave (begins.begins.was_clean opened)

    shapes_are : (shapes : List ModelShape) → IsSchema schema shapes → length shapes ≡ length begins.kinds
    shapes_are shapes is = ap (λ (ks : List ModelShape). length ks) (schema_one schema shapes (shapes_by begins.kinds begins.nested) is begins.is_schema) ∙ length_shapes begins.kinds begins.nested

    known_by : (o : Option (List ℕ)) → s.schema ≡ o → (s.schema ≡ None) ⊎ (s.schema ≡ Some schema)
    known_by None is = inl is
    known_by (Some stored) is =
        let it = held.some stored is in
        inr (is ∙ ap (λ (x : List ℕ). Some x) (sym it.has_schema ∙ begins.begins.same_schema it.made opened))

    is_as_supposed : IsAsSupposed s schema b.state
    is_as_supposed = record {
      known = known_by s.schema refl;
      kept = λ is.
          let it = held.some schema is in
          let count : length begins.kinds ≡ length s.state.tables = sym (it.fits (shapes_by begins.kinds begins.nested) begins.is_schema ∙ length_shapes begins.kinds begins.nested) in
          begins.begins.same_state it.made opened ∙ (ap (λ (n : ℕ). told n (state g begins.given).now) count ∙ it.has_state);
      made = λ is shapes also.
          let it = held.none is in
          let made = begins.begins.made it.0 opened in
          record {
            tables = ap (λ (x : State). x.tables) made ∙ ap empties (sym (shapes_are shapes also));
            number = ap (λ (x : State). x.number) made ∙ sym it.1;
          };
    }

  found_at : (o : Option Based) → IsSomeAnd o (BeginsGiven g (Gives name) schema) → IsTrue s.known → IsSomeAnd o (λ (b : Based). IsTrue b.tells → IsAsSupposed s schema b.state)
  found_at None begins supposed = absurd begins
  found_at (Some b) begins supposed = λ tells. is_as_supposed b begins supposed tells

  pub file_found : (f : Kept) (result : Result (Unit {0}) AttachFault) → OnOk result (IsSomeAnd f.database (BeginsGiven g (Gives name) schema)) → OnOk result (IsFound s schema f)
  file_found f (Ok done) begins = λ supposed. found_at f.database begins supposed
  file_found f (Err e) begins = tt

-- ---- a file of which something was supposed is attached

module _ (s : Supposed) (schema : List ℕ) where
  as_supposed : (f : Kept) → (o : Option Based) → f.database ≡ o → IsSomeAnd o (λ (b : Based). IsTrue b.tells → IsAsSupposed s schema b.state) → IsTrue (tells_of o) → IsAsSupposed s schema (seen_kept f).state
  as_supposed f None is found told = absurd found
  as_supposed f (Some b) is found told = subst (λ (x : Option Based). IsAsSupposed s schema (seen_kept (record f { database = x })).state) (sym is) (found told)

  tells_as_supposed : (f : Kept) → IsFound s schema f → IsTrue s.known → IsTrue (seen_kept f).tells → IsAsSupposed s schema (seen_kept f).state
  tells_as_supposed f found supposed told = as_supposed f f.database refl (found supposed) told

  opens_supposed : (f : Kept) (name : Option (List ℕ)) (result : Result (Unit {0}) AttachFault) → OnOk result (OpensStore (seen_kept (untouched_keeper 0 0)) (seen_kept f) name schema) → OnOk result (IsFound s schema f)
      → OnOk result (OpensStore (waiting_keeper s) (seen_kept f) name schema)
  opens_supposed f name (Err e) opens found = tt
  opens_supposed f name (Ok done) opens found = record {
    attached = opens.attached;
    named = opens.named;
    stored = opens.stored;
    fit = opens.fit;
    known = λ told supposed. (tells_as_supposed f found supposed told).known;
    kept = λ told supposed. (tells_as_supposed f found supposed told).kept;
    made = λ told supposed. (tells_as_supposed f found supposed told).made;
  }

  never_refused : (f : Kept) (result : Result (Unit {0}) AttachFault) → OnErr result (IsRefused (seen_kept (untouched_keeper 0 0)) (seen_kept f)) → OnErr result (IsRefused (waiting_keeper s) (seen_kept f))
  never_refused f (Ok done) refused = tt
  never_refused f (Err e) refused = absurd (true≢false (sym refused.told))

  pub supposed_first : (f : Kept) (name : Option (List ℕ)) (result : Result (Unit {0}) AttachFault) → Attaches (seen_kept (untouched_keeper 0 0)) (seen_kept f) name schema result → OnOk result (IsFound s schema f)
      → Attaches (waiting_keeper s) (seen_kept f) name schema result
  supposed_first f name result attaches found = record {
    later = attaches.later;
    called = attaches.called;
    ok = opens_supposed f name result attaches.ok found;
    err = λ told. never_refused f result (attaches.err told);
    unattached = attaches.unattached;
    rose = attaches.rose;
    other = attaches.other;
    known_other = attaches.known_other;
  }
