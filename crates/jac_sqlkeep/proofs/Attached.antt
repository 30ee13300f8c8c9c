-- A keeper that is attached to the database that was opened.
use Rattle.std.proofs.Common.{◌≡◌, refl, sym, ap, subst, ◌∙◌, ℕ, ◌+◌, ◌≤◌, Bool, true, false, true≢false, List, [], length, Option, Some, None, is_some, Ok, Err, Result, IsTrue, IfSome, IsSomeAnd, inl, inr, arith}
use Rattle.jac_value.specs.declared.value.Kind.{Kind}
use Rattle.jac_io.specs.Faults.{Rose}
use Rattle.jac_rows.specs.Good.{ModelShape}
use Rattle.jac_rows.specs.declared.state.State.{State}
use Rattle.jac_keep.specs.Attaching.{Attaches}
use Rattle.jac_keep.specs.ChangedState.{changed_state}
use Rattle.jac_keep.specs.Reshaping.{widened_state, Reshapes}
use Rattle.jac_keep.specs.Schema.{IsSchema, IsFit, shapes_by}
use Rattle.jac_keep.specs.declared.alteration.Change.{Change}
use Rattle.jac_keep.specs.declared.vault.AttachFault.{AttachFault}
use Rattle.jac_keep.proofs.SchemaLaws.{schema_one, length_shapes}
use Rattle.sqlite_trees.specs.declared.store.Store.{Ghosts}
use Rattle.sqlite.specs.Held.{Held}
use Rattle.jac_keep.specs.declared.vault.AttachFault.TheVariants.{Failed, Memory, Other}
use Rattle.jac_sqlkeep.specs.Based.{Based, OpensBased, Begins, Stood, KeepsText, ReshapesBased}
use Rattle.jac_sqlkeep.specs.Kept.{Kept, seen_kept, tells_of, based_state, IsKnownAs, IsRefusedAs, BeginsGiven, StoodAs, IsLeftAs, LearnsSchema}

-- Before it was called, its state wasn't known.
untold : (database : Option Based) (called : Bool) → (IsTrue (is_some database) → IsTrue called) → called ≡ false → tells_of database ≡ false
untold None called known first = refl
untold (Some d) called known first = absurd (true≢false (sym (known refl) ∙ first))

module _ (old new : Kept) (name : Option (List ℕ)) (schema : List ℕ) (kinds : List (List Kind)) (nested : List Bool) (d : Based) where
  pub attached_now : (IsTrue (is_some old.database) → IsTrue old.store.called) → old.store.called ≡ false → new.store.called ≡ true → new.store.attached ≡ true → new.store.name ≡ name → new.store.schema ≡ Some schema
      → old.faults ≤ new.faults → new.database ≡ Some d → IsSchema schema (shapes_by kinds nested) → (IsTrue d.tells → IsFit (shapes_by kinds nested) d.state)
      → Attaches (seen_kept old) (seen_kept new) name schema (Ok tt)
  attached_now known first called attached named stored later base is fits =
      let before : tells_of old.database ≡ false = untold old.database old.store.called known first in
      let shapes : List ModelShape = shapes_by kinds nested in
      let state : IsTrue (tells_of new.database) → IsFit shapes (based_state new.database) = λ told.
      subst (λ (o : Option Based). IsFit shapes (based_state o)) (sym base) (fits (sym (ap tells_of base) ∙ told)) in
      record {
        later = later;
        called = called;
        ok = record {
          attached = attached;
          named = named;
          stored = stored;
          fit = λ told others also. subst (λ ks. IsFit ks (based_state new.database)) (schema_one schema shapes others is also) (state told);
          known = λ told then. absurd (true≢false (sym then ∙ before));
          kept = λ told then. absurd (true≢false (sym then ∙ before));
          made = λ told then. absurd (true≢false (sym then ∙ before));
        };
        err = λ told. tt;
        unattached = tt;
        rose = λ failed. absurd cc;
        other = λ stored_text is_other. absurd cc;
        known_other = λ stored_text is_other. absurd cc;
      }

-- ---- a keeper that is brought to another schema

pub brought_fit : (k : Kept) (d : Based) (schema : List ℕ) (shapes : List ModelShape) (kinds : List (List Kind)) (nested : List Bool) (change : Change) → k.database ≡ Some d → IsSchema schema shapes → IsSchema schema (shapes_by kinds nested)
    → (IsTrue (seen_kept k).tells → IsFit shapes (widened_state (length shapes) (changed_state change (seen_kept k).state))) → IsTrue d.tells → IsFit (shapes_by kinds nested) (widened_state (length kinds) (changed_state change d.state))
brought_fit k d schema shapes kinds nested change base is also fits told =
    let same : shapes ≡ shapes_by kinds nested = schema_one schema shapes (shapes_by kinds nested) is also in
    let s = changed_state change d.state in
    let fit : IsFit shapes (widened_state (length shapes) s) = subst (λ (o : Option Based). IsFit shapes (widened_state (length shapes) (changed_state change (based_state o)))) base (fits (ap tells_of base ∙ told)) in
    subst (λ n. IsFit (shapes_by kinds nested) (widened_state n s)) (length_shapes kinds nested) (subst (λ ks. IsFit ks (widened_state (length ks) s)) same fit)

module _ (called : Bool) (before name : Option (List ℕ)) (faults unopened given : ℕ) (refused database : Option Based) where
  -- The keeper before the call.
  abbrev was : Kept
  was = record { store = record { called = called; attached = is_some database; schema = before; name = name }; faults = faults; unopened = unopened; given = given; database = database; refused = refused }

  abbrev brought : Based → List ℕ → Kept
  brought e copy = record { store = record { called = called; attached = true; schema = Some copy; name = name }; faults = faults; unopened = unopened; given = given; database = Some e; refused = refused }

  pub reshaped_now : (old : Kept) (d e : Based) (copy schema : List ℕ) (change : Change) (kinds : List (List Kind)) (nested : List Bool) → was ≡ old → database ≡ Some d → copy ≡ schema → IsSchema schema (shapes_by kinds nested)
      → ReshapesBased change schema (length kinds) d e (Ok tt) → Reshapes (seen_kept old) (seen_kept (brought e copy)) change schema (Ok tt)
  reshaped_now old d e copy schema change kinds nested view base copied is reshapes =
      let attached : true ≡ is_some database = sym (ap is_some base) in
      subst (λ (k : Kept). Reshapes (seen_kept k) (seen_kept (brought e copy)) change schema (Ok tt)) view (record {
        cause = record { later = omega arith; rose = λ failed. absurd cc };
        told = λ told. ap tells_of base ∙ reshapes.told_before told;
        ok = record {
          store = λ i. record { called = called; attached = attached i; schema = Some (copied i); name = name };
          state = λ told shapes also.
              let same : shapes_by kinds nested ≡ shapes = schema_one schema (shapes_by kinds nested) shapes is also in
              let long : length kinds ≡ length shapes = sym (length_shapes kinds nested) ∙ ap length same in
              reshapes.exact told ∙ ap (λ n. widened_state n (changed_state change d.state)) long ∙ ap (λ (o : Option Based). widened_state (length shapes) (changed_state change (based_state o))) (sym base);
        };
        err = tt;
      })

-- ---- what was opened

pub fit_now : {S E : Type 0} (g : Ghosts S) (schema : List ℕ) (kinds : List (List Kind)) (nested : List Bool) (given : Held S) (b : Based) (r : Result (Option (List ℕ)) E) → OpensBased g schema kinds nested given b r → r ≡ Ok None
    → IsTrue b.tells → IsFit (shapes_by kinds nested) b.state
fit_now g schema kinds nested given b r opens is = (subst (OpensBased g schema kinds nested given b) is opens).fit

module _ {S E : Type 0} (g : Ghosts S) (Gives : Held S → Type 0) (schema : List ℕ) (kinds : List (List Kind)) (nested : List Bool) (given : Held S) (b : Based) (r : Result (Option (List ℕ)) E)
    (opens : OpensBased g schema kinds nested given b r) (gave : Gives given) where
  pub begun_now : r ≡ Ok None → Begins g schema kinds nested given b
  begun_now is = subst (OpensBased g schema kinds nested given b) is opens

  pub begins_as : (o : Option Based) → o ≡ Some b → r ≡ Ok None → IsSchema schema (shapes_by kinds nested) → IsSomeAnd o (BeginsGiven g Gives schema)
  begins_as o some is shaped = subst (λ (o : Option Based). IsSomeAnd o (BeginsGiven g Gives schema)) (sym some) (record { given = given; gave = gave; kinds = kinds; nested = nested; is_schema = shaped; begins = begun_now is })

  stood_as : Stood g given b → (o : Option Based) → o ≡ Some b → IsSomeAnd o (StoodAs g Gives)
  stood_as stood o some = subst (λ (o : Option Based). IsSomeAnd o (StoodAs g Gives)) (sym some) (record { given = given; gave = gave; stood = stood })

  pub left_other : (old before new : Kept) (stored : List ℕ) (result : Result (Unit {0}) AttachFault) → before.given ≡ old.given + 1 → r ≡ Ok (Some stored) → IsRefusedAs before new b stored result → IsLeftAs g Gives old new result
  left_other old before new stored (Ok done) one is refused = absurd refused
  left_other old before new stored (Err Failed) one is refused = absurd refused
  left_other old before new stored (Err Memory) one is refused =
      inr (ap (λ (k : Kept). k.given) refused ∙ one, stood_as (subst (OpensBased g schema kinds nested given b) is opens).2 new.refused (ap (λ (k : Kept). k.refused) refused))
  left_other old before new stored (Err (Other told)) one is refused =
      (ap (λ (k : Kept). k.given) refused.1 ∙ one, stood_as (subst (OpensBased g schema kinds nested given b) is opens).2 new.refused (ap (λ (k : Kept). k.refused) refused.1))

  pub left_failed : (old new : Kept) (e : E) (fault : AttachFault) → new.given ≡ old.given + 1 → r ≡ Err e → new.refused ≡ Some b → IsLeftAs g Gives old new (Err fault)
  left_failed old new e Failed one is some = inr (one, stood_as (subst (OpensBased g schema kinds nested given b) is opens) new.refused some)
  left_failed old new e Memory one is some = inr (one, stood_as (subst (OpensBased g schema kinds nested given b) is opens) new.refused some)
  left_failed old new e (Other told) one is some = (one, stood_as (subst (OpensBased g schema kinds nested given b) is opens) new.refused some)

-- If nothing was opened.
pub left_unopened : {S : Type 0} (g : Ghosts S) (Gives : Held S → Type 0) (old new : Kept) (fault : AttachFault) → (fault ≡ Failed → Rose old.unopened new.unopened) → ((stored : List ℕ) → ¬ (fault ≡ Other stored))
    → new.given ≡ old.given → new.refused ≡ old.refused → IsLeftAs g Gives old new (Err fault)
left_unopened g Gives old new Failed rose other none same = inl (none, rose refl)
left_unopened g Gives old new Memory rose other none same = inl (none, same)
left_unopened g Gives old new (Other stored) rose other none same = absurd (other stored refl)

-- ---- what is known if nothing was attached

pub learns_other : (old before new : Kept) (b : Based) (stored : List ℕ) (result : Result (Unit {0}) AttachFault) → before.store.schema ≡ old.store.schema → before.faults ≡ old.faults → IsRefusedAs before new b stored result → LearnsSchema old new result
learns_other old before new b stored (Ok done) schema faults refused = absurd refused
learns_other old before new b stored (Err Failed) schema faults refused = absurd refused
learns_other old before new b stored (Err Memory) schema faults refused = (ap (λ (k : Kept). k.store.schema) refused ∙ schema, ap (λ (k : Kept). k.faults) refused ∙ faults)
learns_other old before new b stored (Err (Other told)) schema faults refused = ap (λ (k : Kept). k.store.schema) refused.1 ∙ ap (λ (text : List ℕ). Some text) (sym refused.0)

pub learns_failed : (old new : Kept) (fault : AttachFault) → new.store.schema ≡ old.store.schema → (fault ≡ Memory → new.faults ≡ old.faults) → ((stored : List ℕ) → ¬ (fault ≡ Other stored)) → LearnsSchema old new (Err fault)
learns_failed old new Failed schema uncounted other = schema
learns_failed old new Memory schema uncounted other = (schema, uncounted refl)
learns_failed old new (Other stored) schema uncounted other = absurd (other stored refl)

-- ---- the schema that is known

-- before it was called it had no database
pub none_before : (database : Option Based) (called : Bool) → (IsTrue (is_some database) → IsTrue called) → called ≡ false → database ≡ None
none_before None called known first = refl
none_before (Some d) called known first = absurd (true≢false (sym (known refl) ∙ first))

-- what is known of a database is known of it after a call that keeps its text
pub still_known : (schema : Option (List ℕ)) (database : Option Based) (a b : Based) → database ≡ Some a → IfSome database (IsKnownAs schema) → KeepsText a b → IsKnownAs schema b
still_known schema database a b some known keeps =
    let was : IsKnownAs schema a = subst (λ (o : Option Based). IfSome o (IsKnownAs schema)) some known in
    record { same = λ told. was.same (keeps.told_before told) ∙ ap (λ (x : List ℕ). Some x) (sym (keeps.same told)) }

-- that of one which was opened
pub begun_known : {S E : Type 0} (g : Ghosts S) (schema copy : List ℕ) (kinds : List (List Kind)) (nested : List Bool) (given : Held S) (b : Based) (r : Result (Option (List ℕ)) E) → OpensBased g schema kinds nested given b r → r ≡ Ok None → copy ≡ schema → IsKnownAs (Some copy) b
begun_known g schema copy kinds nested given b r opens is copied =
    let it : Begins g schema kinds nested given b = subst (OpensBased g schema kinds nested given b) is opens in
    record { same = λ told. ap (λ (x : List ℕ). Some x) (copied ∙ sym (it.stored (sym it.tells ∙ told))) }

-- that of one which was brought to another schema
pub known_after : (change : Change) (schema copy : List ℕ) (models : ℕ) (a b : Based) → ReshapesBased change schema models a b (Ok tt) → copy ≡ schema → IsKnownAs (Some copy) b
known_after change schema copy models a b reshapes copied = record { same = λ told. ap (λ (x : List ℕ). Some x) (copied ∙ sym (reshapes.stored told)) }
