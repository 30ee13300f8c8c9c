-- The known state of a store in a file stays known, or a fault was counted.
use Rattle.std.proofs.Common.{◌≡◌, ◌⊎◌, inl, inr, refl, ap, ◌∙◌, Bool, true, false, Option, Some, None, IsTrue, IsSomeAnd}
use Rattle.sqlite_trees.proofs.Doubt.{no_doubt}
use Rattle.sqlite_trees.specs.declared.store.Store.{Ghosts}
use Rattle.jac_io.specs.Faults.{Rose}
use Rattle.jac_sqlkeep.specs.Based.{Based}
use Rattle.jac_sqlkeep.specs.Kept.{Kept, seen_kept, tells_of, KeeperGoesOn}
use Rattle.jac_sqlkeep.specs.GoesOn.{keeper_goes_on}
use Rattle.jac_keep.specs.KeeperState.{KeeperState}
use Rattle.jac_reopen.specs.Reopened.{ReopenSeen, Supposed, UntoldSeen, seen_first, seen_either, GoesAlong, GivesUpAtFault}
use Rattle.jac_host_vault.specs.HostSeen.{HostSeen, HostGoesOn, seen_one}
use Rattle.jac_host_vault.specs.Telling.{IsOpenFile, HasDiskFailed, first_database, file_database, TellsOrFailed}

abbrev IsOpen : Option Based → Type 0
IsOpen o = IsSomeAnd o (λ (b : Based). IsTrue b.is_open × IsTrue b.tells)

module _ {S : Type 0} (g : Ghosts S) where
  database_tells : (a b : Option Based) → KeeperGoesOn g a b → IsOpen a → IsTrue (tells_of b) ⊎ HasDiskFailed a b
  database_tells None b goes opened = absurd opened
  database_tells (Some a) None goes opened = absurd goes
  database_tells (Some a) (Some b) goes opened = go b.is_clean refl
    where
      next : IsTrue b.is_open ⊎ Rose a.faults b.faults → IsTrue b.tells ⊎ (Rose a.faults b.faults ⊎ (b.is_clean ≡ false))
      next (inl still) = inl (goes.tells opened.1 still)
      next (inr rose) = inr (inl rose)

      go : (clean : Bool) → b.is_clean ≡ clean → IsTrue b.tells ⊎ (Rose a.faults b.faults ⊎ (b.is_clean ≡ false))
      go true e = next (goes.closes (no_doubt b.is_clean e) opened.0)
      go false e = inr (inr e)

  first_tells : (a b : Option Kept) → GoesAlong (keeper_goes_on g).holds a b → IsSomeAnd a (λ (k : Kept). IsOpen k.database) → IsTrue (seen_first seen_kept b).tells ⊎ HasDiskFailed (first_database a) (first_database b)
  first_tells None b goes opened = absurd opened
  first_tells (Some a) None goes opened = absurd goes
  first_tells (Some a) (Some b) goes opened = database_tells a.database b.database goes opened

  module _ (s : Supposed) (alone misnamed : Bool) (memory : KeeperState) (new_alone new_misnamed : Bool) (new_memory : KeeperState) where
    either_tells : (a b : Option (ReopenSeen Kept)) → GoesAlong (GivesUpAtFault seen_kept (keeper_goes_on g).holds) a b
        → IsSomeAnd a (λ (f : ReopenSeen Kept). (f.again ≡ None) × IsSomeAnd f.first (λ (k : Kept). IsOpen k.database))
        → IsTrue (seen_one s seen_kept new_alone new_misnamed new_memory b).tells
        ⊎ (Rose (seen_one s seen_kept alone misnamed memory a).faults (seen_one s seen_kept new_alone new_misnamed new_memory b).faults ⊎ HasDiskFailed (file_database a) (file_database b))
    either_tells None b along opened = absurd opened
    either_tells (Some a) None along opened = absurd along
    either_tells (Some a) (Some b) along opened = elim (along.fault opened.0) [
      | inl kept ↦ elim (first_tells a.first b.first (along.first kept) opened.1) [
        | inl told ↦ inl (ap (λ (o : Option UntoldSeen). (seen_either seen_kept b.first o).tells) kept ∙ told)
        | inr failed ↦ inr (inr failed)
      ]
      | inr rose ↦ inr (inl rose)
    ]

  pub file_tells : (s : Supposed) (old new : HostSeen Kept) → HostGoesOn seen_kept (keeper_goes_on g).holds old new → IsOpenFile old → TellsOrFailed s old new
  file_tells s old new goes opened = either_tells s old.alone old.misnamed old.memory new.alone new.misnamed new.memory old.file new.file goes.file opened
