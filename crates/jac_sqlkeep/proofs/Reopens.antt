-- A store that was made before is opened, with its connection at each of the queries.
use Rattle.std.proofs.Common.{◌≡◌, true, false, subst, List, length, Option, Some, None, Ok, IsTrue, Bool, ℕ}
use Rattle.sqlite_trees.specs.declared.store.Store.{Ghosts}
use Rattle.sqlite.specs.Held.{Held, state}
use Rattle.sqlite.specs.State.{HasCleanDisk, IsLive}
use Rattle.jac_value.specs.declared.value.Kind.{Kind}
use Rattle.jac_keep.specs.Schema.{IsFit, shapes_by}
use Rattle.jac_keep.proofs.SchemaLaws.{length_shapes}
use Rattle.jac_sql_spec.specs.Founding.{Finds}
use Rattle.jac_sql_spec.specs.Tables.{two_tables}
use Rattle.jac_sql_spec.specs.Telling.{IsAllCommitted}
use Rattle.jac_sql_spec.specs.Testing.{ShowsKey, ShowsStored}
use Rattle.jac_sql_spec.specs.Told.{told}
use Rattle.jac_sql_spec.proofs.Reopened.{other_stored, reopened_kept, reopened_schema, reopened_fit}
use Rattle.jac_sqlkeep.specs.Based.{IsWhole, ReadsWhole}

module _ {S : Type 0} (g : Ghosts S) (schema : List ℕ) (kinds : List (List Kind)) (nested : List Bool) (start keyed named : Held S) (shuts_keyed : (state g keyed).is_clean ≡ false → (state g keyed).is_open ≡ false)
    (shuts_named : (state g named).is_clean ≡ false → (state g named).is_open ≡ false) (settled : IsTrue (state g start).is_open → (state g start).now ≡ (state g start).committed) (live : IsLive (state g start))
    (has : (state g start).now.schema ≡ two_tables 0 1 2) (key : HasCleanDisk (state g keyed) → ShowsKey g start keyed) where
  pub reopens_other : (stored : List ℕ) → (HasCleanDisk (state g named) → Finds g schema keyed named (Ok (Some stored))) → ¬ (stored ≡ schema) → ReadsWhole g schema kinds nested named (Some stored)
  reopens_other stored finds other =
      (other, λ opened. other_stored g (shapes_by kinds nested) schema start keyed named shuts_keyed shuts_named settled live has key stored finds opened)

  module _ (new : Held S) (shuts_new : (state g new).is_clean ≡ false → (state g new).is_open ≡ false) (finds : HasCleanDisk (state g named) → Finds g schema keyed named (Ok None))
      (stored : HasCleanDisk (state g new) → ShowsStored g (shapes_by kinds nested) named new) where
    pub reopens_whole : IsWhole g schema kinds nested new
    reopens_whole = record {
      kept = subst (λ n. IsAllCommitted n (state g new)) (length_shapes kinds nested)
          (reopened_kept g (shapes_by kinds nested) schema start keyed named shuts_keyed shuts_named settled live has key new shuts_new finds stored);
      fit = λ opened. subst (λ n. IsFit (shapes_by kinds nested) (told n (state g new).now)) (length_shapes kinds nested)
          (reopened_fit g (shapes_by kinds nested) schema start keyed named shuts_keyed shuts_named settled live has key new shuts_new finds stored opened);
      stored = λ opened. reopened_schema g (shapes_by kinds nested) schema start keyed named shuts_keyed shuts_named settled live has key new shuts_new finds stored opened;
    }
