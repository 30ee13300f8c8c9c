-- A database that represents a state while its connection is open, and what calls leave of it.
use Rattle.std.specs.Prelude.{◌≡◌, ℕ, Bool, List, IsTrue, IfOk, Result, Ok, Err, OnOk, OnErr}
use Rattle.std.specs.List.{AllByRecursion}
use Rattle.sqlite_trees.specs.declared.store.Store.{Ghosts}
use Rattle.sqlite.specs.declared.error.Error.{Error}
use Rattle.sqlite.specs.Effect.{Database}
use Rattle.sqlite.specs.Held.{Held, state}
use Rattle.sqlite.specs.State.{State as Sql}
use Rattle.jac_rows.specs.Good.{IsSound}
use Rattle.jac_rows.specs.declared.row.Row.{Row}
use Rattle.jac_rows.specs.declared.state.State.{State}
use Rattle.jac_row_codec.specs.Faults.{CanBeSpelled}
use Rattle.jac_keep.specs.declared.alteration.Alteration.{Alteration}
use Rattle.jac_keep.specs.declared.alteration.Change.{Change}
use Rattle.jac_keep.specs.Alterations.{AreOwn, ArePlaced}
use Rattle.jac_keep.specs.ChangedState.{changed_state}
use Rattle.jac_keep.specs.Reshaping.{widened_state}
use Rattle.jac_keep.specs.Schema.{empties}
use Rattle.jac_sql_spec.specs.Stands.{Stands, AreNarrow}
use Rattle.jac_sql_spec.specs.Told.{told, schema_in, AreSpelled}

-- A state with this many models and no records.
abbrev pub empty_state : ℕ → State
empty_state models = record { tables = empties models; number = 1 }

-- The database stands for the state that it tells. This state is sound, and its rows can be read
-- back from their bytes.
pub record IsDatabaseTold (models : ℕ) (db : Database) : Type 0 where
  pub schema : List ℕ
  pub stands : Stands schema db (told models db)
  pub sound : IsSound (told models db)
  pub spelled : AreSpelled (told models db).tables

-- If the connection is open, all of the database is committed, and the database tells a state.
pub record IsAllCommitted (models : ℕ) (s : Sql) : Type 0 where
  pub settled : IsTrue s.is_open → s.now ≡ s.committed
  pub told_by : IsTrue s.is_open → IsDatabaseTold models s.now

-- The call changed nothing of the state that is told.
pub record StaysCommitted (models : ℕ) (old new : Sql) : Type 0 where
  pub told_before : IsTrue new.is_open → IsTrue old.is_open
  pub same : IsTrue new.is_open → told models new.now ≡ told models old.now

-- If the call succeeded, it read what the state has. It changed nothing.
pub record ReadsTold {S T : Type 0} (g : Ghosts S) (Is : State → T → Type 0) (models : ℕ)
    (old new : Held S) (result : Result T Error) : Type 0 where
  pub kept : IsAllCommitted models (state g new)
  pub left : StaysCommitted models (state g old) (state g new)
  pub exact : IsTrue (state g new).is_open → IfOk result (Is (told models (state g old).now))

-- The rows of the altered records can be spelled.
abbrev pub CanAllBeSpelled : List Alteration → Type 0
CanAllBeSpelled = AllByRecursion (λ (a : Alteration). AllByRecursion CanBeSpelled a.rows)

-- Each altered record belongs to one of the models, and its id fits into 16 bytes. Its rows are its
-- own and can be spelled.
pub record CanBeStored (models : ℕ) (xs : List Alteration) : Type 0 where
  pub narrow : AreNarrow xs
  pub own : AreOwn xs
  pub placed : ArePlaced xs models
  pub spelled : CanAllBeSpelled xs

-- If the call succeeded, the change was applied. If not, nothing was changed.
pub record AppliesTold {S : Type 0} (g : Ghosts S) (models : ℕ) (change : Change) (old new : Held S)
    (result : Result (Unit {0}) Error) : Type 0 where
  pub kept : IsAllCommitted models (state g new)
  pub told_before : IsTrue (state g new).is_open → IsTrue (state g old).is_open
  pub exact : IsTrue (state g new).is_open
      → OnOk result (told models (state g new).now ≡ changed_state change (told models
      (state g old).now))
  pub refused : IsTrue (state g new).is_open
      → OnErr result (told models (state g new).now ≡ told models (state g old).now)

-- If the call succeeded, the change was applied, the state has `more` models, and the schema is
-- stored. If not, nothing was changed.
pub record ReshapesTold {S : Type 0} (g : Ghosts S) (models more : ℕ) (change : Change)
    (schema : List ℕ) (old new : Held S) (result : Result (Unit {0}) Error) : Type 0 where
  pub told_before : IsTrue (state g new).is_open → IsTrue (state g old).is_open
  pub kept : OnOk result (IsAllCommitted more (state g new))
  pub same : OnErr result (IsAllCommitted models (state g new))
  pub exact : IsTrue (state g new).is_open
      → OnOk result (told more (state g new).now ≡ widened_state more
      (changed_state change (told models (state g old).now)))
  pub refused : IsTrue (state g new).is_open
      → OnErr result (told models (state g new).now ≡ told models (state g old).now)
  pub stored : IsTrue (state g new).is_open → OnOk result (schema_in (state g new).now ≡ schema)
