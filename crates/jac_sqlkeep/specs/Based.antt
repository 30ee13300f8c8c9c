-- What contracts see of a keeper's database.
use Rattle.std.specs.Prelude.{◌≡◌, ◌≤◌, ◌⊎◌, ℕ, Bool, ◌&&◌, ◌-◌, List, ◌∷◌, ◌++◌, length, map, Option, Some, None, IsTrue, Result, Ok, Err, IfOk, OnOk, OnErr}
use Rattle.sqlite_trees.specs.declared.store.Store.{Ghosts}
use Rattle.sqlite_trees.specs.View.{doubt}
use Rattle.sqlite.specs.declared.error.Error.{Error}
use Rattle.sqlite_trees.specs.Objects.{catalog_tree, version_tree, number_in}
use Rattle.sqlite_trees.specs.Tree.{rowid}
use Rattle.sqlite_value.specs.Order.{Row as Values}
use Rattle.sqlite_schema.specs.declared.schema.Table.{Table}
use Rattle.sqlite_schema.specs.declared.schema.Index.{Index}
use Rattle.sqlite_schema.specs.declared.schema.Schema.{Schema}
use Rattle.sqlite.specs.Effect.{Database}
use Rattle.sqlite.specs.Held.{Held, state}
use Rattle.sqlite.specs.State.{HasCleanDisk}
use Rattle.jac_io.specs.Faults.{Rose}
use Rattle.jac_value.specs.declared.value.Kind.{Kind}
use Rattle.jac_rows.specs.Good.{IsSound}
use Rattle.jac_rows.specs.declared.state.State.{State}
use Rattle.jac_keep.specs.declared.alteration.Change.{Change}
use Rattle.jac_keep.specs.ChangedState.{changed_state}
use Rattle.jac_keep.specs.Reshaping.{widened_state}
use Rattle.jac_keep.specs.Schema.{IsFit, shapes_by}
use Rattle.jac_sql_spec.specs.Stands.{Stands}
use Rattle.jac_sql_spec.specs.Tables.{no_tables, two_tables}
use Rattle.jac_sql_spec.specs.Telling.{empty_state, IsAllCommitted}
use Rattle.jac_sql_spec.specs.Told.{told, schema_in}

-- All trees of a database. First its list of objects, its version number, its tables and its
-- indexes. Then the tree of each object in the list. The list also has objects that SQL here
-- doesn't understand.
abbrev pub all_trees : Database → List ℕ
all_trees db = catalog_tree ∷ version_tree ∷ (map (λ (t : Table). t.tree) db.schema.tables
    ++ (map (λ (i : Index). i.tree) db.schema.indexes
    ++ map (λ (row : Values). number_in (rowid row) - 1) (db.trees catalog_tree)))

-- The whole of a database: its schema, and the rows of all its trees. The schema has the columns of
-- the tables, the indexes and the views.
pub record DatabaseSeen : Type 0 where
  pub schema : Schema
  pub rows : List (List Values)

abbrev pub seen_database : Database → DatabaseSeen
seen_database db = record { schema = db.schema; rows = map db.trees (all_trees db) }

-- The kinds of its models' fields. Whether its connection is open, whether its disk has returned
-- what was written, and how often that failed. Its schema text. The whole database, with its
-- indexes and views, as the connection sees it and as it is committed. Whether its state is known,
-- and its state.
pub record Based : Type 0 where
  pub kinds : List (List Kind)
  pub is_open : Bool
  pub is_clean : Bool
  pub faults : ℕ
  pub schema : List ℕ
  pub now : DatabaseSeen
  pub committed : DatabaseSeen
  pub tells : Bool
  pub state : State

-- If the rows of a database are known, its state is known while its connection is open.
abbrev pub based_keeper : {S : Type 0} → Ghosts S → List (List Kind) → Bool → Held S → Based
based_keeper g kinds known h = record {
  kinds = kinds;
  is_open = (state g h).is_open;
  is_clean = (state g h).is_clean;
  faults = (state g h).faults;
  schema = schema_in (state g h).now;
  now = seen_database (state g h).now;
  committed = seen_database (state g h).committed;
  tells = known && (state g h).is_open;
  state = told (length kinds) (state g h).now;
}

-- Connections over such a store are never shut. Connections in memory are of this kind.
abbrev pub NeverShut : {S : Type 0} → Ghosts S → Type 0
NeverShut {S} g = (s : S) → IsTrue (g.view s).is_open

-- As long as the connection is open, the whole database is as it was given, with its indexes and
-- views. All of it is committed. Only a fault of the disk shuts the connection.
pub record Stood {S : Type 0} (g : Ghosts S) (given : Held S) (b : Based) : Type 0 where
  pub was_open : IsTrue b.is_open → IsTrue (state g given).is_open
  pub kept : IsTrue b.is_open → b.now ≡ seen_database (state g given).now
  pub settled : IsTrue b.is_open → b.committed ≡ b.now
  pub closes : doubt b.is_clean ≡ 0 → IsTrue (state g given).is_open
      → IsTrue b.is_open ⊎ Rose (state g given).faults b.faults
  pub sure : NeverShut g → IsTrue b.is_open

-- The whole database is well formed: it has the two tables of a store with their index, and no
-- other table, index or view. Their rows represent the state, with this schema text. All of the
-- database is committed.
pub record IsStanding (schema : List ℕ) (b : Based) : Type 0 where
  pub database : Database
  pub has : b.now ≡ seen_database database
  pub stands : Stands schema database b.state
  pub settled : b.committed ≡ b.now

-- If the state is known, the database is well formed, with its schema text, and committed.
abbrev pub TellsStanding : Based → Type 0
TellsStanding b = IsTrue b.tells → IsStanding b.schema b

-- From one call to a later one: if the state was known, it is known while the connection is open. A
-- shut connection is never opened again. No fault is forgotten. Only a fault of the disk shuts the
-- connection. The database stays well formed and committed.
pub record DatabaseGoesOn {S : Type 0} (g : Ghosts S) (old new : Based) : Type 0 where
  pub tells : IsTrue old.tells → IsTrue new.is_open → IsTrue new.tells
  pub opens : IsTrue new.is_open → IsTrue old.is_open
  pub clean : doubt old.is_clean ≤ doubt new.is_clean
  pub counts : old.faults ≤ new.faults
  pub closes : doubt new.is_clean ≡ 0 → IsTrue old.is_open
      → IsTrue new.is_open ⊎ Rose old.faults new.faults
  pub sure : NeverShut g → IsTrue old.is_open → IsTrue new.is_open
  pub standing : TellsStanding old → TellsStanding new

-- A database that may be called. While its connection is open, it has the schema, and its state is
-- known and fits the schema. It is well formed and committed. If there was no table, it was made
-- empty and with the number 1. Otherwise the whole database is as it was given, with its indexes
-- and views, and its state is the one that was stored. It was read from a disk that had returned
-- what was written.
pub record Begins {S : Type 0} (g : Ghosts S) (schema : List ℕ) (kinds : List (List Kind))
    (nested : List Bool) (given : Held S) (b : Based) : Type 0 where
  pub tells : b.tells ≡ b.is_open
  pub fit : IsTrue b.tells → IsFit (shapes_by kinds nested) b.state
  pub stored : IsTrue b.is_open → b.schema ≡ schema
  pub standing : IsTrue b.is_open → IsStanding schema b
  pub made : (state g given).now.schema ≡ no_tables → IsTrue b.is_open
      → b.state ≡ empty_state (length kinds)
  pub kept : ¬ ((state g given).now.schema ≡ no_tables) → IsTrue b.is_open
      → b.now ≡ seen_database (state g given).now
  pub same_state : ¬ ((state g given).now.schema ≡ no_tables) → IsTrue b.is_open
      → b.state ≡ told (length kinds) (state g given).now
  pub same_schema : ¬ ((state g given).now.schema ≡ no_tables) → IsTrue b.is_open
      → schema_in (state g given).now ≡ schema
  pub was_clean : IsTrue b.is_open → HasCleanDisk (state g given)
  pub was_open : IsTrue b.is_open → IsTrue (state g given).is_open
  pub closes : doubt b.is_clean ≡ 0 → IsTrue (state g given).is_open
      → IsTrue b.is_open ⊎ Rose (state g given).faults b.faults
  pub sure : NeverShut g → IsTrue b.is_open

-- The database has the two tables of a store with their index, and no other table, index or view.
-- It has this schema text.
pub record IsStoreOf (schema : List ℕ) (b : Based) : Type 0 where
  pub form : b.now.schema ≡ two_tables 0 1 2
  pub stored : b.schema ≡ schema

-- What opening a database gives: a database that may be called, or one that is left as it was and
-- whose state isn't known, because it has another schema or can't be read.
abbrev pub OpensBased : {S E : Type 0} → Ghosts S → List ℕ → List (List Kind) → List Bool → Held S
    → Based → Result (Option (List ℕ)) E → Type 0
OpensBased g schema kinds nested given b (Ok None) = Begins g schema kinds nested given b
OpensBased g schema kinds nested given b (Ok (Some stored)) =
    (¬ (stored ≡ schema)) × (IsTrue b.is_open → IsStoreOf stored b) × Stood g given b
OpensBased g schema kinds nested given b (Err e) = Stood g given b

-- The whole database was read, and its state is known.
pub record IsWhole {S : Type 0} (g : Ghosts S) (schema : List ℕ) (kinds : List (List Kind))
    (nested : List Bool) (h : Held S) : Type 0 where
  pub kept : IsAllCommitted (length kinds) (state g h)
  pub fit : IsTrue (state g h).is_open
      → IsFit (shapes_by kinds nested) (told (length kinds) (state g h).now)
  pub stored : IsTrue (state g h).is_open → schema_in (state g h).now ≡ schema

-- What was read from an existing database: either it has this schema, and its state is known and
-- fits, or it has another schema.
abbrev pub ReadsWhole : {S : Type 0} → Ghosts S → List ℕ → List (List Kind) → List Bool → Held S
    → Option (List ℕ) → Type 0
ReadsWhole g schema kinds nested h None = IsWhole g schema kinds nested h
ReadsWhole g schema kinds nested h (Some stored) =
    (¬ (stored ≡ schema)) × (IsTrue (state g h).is_open → schema_in (state g h).now ≡ stored)

-- The result is what the state has, and nothing was changed.
pub record ReadsBased {T : Type 0} (Is : State → T → Type 0) (old new : Based)
    (result : Result T Error) : Type 0 where
  pub told_before : IsTrue new.tells → IsTrue old.tells
  pub same_state : IsTrue new.tells → new.state ≡ old.state
  pub good : IsTrue new.tells → IsSound new.state
  pub exact : IsTrue new.tells → IfOk result (Is old.state)

-- If the state is known, it was known before, and the schema text is the one before.
pub record KeepsText (old new : Based) : Type 0 where
  pub told_before : IsTrue new.tells → IsTrue old.tells
  pub same : IsTrue new.tells → new.schema ≡ old.schema

-- If the call succeeded, the change was applied. Otherwise nothing was changed.
pub record AppliesBased (change : Change) (old new : Based) (result : Result (Unit {0}) Error) :
    Type 0 where
  pub told_before : IsTrue new.tells → IsTrue old.tells
  pub good : IsTrue new.tells → IsSound new.state
  pub exact : IsTrue new.tells → OnOk result (new.state ≡ changed_state change old.state)
  pub refused : IsTrue new.tells → OnErr result (new.state ≡ old.state)

-- If the call succeeded, the change was applied, and the database has so many models and this
-- schema. Otherwise nothing was changed.
pub record ReshapesBased (change : Change) (schema : List ℕ) (models : ℕ) (old new : Based)
    (result : Result (Unit {0}) Error) : Type 0 where
  pub told_before : IsTrue new.tells → IsTrue old.tells
  pub exact : IsTrue new.tells → OnOk result (new.state ≡ widened_state models
      (changed_state change old.state))
  pub stored : IsTrue new.tells → OnOk result (new.schema ≡ schema)
  pub refused : IsTrue new.tells → OnErr result (new.state ≡ old.state)
