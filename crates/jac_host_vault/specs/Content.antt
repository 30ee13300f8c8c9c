-- What a store's file is assumed to contain, and what it is found to contain.
use Rattle.std.specs.Prelude.{◌≡◌, ◌⊎◌, ℕ, List, [], length, Option, Some, None, IsSomeAnd, IsTrue}
use Rattle.sqlite_wal.specs.Recovery.{Image}
use Rattle.sqlite_trees.specs.Tree.{Trees}
use Rattle.sqlite.specs.Effect.{Database, IsDatabase}
use Rattle.sqlite.specs.Files.{HoldsDatabase, AreFoundIn}
use Rattle.jac_rows.specs.Good.{ModelShape}
use Rattle.jac_rows.specs.declared.state.State.{State}
use Rattle.jac_keep.specs.Attaching.{IsNewStore}
use Rattle.jac_keep.specs.Schema.{IsSchema}
use Rattle.jac_sql_spec.specs.Tables.{no_tables}
use Rattle.jac_sql_spec.specs.Told.{told, schema_in}
use Rattle.jac_sqlkeep.specs.Based.{Based, IsStanding}
use Rattle.jac_sqlkeep.specs.Kept.{Kept}
use Rattle.jac_reopen.specs.Reopened.{Supposed}

-- The trees are those of the database that these bytes of a log and a file hold. If the bytes hold
-- none, the trees are empty.
pub record AreTreesIn (image : Image) (trees : Trees) : Type 0 where
  pub holds : (db : Trees) → HoldsDatabase image db → trees ≡ db
  pub reads : AreFoundIn image trees

-- The tables of a store with this schema. They represent this state.
pub record HasStored (schema : List ℕ) (state : State) (db : Database) : Type 0 where
  pub made : ¬ (db.schema ≡ no_tables)
  pub has_schema : schema_in db ≡ schema
  pub has_state : told (length state.tables) db ≡ state
  pub fits : (shapes : List ModelShape) → IsSchema schema shapes
      → length state.tables ≡ length shapes

-- A database holds what is supposed: a store, or nothing, from which a new store is made.
pub record HoldsSupposed (s : Supposed) (db : Database) : Type 0 where
  pub none : s.schema ≡ None → (db.schema ≡ no_tables) × (s.state.number ≡ 1)
  pub some : (schema : List ℕ) → s.schema ≡ Some schema → HasStored schema s.state db

-- Files with these bytes hold what is supposed.
abbrev pub StandFor : Image → Supposed → Type 0
StandFor image s = IsTrue s.known → (db : Database) → IsDatabase db → AreTreesIn image db.trees
    → HoldsSupposed s db

-- The state of a store that was attached with this schema is what was supposed.
pub record IsAsSupposed (s : Supposed) (schema : List ℕ) (state : State) : Type 0 where
  pub known : (s.schema ≡ None) ⊎ (s.schema ≡ Some schema)
  pub kept : s.schema ≡ Some schema → state ≡ s.state
  pub made : s.schema ≡ None → (shapes : List ModelShape) → IsSchema schema shapes
      → IsNewStore s.state shapes state

-- If something was supposed of a file, its state is what was supposed, as long as it is known.
abbrev pub IsFound : Supposed → List ℕ → Kept → Type 0
IsFound s schema f = IsTrue s.known → IsSomeAnd f.database (λ (b : Based). IsTrue b.tells
    → IsAsSupposed s schema b.state)

-- The state of the file's database is known as long as its connection is open. Then it has this
-- schema, and its rows are well formed and committed.
abbrev pub IsFileOf : List ℕ → Kept → Type 0
IsFileOf schema f = IsSomeAnd f.database (λ (b : Based). (b.tells ≡ b.is_open)
    × (IsTrue b.is_open → b.schema ≡ schema) × (IsTrue b.is_open → IsStanding schema b))
