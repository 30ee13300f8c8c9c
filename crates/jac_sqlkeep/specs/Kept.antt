-- What contracts see of a keeper over SQLite.
use Rattle.std.specs.Prelude.{◌≡◌, ◌+◌, ◌⊎◌, ⊤, ℕ, Bool, false, List, [], Option, Some, None, IfSome, Result, Ok, Err, IsTrue, IsSomeAnd}
use Rattle.sqlite_trees.specs.declared.store.Store.{Ghosts}
use Rattle.sqlite.specs.Held.{Held}
use Rattle.jac_value.specs.declared.value.Kind.{Kind}
use Rattle.jac_io.specs.Faults.{Rose}
use Rattle.jac_rows.specs.declared.state.State.{State}
use Rattle.jac_keep.specs.KeeperSeen.{KeeperSeen, Store}
use Rattle.jac_keep.specs.Schema.{IsSchema, shapes_by}
use Rattle.jac_keep.specs.declared.vault.AttachFault.{AttachFault}
use Rattle.jac_keep.specs.declared.vault.AttachFault.TheVariants.{Failed, Memory, Other}
use Rattle.jac_sqlkeep.specs.Based.{Based, DatabaseGoesOn, Begins, Stood, IsStoreOf, TellsStanding}

-- Its store. How often it failed, and how often its opener failed. How many connections the opener
-- gave. Its database, if it is attached, and the database that was refused, if there is one.
pub record Kept : Type 0 where
  pub store : Store
  pub faults : ℕ
  pub unopened : ℕ
  pub given : ℕ
  pub database : Option Based
  pub refused : Option Based

-- A keeper's state is known if it has a database whose state is known.
abbrev pub tells_of : Option Based → Bool
tells_of None = false
tells_of (Some b) = b.tells

abbrev pub based_state : Option Based → State
based_state None = record { tables = []; number = 1 }
based_state (Some b) = b.state

abbrev pub seen_kept : Kept → KeeperSeen
seen_kept k = record {
  tells = tells_of k.database;
  state = based_state k.database;
  faults = k.faults;
  store = k.store;
}

-- A keeper on which `attach` wasn't called, over an opener that failed so often and gave so many
-- connections.
abbrev pub untouched_keeper : ℕ → ℕ → Kept
untouched_keeper unopened given = record {
  store = record {
    called = false;
    attached = false;
    schema = None;
    name = None;
  };
  faults = 0;
  unopened = unopened;
  given = given;
  database = None;
  refused = None;
}

-- A store with another schema is refused. Unless memory runs out, the result gives that schema, and
-- the keeper knows it afterwards. Nothing else changes.
abbrev pub IsRefusedAs : Kept → Kept → Based → List ℕ → Result (Unit {0}) AttachFault → Type 0
IsRefusedAs old new database stored (Ok done) = ⊥
IsRefusedAs old new database stored (Err Failed) = ⊥
IsRefusedAs old new database stored (Err Memory) = new ≡ record old { refused = Some database }
IsRefusedAs old new database stored (Err (Other told)) =
    (told ≡ stored) × (new ≡ record old {
      store = record old.store { schema = Some stored };
      refused = Some database;
    })

-- The database has this schema text as long as its connection is open.
abbrev pub HasSchema : List ℕ → Based → Type 0
HasSchema schema b = IsTrue b.is_open → b.schema ≡ schema

-- As long as the connection is open, the database is a store with this schema text.
abbrev pub HasStore : List ℕ → Based → Type 0
HasStore schema b = IsTrue b.is_open → IsStoreOf schema b

-- If its state is known, the database has this schema text.
abbrev pub TellsSchema : List ℕ → Based → Type 0
TellsSchema schema b = IsTrue b.tells → b.schema ≡ schema

-- As long as the state of its database is known, the database is well formed and committed.
abbrev pub HasStandingDatabase : Kept → Type 0
HasStandingDatabase k = IfSome k.database TellsStanding

-- As long as the state of the database is known, this is its schema text.
pub record IsKnownAs (schema : Option (List ℕ)) (b : Based) : Type 0 where
  pub same : IsTrue b.tells → schema ≡ Some b.schema

-- As long as the state of its database is known, the store's schema is the text in the database.
abbrev pub KnowsSchema : Kept → Type 0
KnowsSchema k = IfSome k.database (IsKnownAs k.store.schema)

-- A database that may be called, over a connection that the opener gave.
pub record BeginsGiven {S : Type 0} (g : Ghosts S) (Gives : Held S → Type 0) (schema : List ℕ)
    (b : Based) : Type 0 where
  pub given : Held S
  pub gave : Gives given
  pub kinds : List (List Kind)
  pub nested : List Bool
  pub is_schema : IsSchema schema (shapes_by kinds nested)
  pub begins : Begins g schema kinds nested given b

-- A connection that the opener gave is left as it was.
pub record StoodAs {S : Type 0} (g : Ghosts S) (Gives : Held S → Type 0) (b : Based) : Type 0 where
  pub given : Held S
  pub gave : Gives given
  pub stood : Stood g given b

-- The opener gave no connection.
abbrev pub GaveNone : Kept → Kept → Type 0
GaveNone old new = new.given ≡ old.given

-- The opener gave exactly one connection.
abbrev pub GaveOne : Kept → Kept → Type 0
GaveOne old new = new.given ≡ old.given + 1

-- The opener gave exactly one connection, which was refused and left as it was.
abbrev pub IsOneLeft : {S : Type 0} → Ghosts S → (Held S → Type 0) → Kept → Kept → Type 0
IsOneLeft g Gives old new = GaveOne old new × IsSomeAnd new.refused (StoodAs g Gives)

-- What attaching leaves. Either the opener gave exactly one connection, which is attached, or
-- refused and left as it was, or it gave none.
abbrev pub IsLeftAs : {S : Type 0} → Ghosts S → (Held S → Type 0) → Kept → Kept
    → Result (Unit {0}) AttachFault → Type 0
IsLeftAs g Gives old new (Ok done) = GaveOne old new
IsLeftAs g Gives old new (Err Failed) =
    (GaveNone old new × Rose old.unopened new.unopened) ⊎ IsOneLeft g Gives old new
IsLeftAs g Gives old new (Err Memory) =
    (GaveNone old new × (new.refused ≡ old.refused)) ⊎ IsOneLeft g Gives old new
IsLeftAs g Gives old new (Err (Other stored)) = IsOneLeft g Gives old new

-- What the keeper learns by attaching with this result. If another schema is stored, the keeper
-- knows that one. After another error it knows what it knew before. Running out of memory isn't
-- counted.
abbrev pub LearnsSchema : Kept → Kept → Result (Unit {0}) AttachFault → Type 0
LearnsSchema old new (Ok done) = ⊤
LearnsSchema old new (Err Failed) = new.store.schema ≡ old.store.schema
LearnsSchema old new (Err Memory) = (new.store.schema ≡ old.store.schema)
    × (new.faults ≡ old.faults)
LearnsSchema old new (Err (Other stored)) = new.store.schema ≡ Some stored

-- The database of an attached keeper, before a call and after it.
abbrev pub KeeperGoesOn : {S : Type 0} → Ghosts S → Option Based → Option Based → Type 0
KeeperGoesOn g None new = ⊤
KeeperGoesOn g (Some a) None = ⊥
KeeperGoesOn g (Some a) (Some b) = DatabaseGoesOn g a b
