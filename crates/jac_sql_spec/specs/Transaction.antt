-- What statements that run in one transaction leave.
use Rattle.std.specs.Prelude.{◌≡◌, ℕ, true, List, [], ◌∷◌, Result, Ok, OnOk, OnErr, IsTrue}
use Rattle.sqlite_trees.specs.declared.store.Store.{Ghosts}
use Rattle.sqlite.specs.declared.error.Error.{Error}
use Rattle.sqlite.specs.Effect.{Database}
use Rattle.sqlite.specs.State.{State, HasCleanDisk, ExecutesInside, KeepsCommit, Survives}
use Rattle.sqlite.specs.Held.{Held, state}
use Rattle.jac_sql_spec.specs.Statements.{SqlStatement}

-- The statements ran one after another.
abbrev pub Ran : {S : Type 0} → Ghosts S → List SqlStatement → Held S → Held S → Type 0
Ran g [] old new = new ≡ old
Ran {S} g (x ∷ xs) old new =
    (mid : Held S) × (count : ℕ) × ExecutesInside 0 x.text x.params (state g old) (state g mid)
    (Ok count) × Ran g xs mid new

-- Inside a transaction: nothing is committed, and if the call succeeds, each statement ran.
pub record Inside {S T : Type 0} (g : Ghosts S) (xs : List SqlStatement) (old new : Held S)
    (result : Result T Error) : Type 0 where
  pub ran : HasCleanDisk (state g new) → IsTrue (state g old).in_transaction
      → OnOk result (Ran g xs old new)
  pub kept : HasCleanDisk (state g new) → KeepsCommit (state g old) (state g new)
  pub survives : Survives (state g old) (state g new) (λ _. ⊥)

-- The database after these statements.
pub record Leaves {S : Type 0} (g : Ghosts S) (xs : List SqlStatement) (old : Held S)
    (db : Database) :
    Type 0 where
  pub last : Held S
  pub ran : Ran g xs (record old { in_transaction = true }) last
  pub left : db ≡ (state g last).now

-- One transaction of these statements: all of them take effect or none, even after a crash.
pub record Transacts {S T : Type 0} (g : Ghosts S) (xs : List SqlStatement) (old new : Held S)
    (result : Result T Error) : Type 0 where
  pub all : HasCleanDisk (state g new) → OnOk result (Leaves g xs old (state g new).committed)
  pub none : HasCleanDisk (state g new) → IsTrue (state g new).is_open
      → OnErr result (((state g new).now ≡ (state g old).now)
      × ((state g new).committed ≡ (state g old).committed))
  pub crash : Survives (state g old) (state g new) (λ trees. (db : Database) × Leaves g xs old db
      × (trees ≡ db.trees))

-- A call outside a transaction. If the connection is open after it, it was open before, and all of
-- the database is committed.
pub record EndsCommitted (old new : State) : Type 0 where
  pub was_open : IsTrue new.is_open → IsTrue old.is_open
  pub settled : IsTrue new.is_open → new.now ≡ new.committed
