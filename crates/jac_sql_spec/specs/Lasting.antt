-- What a call preserves of a connection, and of tables that it doesn't change.
use Rattle.std.specs.Prelude.{◌≡◌, ◌≤◌, ◌⊎◌, IsTrue}
use Rattle.sqlite_trees.specs.View.{doubt}
use Rattle.sqlite.specs.State.{State as Sql, HasCleanDisk}
use Rattle.jac_io.specs.Faults.{Rose}
use Rattle.jac_sql_spec.specs.Tables.{two_tables}

-- A disk that isn't clean doesn't become clean, faults are only added, and only a fault shuts the
-- connection.
pub record ConnectionLasts (old new : Sql) : Type 0 where
  pub clean : doubt old.is_clean ≤ doubt new.is_clean
  pub counts : old.faults ≤ new.faults
  pub closes : HasCleanDisk new → IsTrue old.is_open
      → IsTrue new.is_open ⊎ Rose old.faults new.faults

-- If the connection is open, the database is as before, and all of it is committed.
pub record IsSeenUnmoved (old new : Sql) : Type 0 where
  pub was_open : IsTrue new.is_open → IsTrue old.is_open
  pub same : IsTrue new.is_open → new.now ≡ old.now
  pub settled : IsTrue new.is_open → new.now ≡ new.committed

-- The same, if the database had a keeper's tables and all of it was committed.
abbrev pub LeavesStoredTables : Sql → Sql → Type 0
LeavesStoredTables old new = (IsTrue old.is_open → old.now.schema ≡ two_tables 0 1 2)
    → (IsTrue old.is_open → old.now ≡ old.committed) → IsSeenUnmoved old new
