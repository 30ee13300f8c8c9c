-- Rows that a database shows one at a time, and what is left if reading stops at any row.
use Rattle.std.specs.Prelude.{◌≡◌, ◌⊎◌, ℕ, List, [], ◌++◌, Option, Some, None, Result, Ok, Err, IsTrue, IfOk}
use Rattle.sqlite_value.specs.Order.{Row as Values}
use Rattle.sqlite_trees.specs.declared.store.Store.{Ghosts}
use Rattle.sqlite.specs.Given.{HasGiven, Advances, HandsOn, IsPlain}
use Rattle.sqlite.specs.Held.{Held, state}
use Rattle.sqlite.specs.Listing.{understood}
use Rattle.sqlite.specs.State.{State as Sql, HasCleanDisk, IsUnchanged, IsRolledBack, Shown}
use Rattle.sqlite.specs.Stream.{returned, HasEnded}
use Rattle.jac_sql_spec.specs.Lasting.{ConnectionLasts}
use Rattle.jac_sql_spec.specs.Statements.{SqlStatement}
use Rattle.jac_sql_spec.specs.Tables.{two_tables}

-- The query moved on to this row, or past the last one.
pub record MovesTo {S : Type 0} (g : Ghosts S) (old new : Held S) (row : Option Values) : Type 0
  where
    pub advances : Advances g old new row
    pub hands : HandsOn old new row
    pub same : IsUnchanged (state g old) (state g new)

-- If the call succeeded, the query moved on and the call gave what was made of the row, or the
-- query moved past the last row. If it failed, nothing was changed, or the transaction was rolled
-- back.
abbrev pub StepsTo : {S T E : Type 0} (g : Ghosts S) → (Values → T → Type 0) → Held S → Held S
    → Result (Option T) E → Type 0
StepsTo g Is old new (Ok (Some t)) = (v : Values) × MovesTo g old new (Some v) × Is v t
StepsTo g Is old new (Ok None) = MovesTo g old new None
StepsTo g Is old new (Err e) =
    IsUnchanged (state g old) (state g new) ⊎ IsRolledBack (state g old) (state g new)

-- What an SQL text leaves that was stopped at any row.
pub record IsStoppedAs (text : List ℕ) (old new : Sql) : Type 0 where
  pub opens : IsTrue new.is_open → IsTrue old.is_open
  pub stays : old.now.schema ≡ two_tables 0 1 2 → IsPlain (understood (two_tables 0 1 2) text)
      → IsUnchanged old new ⊎ IsRolledBack old new

-- If the call succeeded, it read all that the query shows. If not, the query was stopped.
pub record ReadsThrough {S T E : Type 0} (g : Ghosts S) (question : SqlStatement)
    (Is : List Values → T → Type 0) (old new : Held S) (result : Result T E) : Type 0 where
  pub lasts : ConnectionLasts (state g old) (state g new)
  pub left : HasCleanDisk (state g new) → IsStoppedAs question.text (state g old) (state g new)
  pub shown : HasCleanDisk (state g new)
      → IfOk result (λ t. (found : List Values)
      × Shown question.text question.params (state g old) (state g new) found × Is found t)

module _ {S : Type 0} (g : Ghosts S) (question : SqlStatement) where
  -- The query has shown these rows so far, and there may be more.
  abbrev pub HasShown : Held S → Held S → List Values → Type 0
  HasShown first now given =
      (HasGiven g question.text question.params now given
      × IsUnchanged (state g first) (state g now))
      ⊎ (Shown question.text question.params (state g first) (state g now)
      (given ++ returned now.reading) × HasEnded now.reading)

  -- The rows that were shown so far, and what was made of them.
  pub record ShownTo (P : List Values → Type 0) (first now : Held S) : Type 0 where
    pub given : List Values
    pub shown : HasShown first now given
    pub made : P given

  -- The query is under way.
  pub record Streams (P : List Values → Type 0) (first now : Held S) : Type 0 where
    pub lasts : ConnectionLasts (state g first) (state g now)
    pub shown : HasCleanDisk (state g now) → ShownTo P first now

-- No row was shown so far.
abbrev pub AreNone : List Values → Type 0
AreNone given = given ≡ []
