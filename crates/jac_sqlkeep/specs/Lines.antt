-- The rows of a store that is tested, one after another as a query shows them.
use Rattle.std.specs.Prelude.{◌≡◌, ℕ, ℤ, Bool, List, None, map}
use Rattle.std.specs.List.Sorted.{IsPermutation}
use Rattle.sqlite_value.specs.Order.{Row as Values, column}
use Rattle.sqlite_value.specs.declared.value.Value.TheVariants.{Int}
use Rattle.jac_rows.specs.Good.{ModelShape}
use Rattle.jac_sql_spec.specs.Testing.{AreAbove, AreLinesOf}
use Rattle.jac_sqlkeep.specs.Alternatives.{AreTaken, ReadsOnWith}

-- No rowid occurs twice: after sorting they rise strictly.
pub record NoneComesTwice (rowids : List ℤ) : Type 0 where
  pub rising : List ℤ
  pub moved : IsPermutation rowids rising
  pub are : AreAbove None rising

-- The rows are those of tables of these shapes, and have these rowids.
pub record AreLinesRead (shapes : List ModelShape) (number : ℕ) (found : List Values)
    (rowids : List ℤ) : Type 0 where
  pub shown : map (λ v. column v 5) found ≡ map Int rowids
  pub are : AreLinesOf shapes number found

-- A row is read after the others, with what is kept of the alternatives up to it, and it has this
-- rowid.
pub record ReadsLine (shapes : List ModelShape) (number model id : ℕ)
    (guards : List (List (ℕ × Bool))) (in_order : Bool) (v : Values) (next_model next_id : ℕ)
    (next_guards : List (List (ℕ × Bool))) (next_in_order : Bool) (rowid : ℤ) : Type 0 where
  pub shown : column v 5 ≡ Int rowid
  pub on : (all : List (List (ℕ × Bool))) → AreTaken all guards in_order
      → ReadsOnWith shapes number model id all v next_model next_id next_guards next_in_order
