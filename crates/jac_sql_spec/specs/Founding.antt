-- What the query for the number and the schema finds in a store.
use Rattle.std.specs.Prelude.{◌≡◌, ⊤, ℕ, pos, List, [], Option, Some, None, Result, Ok, Err, IfOk}
use Rattle.sqlite_trees.specs.declared.store.Store.{Ghosts}
use Rattle.sqlite_value.specs.Order.{Row as Values, column}
use Rattle.sqlite_value.specs.declared.value.Value.TheVariants.{Int, Text}
use Rattle.sqlite.specs.declared.error.Error.{Error}
use Rattle.sqlite.specs.State.{QueriesRow}
use Rattle.sqlite.specs.Held.{Held, state}
use Rattle.jac_rows.specs.Good.{IsNext}
use Rattle.jac_sql_spec.specs.Statements.{reading}

-- The row's first column has this number, which can be the next number of a request.
pub record HasNumber (row : Values) (number : ℕ) : Type 0 where
  pub stored : column row 0 ≡ Int (pos number)
  pub in_range : IsNext number

-- What such a row says: it has this schema and a number, or it has another schema.
abbrev pub Tells : List ℕ → Values → Result (Option (List ℕ)) Error → Type 0
Tells schema row (Ok None) = (column row 1 ≡ Text schema) × ((number : ℕ) × HasNumber row number)
Tells schema row (Ok (Some other)) = (column row 1 ≡ Text other) × ¬ (other ≡ schema)
Tells schema row (Err e) = ⊤

-- If a row was found and the result isn't an error, the result is the number of the row. If no row
-- was found, the result is the same error.
abbrev pub IsFrom : Result Values Error → Result ℕ Error → Type 0
IsFrom (Ok row) r = IfOk r (HasNumber row)
IsFrom (Err e) r = r ≡ Err e

-- Only the query for the number ran, and its row has this number.
pub record IsNumberAsked {S : Type 0} (g : Ghosts S) (old new : Held S) (number : ℕ) : Type 0 where
  pub row : Values
  pub asked : QueriesRow reading [] (state g old) (state g new) (Ok row)
  pub has : HasNumber row number

-- Only the query for the number and the schema ran, and the result is what its row says.
pub record Finds {S : Type 0} (g : Ghosts S) (schema : List ℕ) (old new : Held S)
    (result : Result (Option (List ℕ)) Error) : Type 0 where
  pub row : Values
  pub asked : QueriesRow reading [] (state g old) (state g new) (Ok row)
  pub tells : Tells schema row result

-- Only the query for the number and the schema ran.
pub record Asks {S : Type 0} (g : Ghosts S) (old new : Held S) : Type 0 where
  pub answer : Result Values Error
  pub asked : QueriesRow reading [] (state g old) (state g new) answer

-- What looking for the schema leaves. If it succeeds, the result is what the row of meta says. In
-- both cases only the query ran.
abbrev pub FindsSchema : {S : Type 0} → Ghosts S → List ℕ → Held S → Held S
    → Result (Option (List ℕ)) Error → Type 0
FindsSchema g schema old new (Ok found) = Finds g schema old new (Ok found)
FindsSchema g schema old new (Err e) = Asks g old new
