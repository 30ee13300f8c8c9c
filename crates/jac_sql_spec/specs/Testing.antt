-- What is tested of a store that an earlier run made, and what the test shows.
use Rattle.std.specs.Prelude.{◌≡◌, ◌<◌, ◌<ℤ◌, ◌⊎◌, ⊤, ℕ, ℤ, pos, Bool, List, [], ◌∷◌, ◌++◌, Option, Some, None, map, length}
use Rattle.std.specs.List.{AllByRecursion}
use Rattle.std.specs.List.Sorted.{IsPermutation}
use Rattle.sqlite_trees.specs.declared.store.Store.{Ghosts}
use Rattle.sqlite_value.specs.Order.{Row as Values, column}
use Rattle.sqlite_value.specs.declared.value.Value.TheVariants.{Int, Blob}
use Rattle.sqlite.specs.State.{Shown}
use Rattle.sqlite.specs.Held.{Held, state}
use Rattle.jac_world.specs.World.{IsApart}
use Rattle.jac_rows.specs.Good.{ModelShape, IsRecord, AreGuarded}
use Rattle.jac_rows.specs.declared.row.Row.{Row}
use Rattle.jac_row_codec.specs.Spelling.{guard_bytes, cells_bytes}
use Rattle.jac_sql_spec.specs.Facts.{Fact, id_bytes, fact_of, facts}
use Rattle.jac_sql_spec.specs.Founding.{IsNumberAsked}
use Rattle.jac_sql_spec.specs.Spelled.{IsSpelled}
use Rattle.jac_sql_spec.specs.Statements.{key_reading, all_reading}
use Rattle.jac_sql_spec.specs.Told.{natural_in, bytes_in_value, AreSpelled}

-- The fact in a row that the query for all rows shows.
abbrev pub fact_shown : Values → Fact
fact_shown v = record {
  model = natural_in (column v 0);
  jid = bytes_in_value (column v 1);
  alt = natural_in (column v 2);
  jvars = bytes_in_value (column v 3);
  body = bytes_in_value (column v 4);
}

-- A row that the query for all rows shows has this fact.
pub record IsLineShown (v : Values) (f : Fact) : Type 0 where
  pub model : column v 0 ≡ Int (pos f.model)
  pub jid : column v 1 ≡ Blob f.jid
  pub alt : column v 2 ≡ Int (pos f.alt)
  pub jvars : column v 3 ≡ Blob f.jvars
  pub body : column v 4 ≡ Blob f.body

-- ---- keys and rowids

-- There is one row, and its key is 0.
pub record IsOneKey (found : List Values) : Type 0 where
  pub only : Values
  pub one : found ≡ only ∷ []
  pub key : column only 0 ≡ Int (pos 0)

abbrev pub IsAbove : Option ℤ → ℤ → Type 0
IsAbove None at = ⊤
IsAbove (Some last) at = last <ℤ at

-- The numbers rise, and the first is greater than `last`, if there is one.
abbrev pub AreAbove : Option ℤ → List ℤ → Type 0
AreAbove last [] = ⊤
AreAbove last (at ∷ more) = IsAbove last at × AreAbove (Some at) more

-- Each row shows a rowid, and no rowid comes twice: some order of them rises.
pub record AreRowidsApart (found : List Values) : Type 0 where
  pub rowids : List ℤ
  pub shown : map (λ v. column v 5) found ≡ map Int rowids
  pub rising : List ℤ
  pub moved : IsPermutation rowids rising
  pub are : AreAbove None rising

-- ---- rows

-- From the record of the last row, with the guards of its alternatives so far, to the record of the
-- next row, with the guards of its alternatives before that row. It is the same record, or it comes
-- after all records that were read.
abbrev pub MovesOn : ℕ → ℕ → List (List (ℕ × Bool)) → ℕ → ℕ → List (List (ℕ × Bool)) → Type 0
MovesOn model id guards next_model next_id before =
    ((model ≡ next_model) × (id ≡ next_id) × (before ≡ guards))
    ⊎ ((before ≡ []) × ((model < next_model) ⊎ ((model ≡ next_model) × (id < next_id))))

-- The row is the next alternative of a record of such a store. The guards of the record's
-- alternatives are `before` without this one and `guards` with it.
pub record IsNextLine (shapes : List ModelShape) (number model id : ℕ)
    (before guards : List (List (ℕ × Bool))) (v : Values) : Type 0 where
  pub row : Row
  pub same_id : row.id ≡ id
  pub shown : IsLineShown v (fact_of model (length before) row)
  pub is_record : IsRecord shapes model number row.id row.cells
  pub spelled : IsSpelled row
  pub apart : AllByRecursion (λ g. IsApart g row.guard) before
  pub guards_are : guards ≡ before ++ row.guard ∷ []

-- A row of a model. Nothing is said of the alternative's number.
pub record IsStoredRow (shapes : List ModelShape) (number model : ℕ) (v : Values) (row : Row) : Type
    0 where
  pub jid : column v 1 ≡ Blob (id_bytes row.id)
  pub jvars : column v 3 ≡ Blob (guard_bytes row.guard)
  pub body : column v 4 ≡ Blob (cells_bytes row.cells)
  pub is_record : IsRecord shapes model number row.id row.cells
  pub spelled : IsSpelled row

-- This row is read after the others.
pub record ReadsOn (shapes : List ModelShape) (number model id : ℕ)
    (guards : List (List (ℕ × Bool))) (v : Values) (next_model next_id : ℕ)
    (next_guards : List (List (ℕ × Bool))) : Type 0 where
  pub before : List (List (ℕ × Bool))
  pub moved : MovesOn model id guards next_model next_id before
  pub line : IsNextLine shapes number next_model next_id before next_guards v

-- The rows are those of tables of these shapes.
pub record AreLinesOf (shapes : List ModelShape) (number : ℕ) (found : List Values) : Type 0 where
  pub tables : List (List Row)
  pub long : length tables ≡ length shapes
  pub good : AreGuarded shapes number 0 tables
  pub spelled : AreSpelled tables
  pub read : facts tables ≡ map fact_shown found
  pub lines : AllByRecursion (λ v. IsLineShown v (fact_shown v)) found

-- ---- what the queries showed

pub record ShowsKey {S : Type 0} (g : Ghosts S) (old new : Held S) : Type 0 where
  pub found : List Values
  pub shown : Shown key_reading [] (state g old) (state g new) found
  pub is : IsOneKey found

pub record ShowsLines {S : Type 0} (g : Ghosts S) (shapes : List ModelShape) (number : ℕ)
    (old new : Held S) : Type 0 where
  pub found : List Values
  pub shown : Shown all_reading [] (state g old) (state g new) found
  pub rowids : AreRowidsApart found
  pub are : AreLinesOf shapes number found

-- The number was read first, and then the rows, which are those of tables of these shapes.
pub record ShowsStored {S : Type 0} (g : Ghosts S) (shapes : List ModelShape) (old new : Held S) :
    Type 0 where
  pub number : ℕ
  pub first : Held S
  pub asked : IsNumberAsked g old first number
  pub lines : ShowsLines g shapes number first new
