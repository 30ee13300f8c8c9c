-- The state that is read from a database, as a total function of it.
use Rattle.std.specs.Prelude.{◌≡◌, ℕ, zero, suc, ◌+◌, ℤ, pos, negsuc, ⊤, List, [], ◌∷◌, map, filter, length, slice_index_or}
use Rattle.std.specs.List.{AllByRecursion}
use Rattle.sqlite_value.specs.Order.{Row as Values, column}
use Rattle.sqlite_value.specs.declared.value.Value.{Value}
use Rattle.sqlite_value.specs.declared.value.Value.TheVariants.{Null, Int, Real, Text, Blob}
use Rattle.sqlite.specs.Effect.{Database}
use Rattle.sqlite_keyed.specs.Lists.{sort_by}
use Rattle.jac_rows.specs.declared.row.Row.{Row}
use Rattle.jac_rows.specs.declared.state.State.{State}
use Rattle.jac_sql_spec.specs.Facts.{Fact, fact_cmp, is_fact_in}
use Rattle.jac_sql_spec.specs.Spelled.{number_in, guard_in, cells_in, IsSpelled}

abbrev pub natural_in : Value → ℕ
natural_in (Int (pos n)) = n
natural_in (Int (negsuc n)) = 0
natural_in Null = 0
natural_in (Real x) = 0
natural_in (Text t) = 0
natural_in (Blob b) = 0

abbrev pub bytes_in_value : Value → List ℕ
bytes_in_value (Blob b) = b
bytes_in_value Null = []
bytes_in_value (Int n) = []
bytes_in_value (Real x) = []
bytes_in_value (Text t) = []

abbrev pub chars_in : Value → List ℕ
chars_in (Text t) = t
chars_in Null = []
chars_in (Int n) = []
chars_in (Real x) = []
chars_in (Blob b) = []

-- The fact of a row of `rec`.
abbrev pub fact_in : Values → Fact
fact_in r = record {
  model = natural_in (column r 1);
  jid = bytes_in_value (column r 2);
  alt = natural_in (column r 3);
  jvars = bytes_in_value (column r 4);
  body = bytes_in_value (column r 5);
}

abbrev pub row_in : Fact → Row
row_in f = record { id = number_in f.jid; guard = guard_in f.jvars; cells = cells_in f.body }

-- The tables of `n` models, from `first` on.
abbrev pub tables_in : ℕ → ℕ → List Fact → List (List Row)
tables_in first zero all = []
tables_in first (suc n) all = map row_in (filter (is_fact_in first) all) ∷ tables_in (first + 1) n
    all

abbrev pub told : ℕ → Database → State
told models db = record {
  tables = tables_in 0 models (sort_by fact_cmp (map fact_in (db.trees 1)));
  number = natural_in (column (slice_index_or (db.trees 0) 0 []) 2);
}

-- The schema text in the first row of `meta`.
abbrev pub schema_in : Database → List ℕ
schema_in db = chars_in (column (slice_index_or (db.trees 0) 0 []) 3)

abbrev pub AreSpelled : List (List Row) → Type 0
AreSpelled [] = ⊤
AreSpelled (t ∷ ts) = AllByRecursion IsSpelled t × AreSpelled ts
