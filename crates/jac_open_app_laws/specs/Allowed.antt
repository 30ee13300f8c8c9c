-- The labels that are allowed in a plain state, as a list.
use Rattle.std.specs.Prelude.{ℕ, zero, suc, ◌==◌, nat_lt, Bool, if◌then◌else◌, List, [], ◌∷◌, ◌++◌, Option}
use Rattle.jac_world.specs.World.{with_number}
use Rattle.jac_value.specs.Ids.{label_of, labels_below}
use Rattle.jac_lang.specs.Syntax.{Application}
use Rattle.jac_rows.specs.declared.plain.PlainRow.{PlainRow}
use Rattle.jac_rows.specs.declared.plain.PlainState.{PlainState}
use Rattle.jac_plain.specs.Policies.{is_allowed}

-- The numbers that pass the test, in rising order, each once.
abbrev pub passing_numbers : (ℕ → Bool) → List ℕ → List ℕ
passing_numbers test [] = []
passing_numbers test (k ∷ ks) = if test k then with_number k (passing_numbers test ks)
    else passing_numbers test ks

-- The labels that these records can have. Their models have at most eight groups.
abbrev pub labels_of_records : List PlainRow → List ℕ
labels_of_records [] = []
labels_of_records (r ∷ rows) = labels_below r.id 8 ++ labels_of_records rows

-- The labels that the records of all tables can have.
abbrev pub labels_of_tables : List (List PlainRow) → List ℕ
labels_of_tables [] = []
labels_of_tables (rows ∷ tables) = labels_of_records rows ++ labels_of_tables tables

-- The labels that are allowed in the state, in rising order.
abbrev pub allowed_labels : Application → PlainState → Option ℕ → List ℕ
allowed_labels app t viewer = passing_numbers (is_allowed app t viewer) (labels_of_tables t.tables)
