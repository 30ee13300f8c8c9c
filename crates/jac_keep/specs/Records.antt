-- The rows of a table, by the ids of their records.
use Rattle.std.specs.Prelude.{◌≡◌, ◌≤◌, ℕ, Bool, true, false, ◌==◌, nat_lt, if◌then◌else◌, List, [], ◌∷◌, ◌++◌, ⊤}
use Rattle.std.specs.List.{AllByRecursion}
use Rattle.jac_rows.specs.declared.row.Row.{Row}

-- The rows with ids that pass the test, in their order.
abbrev pub with_id : (ℕ → Bool) → List Row → List Row
with_id test [] = []
with_id test (r ∷ rs) = if test r.id then r ∷ with_id test rs else with_id test rs

-- The alternatives of a record.
abbrev pub alternatives : ℕ → List Row → List Row
alternatives id rows = with_id (λ i. i == id) rows

-- The rows with lesser ids, and those with greater ids.
abbrev pub before : ℕ → List Row → List Row
before id rows = with_id (λ i. nat_lt i id) rows

abbrev pub behind : ℕ → List Row → List Row
behind id rows = with_id (λ i. nat_lt id i) rows

-- The rows after the new ones replace the record's alternatives.
abbrev pub placed_rows : ℕ → List Row → List Row → List Row
placed_rows id new rows = before id rows ++ new ++ behind id rows

-- Each of the rows is an alternative of the record.
abbrev pub AreOf : ℕ → List Row → Type 0
AreOf id [] = ⊤
AreOf id (r ∷ rs) = (r.id ≡ id) × AreOf id rs

-- The ids don't fall.
abbrev pub AreOrdered : List Row → Type 0
AreOrdered [] = ⊤
AreOrdered (r ∷ rs) = AllByRecursion (λ (x : Row). r.id ≤ x.id) rs × AreOrdered rs

-- Whether the first id is at least the number, and the ids don't fall.
abbrev pub are_in_order : ℕ → List Row → Bool
are_in_order least [] = true
are_in_order least (r ∷ rs) = if nat_lt r.id least then false else are_in_order r.id rs
