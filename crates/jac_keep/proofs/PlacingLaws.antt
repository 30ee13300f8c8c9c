-- Rows that replace a record's alternatives: what stays the same, and that the order of two
-- replacements doesn't matter.
use Rattle.std.proofs.Common.{◌≡◌, ◌≢◌, ℕ, ◌<◌, Bool, true, false, ◌&&◌, ◌==◌, nat_lt, List, [], ◌∷◌, ◌++◌, refl, sym, inl, inr, ◌∙◌, ap, append_assoc, append-nil, arith, rules}
use Rattle.std.proofs.lemmas.Bool.{cases_lt}
use Rattle.jac_rows.specs.declared.row.Row.{Row}
use Rattle.jac_keep.specs.Records.{with_id, alternatives, before, behind, placed_rows, AreOf}

-- A test of two lists, one after the other.
pub with_id-append : (test : ℕ → Bool) (xs ys : List Row) → with_id test (xs ++ ys) ≡ with_id test xs ++ with_id test ys
with_id-append test [] ys = refl
with_id-append test (x ∷ xs) ys = grind (arith, with_id-append test xs ys)

-- Two tests, one after the other.
pub with_id-with_id : (p q : ℕ → Bool) (xs : List Row) → with_id p (with_id q xs) ≡ with_id (λ i. q i && p i) xs
with_id-with_id p q [] = refl
with_id-with_id p q (x ∷ xs) = grind (arith, with_id-with_id p q xs)

-- Tests that give the same results.
pub with_id-like : (p q : ℕ → Bool) (xs : List Row) → ((i : ℕ) → p i ≡ q i) → with_id p xs ≡ with_id q xs
with_id-like p q [] h = refl
with_id-like p q (x ∷ xs) h = grind (arith, h x.id, with_id-like p q xs h)

-- A test that nothing passes.
pub with_id-none : (p : ℕ → Bool) (xs : List Row) → ((i : ℕ) → p i ≡ false) → with_id p xs ≡ []
with_id-none p [] h = refl
with_id-none p (x ∷ xs) h = grind (arith, h x.id, with_id-none p xs h)

-- Either all alternatives of a record pass, or none does.
pub with_id-all_of : (p : ℕ → Bool) (id : ℕ) (xs : List Row) → AreOf id xs → p id ≡ true → with_id p xs ≡ xs
with_id-all_of p id [] h e = refl
with_id-all_of p id (x ∷ xs) h e = grind (arith, h.0, with_id-all_of p id xs h.1 e)

pub with_id-none_of : (p : ℕ → Bool) (id : ℕ) (xs : List Row) → AreOf id xs → p id ≡ false → with_id p xs ≡ []
with_id-none_of p id [] h e = refl
with_id-none_of p id (x ∷ xs) h e = grind (arith, h.0, with_id-none_of p id xs h.1 e)

-- The rows that pass a test, after rows are replaced.
pub with_id-placed : (test : ℕ → Bool) (id : ℕ) (new rows : List Row) → with_id test (placed_rows id new rows) ≡ with_id test (before id rows) ++ with_id test new ++ with_id test (behind id rows)
with_id-placed test id new rows =
    with_id-append test (before id rows ++ new) (behind id rows)
    ∙ ap (λ xs. xs ++ with_id test (behind id rows)) (with_id-append test (before id rows) new)

-- The tests for lesser and greater ids, at two ids.
below_below : (a b : ℕ) → a < b → (i : ℕ) → (nat_lt i b && nat_lt i a) ≡ nat_lt i a
below_below a b h i = grind arith

below_above : (a b : ℕ) → a < b → (i : ℕ) → (nat_lt i a && nat_lt i b) ≡ nat_lt i a
below_above a b h i = grind arith

above_below : (a b : ℕ) → a < b → (i : ℕ) → (nat_lt b i && nat_lt i a) ≡ false
above_below a b h i = grind arith

below_and_above : (a b : ℕ) → a < b → (i : ℕ) → (nat_lt i a && nat_lt b i) ≡ false
below_and_above a b h i = grind arith

above_above_less : (a b : ℕ) → a < b → (i : ℕ) → (nat_lt a i && nat_lt b i) ≡ nat_lt b i
above_above_less a b h i = grind arith

pub and-turned : (p q : Bool) → (p && q) ≡ (q && p)
and-turned p q = grind arith

above_above : (a b : ℕ) → a < b → (i : ℕ) → (nat_lt b i && nat_lt a i) ≡ nat_lt b i
above_above a b h i = grind arith

-- The rows between two ids. The two tests may be made in either order.
between : (a b : ℕ) (rows : List Row) → with_id (λ i. nat_lt a i) (with_id (λ i. nat_lt i b) rows) ≡ with_id (λ i. nat_lt i b) (with_id (λ i. nat_lt a i) rows)
between a b rows =
    with_id-with_id (λ i. nat_lt a i) (λ i. nat_lt i b) rows
    ∙ with_id-like (λ i. nat_lt i b && nat_lt a i) (λ i. nat_lt a i && nat_lt i b) rows (λ i. and-turned (nat_lt i b) (nat_lt a i))
    ∙ sym (with_id-with_id (λ i. nat_lt i b) (λ i. nat_lt a i) rows)

before-before : (a b : ℕ) (rows : List Row) → a < b → before a (before b rows) ≡ before a rows
before-before a b rows h = with_id-with_id (λ i. nat_lt i a) (λ i. nat_lt i b) rows ∙ with_id-like (λ i. nat_lt i b && nat_lt i a) (λ i. nat_lt i a) rows (below_below a b h)

before-before_less : (a b : ℕ) (rows : List Row) → a < b → before b (before a rows) ≡ before a rows
before-before_less a b rows h = with_id-with_id (λ i. nat_lt i b) (λ i. nat_lt i a) rows ∙ with_id-like (λ i. nat_lt i a && nat_lt i b) (λ i. nat_lt i a) rows (below_above a b h)

before-behind : (a b : ℕ) (rows : List Row) → a < b → before a (behind b rows) ≡ []
before-behind a b rows h = with_id-with_id (λ i. nat_lt i a) (λ i. nat_lt b i) rows ∙ with_id-none (λ i. nat_lt b i && nat_lt i a) rows (above_below a b h)

behind-before : (a b : ℕ) (rows : List Row) → a < b → behind b (before a rows) ≡ []
behind-before a b rows h = with_id-with_id (λ i. nat_lt b i) (λ i. nat_lt i a) rows ∙ with_id-none (λ i. nat_lt i a && nat_lt b i) rows (below_and_above a b h)

behind-behind : (a b : ℕ) (rows : List Row) → a < b → behind a (behind b rows) ≡ behind b rows
behind-behind a b rows h = with_id-with_id (λ i. nat_lt a i) (λ i. nat_lt b i) rows ∙ with_id-like (λ i. nat_lt b i && nat_lt a i) (λ i. nat_lt b i) rows (above_above a b h)

behind-behind_less : (a b : ℕ) (rows : List Row) → a < b → behind b (behind a rows) ≡ behind b rows
behind-behind_less a b rows h = with_id-with_id (λ i. nat_lt b i) (λ i. nat_lt a i) rows ∙ with_id-like (λ i. nat_lt a i && nat_lt b i) (λ i. nat_lt b i) rows (above_above_less a b h)

-- The rows before and after a record, after another record's rows are replaced.
before-placed_less : (a b : ℕ) (y rows : List Row) → a < b → AreOf b y → before a (placed_rows b y rows) ≡ before a rows
before-placed_less a b y rows h own =
    let none : with_id (λ i. nat_lt i a) y ≡ [] = with_id-none_of (λ i. nat_lt i a) b y own (search rules) in
    with_id-placed (λ i. nat_lt i a) b y rows
    ∙ rw (before-before a b rows h, none, before-behind a b rows h) (append-nil (before a rows ++ []) ∙ append-nil (before a rows))

behind-placed_less : (a b : ℕ) (y rows : List Row) → a < b → AreOf b y → behind a (placed_rows b y rows) ≡ with_id (λ i. nat_lt a i) (before b rows) ++ y ++ behind b rows
behind-placed_less a b y rows h own =
    let all : with_id (λ i. nat_lt a i) y ≡ y = with_id-all_of (λ i. nat_lt a i) b y own (search rules) in
    with_id-placed (λ i. nat_lt a i) b y rows ∙ rw (all, behind-behind a b rows h) refl

before-placed_more : (a b : ℕ) (x rows : List Row) → a < b → AreOf a x → before b (placed_rows a x rows) ≡ before a rows ++ x ++ with_id (λ i. nat_lt i b) (behind a rows)
before-placed_more a b x rows h own =
    let all : with_id (λ i. nat_lt i b) x ≡ x = with_id-all_of (λ i. nat_lt i b) a x own (search rules) in
    with_id-placed (λ i. nat_lt i b) a x rows ∙ rw (all, before-before_less a b rows h) refl

behind-placed_more : (a b : ℕ) (x rows : List Row) → a < b → AreOf a x → behind b (placed_rows a x rows) ≡ behind b rows
behind-placed_more a b x rows h own =
    let none : with_id (λ i. nat_lt b i) x ≡ [] = with_id-none_of (λ i. nat_lt b i) a x own (search rules) in
    with_id-placed (λ i. nat_lt b i) a x rows
    ∙ rw (behind-before a b rows h, none, behind-behind_less a b rows h) refl

-- Five lists, joined in either of two groupings.
regrouped : (p x m y q : List Row) → p ++ x ++ (m ++ y ++ q) ≡ p ++ x ++ m ++ y ++ q
regrouped p x m y q = search (rules, append_assoc)

-- The rows of two records may be replaced in either order, if the first id is less.
pub placed-placed_less : (a b : ℕ) (x y rows : List Row) → a < b → AreOf a x → AreOf b y → placed_rows a x (placed_rows b y rows) ≡ placed_rows b y (placed_rows a x rows)
placed-placed_less a b x y rows h own_x own_y =
    rw (before-placed_less a b y rows h own_y, behind-placed_less a b y rows h own_y, before-placed_more a b x rows h own_x, behind-placed_more a b x rows h own_x, between a b rows)
    (regrouped (before a rows) x (with_id (λ i. nat_lt i b) (behind a rows)) y (behind b rows))

-- The rows of two different records may be replaced in either order.
pub placed-placed : (a b : ℕ) (x y rows : List Row) → a ≢ b → AreOf a x → AreOf b y → placed_rows a x (placed_rows b y rows) ≡ placed_rows b y (placed_rows a x rows)
placed-placed a b x y rows other own_x own_y =
    elim (cases_lt a b) [
      | inl less ↦ placed-placed_less a b x y rows less own_x own_y
      | inr not_less ↦ sym (placed-placed_less b a y x rows (omega (arith, other, not_less)) own_y own_x)
    ]

twice : (p : Bool) → (p && p) ≡ p
twice p = grind arith

same_below : (id i : ℕ) → (nat_lt i id && (i == id)) ≡ false
same_below id i = grind arith

same_above : (id i : ℕ) → (nat_lt id i && (i == id)) ≡ false
same_above id i = grind arith

above_and_below : (id i : ℕ) → (nat_lt id i && nat_lt i id) ≡ false
above_and_below id i = grind arith

below_and_above_same : (id i : ℕ) → (nat_lt i id && nat_lt id i) ≡ false
below_and_above_same id i = grind arith

not_below : (id : ℕ) → nat_lt id id ≡ false
not_below id = grind arith

pub itself : (id : ℕ) → (id == id) ≡ true
itself id = grind arith

before-placed_same : (id : ℕ) (old rows : List Row) → AreOf id old → before id (placed_rows id old rows) ≡ before id rows
before-placed_same id old rows own =
    let low : before id (before id rows) ≡ before id rows =
    with_id-with_id (λ i. nat_lt i id) (λ i. nat_lt i id) rows ∙ with_id-like (λ i. nat_lt i id && nat_lt i id) (λ i. nat_lt i id) rows (λ i. twice (nat_lt i id)) in
    let middle : before id old ≡ [] = with_id-none_of (λ i. nat_lt i id) id old own (not_below id) in
    let high : before id (behind id rows) ≡ [] =
    with_id-with_id (λ i. nat_lt i id) (λ i. nat_lt id i) rows ∙ with_id-none (λ i. nat_lt id i && nat_lt i id) rows (above_and_below id) in
    with_id-placed (λ i. nat_lt i id) id old rows ∙ rw (low, middle, high) (append-nil (before id rows ++ []) ∙ append-nil (before id rows))

behind-placed_same : (id : ℕ) (old rows : List Row) → AreOf id old → behind id (placed_rows id old rows) ≡ behind id rows
behind-placed_same id old rows own =
    let low : behind id (before id rows) ≡ [] =
    with_id-with_id (λ i. nat_lt id i) (λ i. nat_lt i id) rows ∙ with_id-none (λ i. nat_lt i id && nat_lt id i) rows (below_and_above_same id) in
    let middle : behind id old ≡ [] = with_id-none_of (λ i. nat_lt id i) id old own (not_below id) in
    let high : behind id (behind id rows) ≡ behind id rows =
    with_id-with_id (λ i. nat_lt id i) (λ i. nat_lt id i) rows ∙ with_id-like (λ i. nat_lt id i && nat_lt id i) (λ i. nat_lt id i) rows (λ i. twice (nat_lt id i)) in
    with_id-placed (λ i. nat_lt id i) id old rows ∙ rw (low, middle, high) refl

-- Of two replacements for one record, the last one counts.
pub placed-again : (id : ℕ) (new old rows : List Row) → AreOf id old → placed_rows id new (placed_rows id old rows) ≡ placed_rows id new rows
placed-again id new old rows own = rw (before-placed_same id old rows own, behind-placed_same id old rows own) refl

-- The alternatives of a record after its rows are replaced, and those of another record.
pub alternatives-placed_same : (id : ℕ) (new rows : List Row) → AreOf id new → alternatives id (placed_rows id new rows) ≡ new
alternatives-placed_same id new rows own =
    let low : alternatives id (before id rows) ≡ [] =
    with_id-with_id (λ i. i == id) (λ i. nat_lt i id) rows ∙ with_id-none (λ i. nat_lt i id && (i == id)) rows (same_below id) in
    let middle : alternatives id new ≡ new = with_id-all_of (λ i. i == id) id new own (itself id) in
    let high : alternatives id (behind id rows) ≡ [] =
    with_id-with_id (λ i. i == id) (λ i. nat_lt id i) rows ∙ with_id-none (λ i. nat_lt id i && (i == id)) rows (same_above id) in
    with_id-placed (λ i. i == id) id new rows ∙ rw (low, middle, high) (append-nil new)

alternatives-placed_less : (id other : ℕ) (new rows : List Row) → other < id → AreOf other new → alternatives id (placed_rows other new rows) ≡ alternatives id rows
alternatives-placed_less id other new rows less own =
    let low : alternatives id (before other rows) ≡ [] =
    with_id-with_id (λ i. i == id) (λ i. nat_lt i other) rows ∙ with_id-none (λ i. nat_lt i other && (i == id)) rows (λ i. grind (arith, less)) in
    let middle : alternatives id new ≡ [] = with_id-none_of (λ i. i == id) other new own (grind (arith, less)) in
    let high : alternatives id (behind other rows) ≡ alternatives id rows =
    with_id-with_id (λ i. i == id) (λ i. nat_lt other i) rows ∙ with_id-like (λ i. nat_lt other i && (i == id)) (λ i. i == id) rows (λ i. grind (arith, less)) in
    with_id-placed (λ i. i == id) other new rows ∙ rw (low, middle, high) refl

alternatives-placed_more : (id other : ℕ) (new rows : List Row) → id < other → AreOf other new → alternatives id (placed_rows other new rows) ≡ alternatives id rows
alternatives-placed_more id other new rows more own =
    let low : alternatives id (before other rows) ≡ alternatives id rows =
    with_id-with_id (λ i. i == id) (λ i. nat_lt i other) rows ∙ with_id-like (λ i. nat_lt i other && (i == id)) (λ i. i == id) rows (λ i. grind (arith, more)) in
    let middle : alternatives id new ≡ [] = with_id-none_of (λ i. i == id) other new own (grind (arith, more)) in
    let high : alternatives id (behind other rows) ≡ [] =
    with_id-with_id (λ i. i == id) (λ i. nat_lt other i) rows ∙ with_id-none (λ i. nat_lt other i && (i == id)) rows (λ i. grind (arith, more)) in
    with_id-placed (λ i. i == id) other new rows ∙ rw (low, middle, high) (append-nil (alternatives id rows ++ []) ∙ append-nil (alternatives id rows))

pub alternatives-placed_other : (id other : ℕ) (new rows : List Row) → other ≢ id → AreOf other new → alternatives id (placed_rows other new rows) ≡ alternatives id rows
alternatives-placed_other id other new rows differ own =
    elim (cases_lt other id) [
      | inl less ↦ alternatives-placed_less id other new rows less own
      | inr not_less ↦ alternatives-placed_more id other new rows (omega (arith, differ, not_less)) own
    ]
