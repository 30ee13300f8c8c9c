-- What the added alternatives show.
use Rattle.std.proofs.Common.{◌≡◌, ◌∙◌, refl, ap, arith, ℕ, ◌+◌, ◌&&◌, not, Bool, true, false, if◌then◌else◌, List, [], ◌∷◌, ◌++◌}
use Rattle.jac_value.specs.declared.value.Value.{Value}
use Rattle.jac_world.specs.World.{holds, holding, both}
use Rattle.jac_rows.specs.declared.row.Row.{Row}
use Rattle.jac_write.specs.Writes.{cells_at, each_holding}

append_if : (b : Bool) (c : List Value) (xs ys zs : List (List Value)) → zs ≡ xs ++ ys → (if b then c ∷ zs else zs) ≡ (if b then c ∷ xs else xs) ++ ys
append_if true c xs ys zs e = ap (λ l. c ∷ l) e
append_if false c xs ys zs e = e

pub cells_append : (w : ℕ → Bool) (rs us : List Row) → cells_at w (rs ++ us) ≡ cells_at w rs ++ cells_at w us
cells_append w [] us = refl
cells_append w (r ∷ rs) us = append_if (holds w r.guard) r.cells (cells_at w rs) (cells_at w us) (cells_at w (rs ++ us)) (cells_append w rs us)

pub cells_pushed : (w : ℕ → Bool) (rs : List Row) (r : Row) → cells_at w (rs ++ r ∷ []) ≡ cells_at w rs ++ (if holds w r.guard then r.cells ∷ [] else [])
cells_pushed w rs r = cells_append w rs (r ∷ [])

none_if : (a : Bool) (n : ℕ) (c : List Value) (cs : List (List Value)) → (if a then 1 else 0) + n ≡ 0 → (n ≡ 0 → cs ≡ []) → (if a then c ∷ [] else []) ++ cs ≡ []
none_if true n c cs e h = absurd (omega arith)
none_if false n c cs e h = h (omega arith)

none : (w : ℕ → Bool) (gs : List (List (ℕ × Bool))) (c : List Value) → holding w gs ≡ 0 → each_holding w gs c ≡ []
none w [] c e = refl
none w (g ∷ gs) c e = none_if (holds w g) (holding w gs) c (each_holding w gs c) e (none w gs c)

one_if : (a : Bool) (n : ℕ) (c : List Value) (cs : List (List Value)) → (if a then 1 else 0) + n ≡ 1 → (n ≡ 0 → cs ≡ []) → (n ≡ 1 → cs ≡ c ∷ []) → (if a then c ∷ [] else []) ++ cs ≡ c ∷ []
one_if true n c cs e h k = ap (λ l. c ∷ l) (h (omega arith))
one_if false n c cs e h k = k (omega arith)

one : (w : ℕ → Bool) (gs : List (List (ℕ × Bool))) (c : List Value) → holding w gs ≡ 1 → each_holding w gs c ≡ c ∷ []
one w [] c e = absurd (omega arith)
one w (g ∷ gs) c e = one_if (holds w g) (holding w gs) c (each_holding w gs c) e (none w gs c) (one w gs c)

parted : (w : ℕ → Bool) (gs : List (List (ℕ × Bool))) (c : List Value) (a b : Bool) → holding w gs ≡ (if a && not b then 1 else 0)
    → each_holding w gs c ≡ (if b then [] else (if a then c ∷ [] else []))
parted w gs c true true e = none w gs c e
parted w gs c true false e = one w gs c e
parted w gs c false true e = none w gs c e
parted w gs c false false e = none w gs c e

-- Exactly one of the guards holds if `row` holds and `guard` doesn't. Otherwise none does.
pub each_parted : (w : ℕ → Bool) (gs : List (List (ℕ × Bool))) (c : List Value) (row guard : List (ℕ × Bool)) → holding w gs ≡ (if holds w row && not (holds w guard) then 1 else 0)
    → each_holding w gs c ≡ (if holds w guard then [] else (if holds w row then c ∷ [] else []))
each_parted w gs c row guard e = parted w gs c (holds w row) (holds w guard) e

-- The alternatives where a guard doesn't hold, one row after another.
abbrev pub left_outside : (ℕ → Bool) → List (ℕ × Bool) → List Row → List (List Value)
left_outside w guard [] = []
left_outside w guard (r ∷ rows) = (if holds w guard then [] else cells_at w (r ∷ [])) ++ left_outside w guard rows

empty_if : (b : Bool) → [] ≡ if◌then◌else◌ {A = List (List Value)} b [] []
empty_if true = refl
empty_if false = refl

outside_if : (b a : Bool) (c : List Value) (rest cs : List (List Value)) → rest ≡ (if b then [] else cs)
    → (if b then [] else (if a then c ∷ [] else [])) ++ rest ≡ (if b then [] else (if a then c ∷ cs else cs))
outside_if true a c rest cs e = e
outside_if false true c rest cs e = ap (λ l. c ∷ l) e
outside_if false false c rest cs e = e

pub outside_is : (w : ℕ → Bool) (guard : List (ℕ × Bool)) (rows : List Row) → left_outside w guard rows ≡ (if holds w guard then [] else cells_at w rows)
outside_is w guard [] = empty_if (holds w guard)
outside_is w guard (r ∷ rows) = outside_if (holds w guard) (holds w r.guard) r.cells (left_outside w guard rows) (cells_at w rows) (outside_is w guard rows)

-- Rows one after another.
abbrev pub one_by_one : (ℕ → Bool) → List Row → List (List Value)
one_by_one w [] = []
one_by_one w (r ∷ rows) = (if holds w r.guard then r.cells ∷ [] else []) ++ one_by_one w rows

one_more : (b : Bool) (c : List Value) (cs : List (List Value)) → (if b then c ∷ [] else []) ++ cs ≡ (if b then c ∷ cs else cs)
one_more true c cs = refl
one_more false c cs = refl

pub one_by_one_is : (w : ℕ → Bool) (rows : List Row) → one_by_one w rows ≡ cells_at w rows
one_by_one_is w [] = refl
one_by_one_is w (r ∷ rows) = ap (λ cs. (if holds w r.guard then r.cells ∷ [] else []) ++ cs) (one_by_one_is w rows) ∙ one_more (holds w r.guard) r.cells (cells_at w rows)

-- The alternatives where a guard holds too, one row after another.
abbrev pub left_within : (ℕ → Bool) → List (ℕ × Bool) → List Row → List (List Value)
left_within w guard [] = []
left_within w guard (r ∷ rows) = (if holds w guard then cells_at w (r ∷ []) else []) ++ left_within w guard rows

within_if : (b a : Bool) (c : List Value) (rest cs : List (List Value)) → rest ≡ (if b then cs else [])
    → (if b then (if a then c ∷ [] else []) else []) ++ rest ≡ (if b then (if a then c ∷ cs else cs) else [])
within_if true true c rest cs e = ap (λ l. c ∷ l) e
within_if true false c rest cs e = e
within_if false a c rest cs e = e

pub within_is : (w : ℕ → Bool) (guard : List (ℕ × Bool)) (rows : List Row) → left_within w guard rows ≡ (if holds w guard then cells_at w rows else [])
within_is w guard [] = empty_if (holds w guard)
within_is w guard (r ∷ rows) = within_if (holds w guard) (holds w r.guard) r.cells (left_within w guard rows) (cells_at w rows) (within_is w guard rows)

met_if : (m a b : Bool) (c : List Value) → m ≡ (a && b) → (if m then c ∷ [] else []) ≡ (if b then (if a then c ∷ [] else []) else [])
met_if true true true c e = refl
met_if true true false c e = cc
met_if true false b c e = cc
met_if false true true c e = cc
met_if false a false c e = refl
met_if false false true c e = refl

-- A guard that holds if two others hold, and two guards that never hold together.
pub met : (w : ℕ → Bool) (m g h : List (ℕ × Bool)) (c : List Value) → holds w m ≡ both w g h → (if holds w m then c ∷ [] else []) ≡ (if holds w h then (if holds w g then c ∷ [] else []) else [])
met w m g h c e = met_if (holds w m) (holds w g) (holds w h) c e

unmet_if : (a b : Bool) (c : List Value) → (a && b) ≡ false → (if b then (if a then c ∷ [] else []) else []) ≡ []
unmet_if true true c e = cc
unmet_if true false c e = refl
unmet_if false true c e = refl
unmet_if false false c e = refl

pub unmet : (w : ℕ → Bool) (g h : List (ℕ × Bool)) (c : List Value) → both w g h ≡ false → (if holds w h then (if holds w g then c ∷ [] else []) else []) ≡ []
unmet w g h c e = unmet_if (holds w g) (holds w h) c e
