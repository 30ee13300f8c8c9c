use Rattle.std.proofs.Common.{◌≡◌, ℕ, ◌+◌, ◌<◌, ◌≤◌, Bool, true, false, ◌&&◌, if◌then◌else◌, List, [], ◌∷◌, map, refl, arith}
use Rattle.std.specs.List.{AllByRecursion}
use Rattle.jac_world.specs.World.{holds, IsRisingBy, StartsAboveBy}
use Rattle.jac_rows.specs.Apart.{IsBefore, IsTable}
use Rattle.jac_rows.specs.Project.{rows_at}
use Rattle.jac_rows.specs.Good.{ModelShape, IsRecord, ArePlain, AreGuarded, IsGood, IsGoodByGuards}
use Rattle.jac_rows.specs.declared.row.Row.{Row}
use Rattle.jac_rows.specs.declared.plain.PlainRow.{PlainRow}
use Rattle.jac_rows.specs.declared.state.State.{State}

abbrev id_of_row : Row → ℕ
id_of_row r = r.id

abbrev guard_of_row : Row → List (ℕ × Bool)
guard_of_row r = r.guard

abbrev id_of_plain : PlainRow → ℕ
id_of_plain r = r.id

abbrev shown_row : Row → PlainRow
shown_row r = record { id = r.id; cells = r.cells }

not_same : (a b : Bool) → a ≡ true → b ≡ true → (a && b) ≡ false → ⊥
not_same true b p q r = cc
not_same false b p q r = cc

strictly : (x y : ℕ) → x ≤ y → (x ≡ y → ⊥) → x < y
strictly x y h n = grind arith

starts_if : (w : ℕ → Bool) (x y : Row) (ys : List Row) (b : Bool) → holds w y.guard ≡ b → holds w x.guard ≡ true → IsBefore id_of_row guard_of_row x (y ∷ ys) →
    StartsAboveBy id_of_plain x.id (rows_at w ys) → StartsAboveBy id_of_plain x.id (if b then shown_row y ∷ rows_at w ys else rows_at w ys)
starts_if w x y ys true e h i r = strictly x.id y.id i.0 (λ s. not_same (holds w x.guard) (holds w y.guard) h e (i.1 s w))
starts_if w x y ys false e h i r = r

-- If the guard of a row holds, no later row of the same id is shown.
starts : (w : ℕ → Bool) (x : Row) (xs : List Row) → holds w x.guard ≡ true → IsBefore id_of_row guard_of_row x xs → StartsAboveBy id_of_plain x.id (rows_at w xs)
starts w x [] h i = tt
starts w x (y ∷ ys) h i = starts_if w x y ys (holds w y.guard) refl h i (starts w x ys h i.2)

rising_if : (w : ℕ → Bool) (x : Row) (xs : List Row) (b : Bool) → holds w x.guard ≡ b → IsBefore id_of_row guard_of_row x xs → IsRisingBy id_of_plain (rows_at w xs) →
    IsRisingBy id_of_plain (if b then shown_row x ∷ rows_at w xs else rows_at w xs)
rising_if w x xs true e i r = (starts w x xs e i, r)
rising_if w x xs false e i r = r

rising : (w : ℕ → Bool) (rows : List Row) → IsTable id_of_row guard_of_row rows → IsRisingBy id_of_plain (rows_at w rows)
rising w [] t = tt
rising w (x ∷ xs) t = rising_if w x xs (holds w x.guard) refl t.0 (rising w xs t.1)

module _ (shapes : List ModelShape) (next : ℕ) where
  records_if : (m : ℕ) (x : Row) (ps : List PlainRow) (b : Bool) → IsRecord shapes m next x.id x.cells → AllByRecursion (λ (r : PlainRow). IsRecord shapes m next r.id r.cells) ps →
      AllByRecursion (λ (r : PlainRow). IsRecord shapes m next r.id r.cells) (if b then shown_row x ∷ ps else ps)
  records_if m x ps true h a = (h, a)
  records_if m x ps false h a = a

  records : (m : ℕ) (w : ℕ → Bool) (rows : List Row) → AllByRecursion (λ (r : Row). IsRecord shapes m next r.id r.cells) rows →
      AllByRecursion (λ (r : PlainRow). IsRecord shapes m next r.id r.cells) (rows_at w rows)
  records m w [] a = tt
  records m w (x ∷ xs) a = records_if m x (rows_at w xs) (holds w x.guard) a.0 (records m w xs a.1)

  tables_good : (w : ℕ → Bool) (m : ℕ) (ts : List (List Row)) → AreGuarded shapes next m ts → ArePlain shapes next m (map (rows_at w) ts)
  tables_good w m [] g = tt
  tables_good w m (t ∷ ts) g = (rising w t g.0, records m w t g.1, tables_good w (m + 1) ts g.2)

pub good : (shapes : List ModelShape) (s : State) → IsGoodByGuards shapes s → IsGood shapes s
good shapes s g w = (g.0, tables_good shapes s.number w 0 s.tables g.1)
