-- Rows that are merged because their guards differ only in one label's sign, and the order of
-- guards.
use Rattle.std.specs.Prelude.{◌≡◌, ℕ, ◌+◌, ◌≤◌, ◌==◌, nat_lt, Bool, true, false, not, ◌&&◌, ◌||◌, if◌then◌else◌, List, [], ◌∷◌, ◌++◌, length, ⊤}
use Rattle.std.specs.Cmp.Lexicographic.{pointwise}
use Rattle.std.specs.List.{AllByRecursion}
use mathlib.Core.Bool.{beq}
use Rattle.jac_value.specs.declared.value.Value.{Value}
use Rattle.jac_value.specs.contracts.value.ValuePartialEq.TheImpl as equality
use Rattle.jac_world.specs.World.{holds, IsApart}
use Rattle.jac_rows.specs.declared.row.Row.{Row}
use Rattle.jac_rows.specs.Project.{rows_at}

-- The two guards never hold together. The joined guard holds if one of them does.
pub record IsJoined (one other joined : List (ℕ × Bool)) : Type 0 where
  pub apart : IsApart one other
  pub exact : (w : ℕ → Bool) → holds w joined ≡ (holds w one || holds w other)

abbrev pub same_pair : ℕ × Bool → ℕ × Bool → Bool
same_pair p q = (p.0 == q.0) && beq p.1 q.1

abbrev pub turned_pair : ℕ × Bool → ℕ × Bool → Bool
turned_pair p q = (p.0 == q.0) && not (beq p.1 q.1)

abbrev pub same_pairs : List (ℕ × Bool) → List (ℕ × Bool) → Bool
same_pairs [] [] = true
same_pairs [] (q ∷ qs) = false
same_pairs (p ∷ ps) [] = false
same_pairs (p ∷ ps) (q ∷ qs) = same_pair p q && same_pairs ps qs

-- Whether the guards are the same except for the sign of one label.
abbrev pub differ_once : List (ℕ × Bool) → List (ℕ × Bool) → Bool
differ_once [] hs = false
differ_once (p ∷ ps) [] = false
differ_once (p ∷ ps) (q ∷ qs) = (turned_pair p q && same_pairs ps qs) ||
    (same_pair p q && differ_once ps qs)

abbrev pub same_cells : List Value → List Value → Bool
same_cells xs ys = pointwise equality.ghosts.eq xs ys

-- Whether the rows are alternatives of one record with equal cells, and their guards are the same
-- except for the sign of one label.
abbrev pub joinable : Row → Row → Bool
joinable r s = (r.id == s.id) && same_cells r.cells s.cells && differ_once r.guard s.guard

-- The joined row shows what the two rows show together.
abbrev pub JoinsTo : Row → Row → Row → Type 0
JoinsTo r s j = (w : ℕ → Bool) → rows_at w (j ∷ []) ≡ rows_at w (r ∷ []) ++ rows_at w (s ∷ [])

-- Under an assignment that shows at most one of the old rows, the new ones show the same.
abbrev pub Shows : List Row → List Row → Type 0
Shows old new = (w : ℕ → Bool) → length (rows_at w old) ≤ 1 → rows_at w new ≡ rows_at w old

-- No two of the rows can be joined.
abbrev pub AreMerged : List Row → Type 0
AreMerged [] = ⊤
AreMerged (r ∷ rs) = AllByRecursion (λ (s : Row). joinable r s ≡ false) rs × AreMerged rs

abbrev pub AreOfRecord : ℕ → List Row → Type 0
AreOfRecord id rows = AllByRecursion (λ (r : Row). r.id ≡ id) rows

abbrev pub pair_before : ℕ × Bool → ℕ × Bool → Bool
pair_before p q = if p.0 == q.0 then q.1 else nat_lt p.0 q.0

-- The order of guards as lists: a lesser label comes first, and hidden comes before shown.
abbrev pub guard_before : List (ℕ × Bool) → List (ℕ × Bool) → Bool
guard_before [] [] = false
guard_before [] (q ∷ qs) = true
guard_before (p ∷ ps) [] = false
guard_before (p ∷ ps) (q ∷ qs) = if same_pair p q then guard_before ps qs else pair_before p q

abbrev pub row_before : Row → Row → Bool
row_before r s = guard_before r.guard s.guard

-- No later row comes before an earlier one.
abbrev pub AreInOrder : List Row → Type 0
AreInOrder [] = ⊤
AreInOrder (r ∷ rs) = AllByRecursion (λ (s : Row). row_before s r ≡ false) rs × AreInOrder rs

-- The number of rows before the first one that the row comes before.
abbrev pub place_among : Row → List Row → ℕ
place_among r [] = 0
place_among r (s ∷ rs) = if row_before r s then 0 else place_among r rs + 1
