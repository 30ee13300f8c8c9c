-- Merged alternatives are of the same record. If one alternative at most is shown, they show the
-- same cells.
use Rattle.std.proofs.Common.{◌≡◌, ◌⊎◌, ◌∙◌, sym, subst, refl, ap, arith, zero, suc, inl, inr, ℕ, ◌+◌, ◌≤◌, ◌==◌, Bool, true, false, if◌then◌else◌, List, [], ◌∷◌, All, length, map, Some, None, unwrap_or}
use Rattle.std.proofs.lemmas.List.{length-map}
use Rattle.jac_value.specs.Ids.{model_of_id}
use Rattle.jac_value.specs.declared.value.Value.{Value}
use Rattle.jac_world.specs.World.{holds}
use Rattle.jac_rows.specs.Project.{rows_at}
use Rattle.jac_rows.specs.Tables.{rows_of}
use Rattle.jac_rows.specs.declared.plain.PlainRow.{PlainRow}
use Rattle.jac_rows.specs.declared.row.Row.{Row}
use Rattle.jac_rows.specs.declared.state.State.{State}
use Rattle.jac_plain.specs.Records.{plain_row}
use Rattle.jac_keep.proofs.AlteringLaws.{alternatives-altered, are_of}
use Rattle.jac_keep.specs.Alterations.{altered_rows, overlaid_from}
use Rattle.jac_keep.specs.ChangedState.{state_with}
use Rattle.jac_keep.specs.Records.{alternatives, AreOf}
use Rattle.jac_keep.specs.declared.alteration.Alteration.{Alteration}
use Rattle.jac_row_merge.specs.Merged.{AreMerged, AreOfRecord, Shows}
use Rattle.jac_write.specs.Writes.{KeepsOrMerges, cells_at}
use Rattle.jac_write.proofs.RecordLaws.{cells}

pub own_all : (id : ℕ) (rows : List Row) → All (λ (r : Row). r.id ≡ id) rows → AreOfRecord id rows
own_all id [] all = tt
own_all id (r ∷ rows) all = (all 0 r (omega arith), own_all id rows (λ k d h. all (suc k) d (omega (arith, h))))

pub all_own : (id : ℕ) (rows : List Row) → AreOfRecord id rows → All (λ (r : Row). r.id ≡ id) rows
all_own id [] own k d h = absurd (omega (arith, h))
all_own id (r ∷ rows) own zero d h = own.0
all_own id (r ∷ rows) own (suc k) d h = all_own id rows own.1 k d (omega (arith, h))

cells_if : (b : Bool) (r : Row) (cs : List (List Value)) (rows : List PlainRow) → cs ≡ map cells rows
    → (if b then r.cells ∷ cs else cs) ≡ map cells (if b then plain_row r.id r.cells ∷ rows else rows)
cells_if true r cs rows e = ap (λ l. r.cells ∷ l) e
cells_if false r cs rows e = e

cells_of : (w : ℕ → Bool) (rows : List Row) → cells_at w rows ≡ map cells (rows_at w rows)
cells_of w [] = refl
cells_of w (r ∷ rows) = cells_if (holds w r.guard) r (cells_at w rows) (rows_at w rows) (cells_of w rows)

-- If at most one alternative is shown, the merged ones show its cells.
pub cells_kept : (rows merged : List Row) → Shows rows merged
    → (w : ℕ → Bool) → length (cells_at w rows) ≤ 1 → cells_at w merged ≡ cells_at w rows
cells_kept rows merged shows w one =
    let long : length (cells_at w rows) ≡ length (rows_at w rows) = ap length (cells_of w rows) ∙ length-map (rows_at w rows) cells in
    cells_of w merged ∙ ap (map cells) (shows w (subst (λ n. n ≤ 1) long one)) ∙ sym (cells_of w rows)

abbrev one : ℕ → List Row → List Alteration
one id rows = record { id = id; rows = rows } ∷ []

-- The alternatives of a record after a write: the old ones, or merged ones.
abbrev Now : List Row → List Row → Type 0
Now was now = (now ≡ was) ⊎ AreMerged now

chosen : (b : Bool) (new was now : List Row) → AreMerged new → now ≡ unwrap_or (if b then Some new else None) was → Now was now
chosen true new was now merged e = inr (subst AreMerged (sym e) merged)
chosen false new was now merged e = inl e

put_in_table : (i id : ℕ) (new table : List Row) → AreOf id new → AreMerged new
    → Now (alternatives i table) (alternatives i (altered_rows (model_of_id i) (one id new) table))
put_in_table i id new table own merged =
    chosen (id == i) new (alternatives i table) (alternatives i (altered_rows (model_of_id i) (one id new) table)) merged
    (alternatives-altered i (one id new) table (tt, tt) (own, tt))

put_from : (i id k m : ℕ) (new : List Row) (tables : List (List Row)) → AreOf id new → AreMerged new → model_of_id i ≡ k + m
    → Now (alternatives i (rows_of tables m)) (alternatives i (rows_of (overlaid_from k (one id new) tables) m))
put_from i id k m new [] own merged e = inl refl
put_from i id k zero new (t ∷ tables) own merged e =
    let here : model_of_id i ≡ k = omega (arith, e) in
    subst (λ model. Now (alternatives i t) (alternatives i (altered_rows model (one id new) t))) here (put_in_table i id new t own merged)
put_from i id k (suc m) new (t ∷ tables) own merged e = put_from i id (k + 1) m new tables own merged (omega (arith, e))

-- The alternatives that replace a record's old ones are merged.
pub put_merged : (id : ℕ) (old mid new : State) (put : List Row) → All (λ (r : Row). r.id ≡ id) put → AreMerged put
    → mid ≡ old → new ≡ state_with id put mid → KeepsOrMerges old new
put_merged id old mid new put own merged same done =
    let state : new ≡ state_with id put old = done ∙ ap (state_with id put) same in
    subst (KeepsOrMerges old) (sym state) (λ i. put_from i id 0 (model_of_id i) put old.tables (are_of id put own) merged (omega arith))

-- Nothing was written.
pub kept : (old new : State) → new ≡ old → KeepsOrMerges old new
kept old new same i = inl (ap (λ (s : State). alternatives i (rows_of s.tables (model_of_id i))) same)

now_then : (a b c : List Row) → Now a b → Now b c → Now a c
now_then a b c first (inr merged) = inr merged
now_then a b c (inl same) (inl again) = inl (again ∙ same)
now_then a b c (inr merged) (inl again) = inr (subst AreMerged (sym again) merged)

-- One write after another.
pub merged_then : (a b c : State) → KeepsOrMerges a b → KeepsOrMerges b c → KeepsOrMerges a c
merged_then a b c first second i =
    now_then (alternatives i (rows_of a.tables (model_of_id i))) (alternatives i (rows_of b.tables (model_of_id i)))
    (alternatives i (rows_of c.tables (model_of_id i))) (first i) (second i)
