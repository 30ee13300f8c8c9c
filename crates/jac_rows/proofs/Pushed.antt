-- The projection of appended rows, for the proofs of crates that write rows.
use Rattle.std.specs.Prelude.{◌≡◌, ℕ, ◌+◌, Bool, true, false, if◌then◌else◌, List, [], ◌∷◌, ◌++◌}
use Rattle.std.proofs.Common.{refl, ap, ◌∙◌, arith}
use Rattle.jac_value.specs.declared.value.Value.{Value}
use Rattle.jac_world.specs.World.{holds, holding}
use Rattle.jac_rows.specs.Project.{rows_at}
use Rattle.jac_rows.specs.declared.row.Row.{Row}
use Rattle.jac_rows.specs.declared.plain.PlainRow.{PlainRow}

append_if : (b : Bool) (x : PlainRow) (xs ys zs : List PlainRow) → zs ≡ xs ++ ys → (if b then x ∷ zs else zs) ≡ (if b then x ∷ xs else xs) ++ ys
append_if true x xs ys zs e = ap (λ l. x ∷ l) e
append_if false x xs ys zs e = e

pub rows_at-append : (w : ℕ → Bool) (rs us : List Row) → rows_at w (rs ++ us) ≡ rows_at w rs ++ rows_at w us
rows_at-append w [] us = refl
rows_at-append w (r ∷ rs) us = append_if (holds w r.guard) (record { id = r.id; cells = r.cells }) (rows_at w rs) (rows_at w us) (rows_at w (rs ++ us)) (rows_at-append w rs us)

-- The projection after one row is appended, if its guard has the truth value `b`.
pub rows_at-pushed : (w : ℕ → Bool) (rs us : List Row) (r : Row) (b : Bool) (cells : List Value) → us ≡ rs ++ r ∷ [] → holds w r.guard ≡ b → r.cells ≡ cells →
    rows_at w us ≡ rows_at w rs ++ if◌then◌else◌ {A = List PlainRow} b (record { id = r.id; cells = cells } ∷ []) []
rows_at-pushed w rs us r b cells e h c = ap (rows_at w) e ∙ (rows_at-append w rs (r ∷ []) ∙ rw (h, c) refl)

-- The row, once for each guard that holds.
abbrev pub each_holding : (ℕ → Bool) → List (List (ℕ × Bool)) → PlainRow → List PlainRow
each_holding w [] x = []
each_holding w (g ∷ gs) x = (if holds w g then x ∷ [] else []) ++ each_holding w gs x

none_held_if : (a : Bool) (n : ℕ) (x : PlainRow) (xs : List PlainRow) → (if a then 1 else 0) + n ≡ 0 → (n ≡ 0 → xs ≡ []) → (if a then x ∷ [] else []) ++ xs ≡ []
none_held_if true n x xs e h = absurd (omega arith)
none_held_if false n x xs e h = h (omega arith)

none_held : (w : ℕ → Bool) (gs : List (List (ℕ × Bool))) (x : PlainRow) → holding w gs ≡ 0 → each_holding w gs x ≡ []
none_held w [] x e = refl
none_held w (g ∷ gs) x e = none_held_if (holds w g) (holding w gs) x (each_holding w gs x) e (none_held w gs x)

one_held_if : (a : Bool) (n : ℕ) (x : PlainRow) (xs : List PlainRow) → (if a then 1 else 0) + n ≡ 1 → (n ≡ 0 → xs ≡ []) → (n ≡ 1 → xs ≡ x ∷ []) → (if a then x ∷ [] else []) ++ xs ≡ x ∷ []
one_held_if true n x xs e h k = ap (λ l. x ∷ l) (h (omega arith))
one_held_if false n x xs e h k = k (omega arith)

one_held : (w : ℕ → Bool) (gs : List (List (ℕ × Bool))) (x : PlainRow) → holding w gs ≡ 1 → each_holding w gs x ≡ x ∷ []
one_held w [] x e = absurd (omega arith)
one_held w (g ∷ gs) x e = one_held_if (holds w g) (holding w gs) x (each_holding w gs x) e (none_held w gs x) (one_held w gs x)

-- If exactly one of the guards holds when `b` is true, and none otherwise, the row is there once or
-- not at all.
pub each_holding-is : (w : ℕ → Bool) (gs : List (List (ℕ × Bool))) (x : PlainRow) (b : Bool) → holding w gs ≡ (if b then 1 else 0) → each_holding w gs x ≡ if◌then◌else◌ {A = List PlainRow} b (x ∷ []) []
each_holding-is w gs x true e = one_held w gs x e
each_holding-is w gs x false e = none_held w gs x e
