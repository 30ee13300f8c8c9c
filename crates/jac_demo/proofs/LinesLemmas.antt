-- One line after another.
use Rattle.std.proofs.Common.{◌≡◌, ◌∙◌, ap, sym, refl, ℕ, zero, suc, ◌<◌, ◌+◌, ◌-◌, List, ◌++◌, append_assoc, arith}
use Rattle.jac_demo.specs.Requests.{demo_line, lines_from}

next_count : (i count n : ℕ) → n ≡ suc count - 1 → n ≡ count
next_count i count n e = omega (arith, e)

-- The first line, followed by the others.
pub lines_more : (i left : ℕ) → 0 < left → lines_from i left ≡ demo_line i ++ lines_from (i + 1) (left - 1)
lines_more i zero some = absurd (omega (arith, some))
lines_more i (suc count) some = ap (λ (n : ℕ). demo_line i ++ lines_from (i + 1) n) (sym (next_count i count (suc count - 1) refl))

-- What was made, followed by the lines that are left.
pub made_more : (made new all : List ℕ) (i left : ℕ) → 0 < left → made ++ lines_from i left ≡ all → new ≡ made ++ demo_line i
    → new ++ lines_from (i + 1) (left - 1) ≡ all
made_more made new all i left some so_far step =
    ap (λ (t : List ℕ). t ++ lines_from (i + 1) (left - 1)) step
    ∙ append_assoc made (demo_line i) (lines_from (i + 1) (left - 1))
    ∙ ap (λ (t : List ℕ). made ++ t) (sym (lines_more i left some)) ∙ so_far
