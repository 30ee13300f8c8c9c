-- Child numbers, gathered from a tree upward to the root.
use Rattle.std.proofs.Common.{◌≡◌, ℕ, sym, ◌∙◌, ap, List, [], ◌∷◌, ◌++◌, append_assoc}
use Rattle.std.specs.Prelude.{reverse}
use Rattle.std.proofs.lemmas.List.{append-nil, reverse-append}
use Rattle.jac_forms.specs.Places.{child}

-- The numbers that are still above, and then those gathered, in reverse order.
abbrev pub upward : List ℕ → List ℕ → List ℕ
upward up gathered = up ++ reverse gathered

pub upward-start : (up gathered : List ℕ) → gathered ≡ [] → upward up gathered ≡ up
upward-start up gathered e = ap (upward up) e ∙ append-nil up

pub upward-step : (up all gathered new : List ℕ) (n : ℕ) → new ≡ gathered ++ n ∷ [] → upward (child up n) gathered ≡ all → upward up new ≡ all
upward-step up all gathered new n pushed before =
    ap (upward up) pushed ∙ ap (λ (s : List ℕ). up ++ s) (reverse-append gathered (n ∷ [])) ∙ sym (append_assoc up (n ∷ []) (reverse gathered)) ∙ before
