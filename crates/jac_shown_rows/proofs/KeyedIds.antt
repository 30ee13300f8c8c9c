-- Ids with their keys.
use Rattle.std.proofs.Common.{◌≡◌, sym, ap, ◌∙◌, ℕ, List, [], ◌∷◌, ◌++◌, append_assoc, append-nil}
use Rattle.jac_value.specs.declared.value.Value.{Value}
use Rattle.jac_shown_rows.specs.RecordIds.{keyed_each}

-- one id more has its key
pub each_more : (key : ℕ → Value) (done new : List (ℕ × Value)) (j : ℕ) (k : Value) (left rest all : List ℕ) →
    left ≡ j ∷ rest → new ≡ done ++ (j, k) ∷ [] → k ≡ key j → done ++ keyed_each key left ≡ keyed_each key all → new ++ keyed_each key rest ≡ keyed_each key all
each_more key done new j k left rest all first pushed is so_far =
    ap (λ l. l ++ keyed_each key rest) pushed
    ∙ append_assoc done ((j, k) ∷ []) (keyed_each key rest)
    ∙ ap (λ v. done ++ (j, v) ∷ keyed_each key rest) is
    ∙ ap (λ l. done ++ keyed_each key l) (sym first)
    ∙ so_far

pub each_all : (key : ℕ → Value) (done : List (ℕ × Value)) (left all : List ℕ) → left ≡ [] → done ++ keyed_each key left ≡ keyed_each key all → done ≡ keyed_each key all
each_all key done left all none so_far = sym (append-nil done) ∙ ap (λ l. done ++ keyed_each key l) (sym none) ∙ so_far
