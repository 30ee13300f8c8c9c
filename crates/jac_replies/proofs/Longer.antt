-- The text of labels that others follow.
use Rattle.std.proofs.Common.{◌≡◌, ◌∙◌, ap, sym, refl, ℕ, List, [], ◌∷◌, ◌++◌, append_assoc, decimal}
use Rattle.jac_replies.specs.Spelled.{more_labels}

pub more_joined : (xs ys : List ℕ) → more_labels (xs ++ ys) ≡ more_labels xs ++ more_labels ys
more_joined [] ys = refl
more_joined (x ∷ xs) ys =
    ap (λ (rest : List ℕ). 44 ∷ (decimal x ++ rest)) (more_joined xs ys)
    ∙ sym (ap (λ (rest : List ℕ). 44 ∷ rest) (append_assoc (decimal x) (more_labels xs) (more_labels ys)))
