-- Labels that are only added, and assignments that agree on them.
use Rattle.std.proofs.Common.{◌≡◌, refl, ◌∙◌, ◌==◌, ◌||◌, subst, sym, ℕ, Bool, true, List}
use Rattle.std.proofs.lemmas.Bool.{or_right}
use Rattle.jac_world.specs.World.{shown_by, holds, names}
use Rattle.jac_world.proofs.Contradict.{by_names}
use Rattle.jac_shown_rows.specs.Consulted.{Agrees, Grows}

pub grows_same : (s : List ℕ) → Grows s s
grows_same s = record { kept = λ k h. h }

pub grows_then : (r s t : List ℕ) → Grows r s → Grows s t → Grows r t
grows_then r s t before after = record { kept = λ k h. after.kept k (before.kept k h) }

pub agrees_same : (support : List ℕ) (v : ℕ → Bool) → Agrees support v v
agrees_same support v = record { each = λ k h. refl }

-- What agrees on more labels agrees on fewer.
pub agrees_less : (v w : ℕ → Bool) (old new : List ℕ) → Grows old new → Agrees new v w → Agrees old v w
agrees_less v w old new grows agree = record { each = λ k h. agree.each k (grows.kept k h) }

-- A guard whose labels were consulted holds under both assignments, or under neither.
pub holds_alike : (v w : ℕ → Bool) (support : List ℕ) (g : List (ℕ × Bool)) → ((k : ℕ) → names g k ≡ true → shown_by support k ≡ true) →
    Agrees support v w → holds v g ≡ holds w g
holds_alike v w support g consulted agree = by_names g v w (λ k named. agree.each k (consulted k named))

pub grows_with : (old new : List ℕ) (x : ℕ) → ((k : ℕ) → shown_by new k ≡ ((x == k) || shown_by old k)) → Grows old new
grows_with old new x more = record { kept = λ k s. more k ∙ or_right (x == k) (shown_by old k) s }

pub grows_not : (old new : List ℕ) → new ≡ old → Grows old new
grows_not old new same = subst (Grows old) (sym same) (grows_same old)
