-- A rising list with one more number in its place, as an assignment.
use Rattle.std.proofs.Common.{◌≡◌, ℕ, ◌==◌, ◌||◌, List, sym, ◌∙◌}
use Rattle.jac_world.specs.World.{shown_by, with_number, IsAscending}
use Rattle.jac_world.proofs.Bisected.{ascending_same}
use Rattle.jac_world.proofs.Inserting.{shown-inserted, ascending-inserted}
use Rattle.jac_plain.specs.Policies.{with_label}

-- An assignment with one more label.
pub with_inserted : (k : ℕ) (old new : List ℕ) → IsAscending old → IsAscending new → ((j : ℕ) → shown_by new j ≡ (k == j || shown_by old j)) → new ≡ with_number k old
with_inserted k old new rises rises_too grown = ascending_same new (with_number k old) rises_too (ascending-inserted k old rises) (λ j. grown j ∙ sym (shown-inserted k old j))

pub grown : (k : ℕ) (old : List ℕ) → shown_by (with_number k old) ≡ with_label k (shown_by old)
grown k old i j = shown-inserted k old j i
