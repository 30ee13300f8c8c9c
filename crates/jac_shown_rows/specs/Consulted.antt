-- The labels that an evaluation consulted.
use Rattle.std.specs.Prelude.{◌≡◌, ℕ, Bool, true, List}
use Rattle.jac_world.specs.World.{shown_by}

-- Labels are only added.
pub record Grows (old new : List ℕ) : Type 0 where
  pub kept : (k : ℕ) → shown_by old k ≡ true → shown_by new k ≡ true

-- The assignments agree on the labels that were consulted.
pub record Agrees (support : List ℕ) (v w : ℕ → Bool) : Type 0 where
  pub each : (k : ℕ) → shown_by support k ≡ true → v k ≡ w k
