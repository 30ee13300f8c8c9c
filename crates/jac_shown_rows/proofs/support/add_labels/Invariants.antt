use Rattle.std.proofs.Common.{◌≡◌, ℕ, true, ◌||◌, Option, drop}
use Rattle.jac_world.specs.World.{shown_by, names}
use Rattle.jac_shown_rows.specs.Consulted.{Grows}
use Rattle.jac_shown_rows.specs.Own.{IsOwn, names_own}
use Rattle.jac_shown_rows.proofs.support.add_labels.Given as goal

-- Each label of the guard was consulted or is left.
abbrev pub invariant-pairs : goal.invariant-pairs
invariant-pairs l =
    record {
      grown : Grows l.fn.support l.support;
      own : (this : Option ℕ) → names_own this l.pairs ≡ true → IsOwn this l.fn.support → IsOwn this l.support;
      consulted : (k : ℕ) → names l.pairs k ≡ true → (shown_by l.support k || names (drop l.pair-index l.pairs) k) ≡ true;
    }
