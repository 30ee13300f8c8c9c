use Rattle.std.proofs.Common.{◌≡◌, ◌||◌, ℕ, true}
use Rattle.std.specs.BTreeMap.{keys}
use Rattle.jac_world.specs.World.{shown_by}
use Rattle.jac_shown_rows.specs.Consulted.{Grows}
use Rattle.jac_resolve.proofs.recall.add_watched.Given as goal

-- Each label that is watched was added, or is left.
abbrev pub invariant-watched : goal.invariant-watched
invariant-watched l =
    record {
      grown : Grows l.fn.consulted l.consulted;
      added : (k : ℕ) → shown_by (keys l.watchers) k ≡ true → (shown_by l.consulted k || shown_by l.label-iterator k) ≡ true;
    }
