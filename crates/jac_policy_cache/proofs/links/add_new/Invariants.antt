use Rattle.std.proofs.Common.{◌≡◌, ◌||◌, ℕ, drop}
use Rattle.jac_world.specs.World.{shown_by}
use Rattle.jac_policy_cache.specs.Linked.{IsDoneBefore}
use Rattle.jac_policy_cache.proofs.links.add_new.Given as goal

abbrev pub invariant-labels : goal.invariant-labels
invariant-labels l =
    record {
      all : (k : ℕ) → (shown_by l.all k || shown_by (drop l.label-index l.labels) k) ≡ (shown_by l.fn.all k || shown_by l.labels k);
      before : IsDoneBefore l.fn.all l.fn.left.items l.all l.left.items;
    }
