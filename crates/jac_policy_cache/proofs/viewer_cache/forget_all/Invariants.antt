use Rattle.std.proofs.Common.{◌≡◌, if◌then◌else◌, ℕ, Bool, None, drop}
use Rattle.jac_world.specs.World.{shown_by}
use Rattle.jac_policy_cache.specs.Memo.{recall, watches}
use Rattle.jac_policy_cache.proofs.viewer_cache.forget_all.Given as goal

abbrev pub invariant-labels : goal.invariant-labels
invariant-labels l =
    record {
      recalls : (k : ℕ) (w : ℕ → Bool) → (if shown_by (drop l.label-index l.labels) k then None else recall l.answers k w) ≡ (if shown_by l.labels k then None else recall l.fn.answers k w);
      watching : (k j : ℕ) → watches l.answers k j ≡ watches l.fn.answers k j;
    }
