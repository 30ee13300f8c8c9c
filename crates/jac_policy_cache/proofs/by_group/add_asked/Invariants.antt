use Rattle.std.proofs.Common.{◌≡◌, ◌||◌, ◌&&◌, ℕ}
use Rattle.std.specs.BTreeMap.{keys}
use Rattle.jac_world.specs.World.{shown_by}
use Rattle.jac_policy_cache.specs.Affected.{is_in_group}
use Rattle.jac_policy_cache.proofs.by_group.add_asked.Given as goal

-- A label with cached results is one of the keys.
abbrev pub invariant-asked : goal.invariant-asked
invariant-asked l = (k : ℕ) →
    (shown_by l.labels.items k || (is_in_group l.group k && shown_by l.label-iterator k)) ≡ (shown_by l.fn.labels.items k || (is_in_group l.group k && shown_by (keys l.given) k))
