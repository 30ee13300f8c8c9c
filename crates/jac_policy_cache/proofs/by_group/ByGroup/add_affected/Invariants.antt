use Rattle.std.proofs.Common.{◌≡◌, ◌||◌, ◌&&◌, ℕ, drop, is_some}
use Rattle.std.specs.List.{list_any}
use Rattle.jac_world.specs.World.{shown_by}
use Rattle.jac_policy_cache.specs.declared.invalidation.AffectedGroup.{AffectedGroup as Group}
use Rattle.jac_policy_cache.specs.Memo.{given_of}
use Rattle.jac_policy_cache.specs.Affected.{is_for, is_in_group}
use Rattle.jac_policy_cache.proofs.by_group.ByGroup.add_affected.Given as goal

-- The labels added so far, with those of the groups that are left, are those of all groups.
abbrev pub invariant-groups : goal.invariant-groups
invariant-groups l = (k : ℕ) →
    (shown_by l.labels.items k || (list_any (λ (g : Group). is_in_group g k && is_for g.viewer l.viewer) (drop l.group-index l.groups) && is_some (given_of l.self k)))
    ≡ (shown_by l.fn.labels.items k || (list_any (λ (g : Group). is_in_group g k && is_for g.viewer l.viewer) l.groups && is_some (given_of l.self k)))
