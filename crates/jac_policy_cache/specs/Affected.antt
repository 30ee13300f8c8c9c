-- The labels whose policies may have another result after a change.
use Rattle.std.specs.Prelude.{◌≡◌, ◌↔◌, ℕ, Bool, true, false, ◌&&◌, ◌||◌, ◌==◌, Option, Some, None}
use Rattle.std.specs.List.{list_any}
use Rattle.jac_value.specs.Ids.{model_of_id, record_of_label, group_of_label}
use Rattle.jac_world.specs.World.{shown_by}
use Rattle.jac_lang.specs.Syntax.{Application}
use Rattle.jac_plain.specs.Policies.{IsLiveLabel, is_allowed}
use Rattle.jac_plain.specs.Requests.{Worlds}
use Rattle.jac_policy_cache.specs.declared.invalidation.Invalidation.{Invalidation}
use Rattle.jac_policy_cache.specs.declared.invalidation.AffectedGroup.{AffectedGroup}
use Rattle.jac_policy_cache.specs.declared.invalidation.Audience.{Audience}
use Rattle.jac_policy_cache.specs.declared.invalidation.Audience.TheVariants as audience

-- Both are the same viewer, or neither is a viewer.
abbrev pub is_same_viewer : Option ℕ → Option ℕ → Bool
is_same_viewer None None = true
is_same_viewer None (Some other) = false
is_same_viewer (Some one) None = false
is_same_viewer (Some one) (Some other) = one == other

abbrev pub is_for : Audience → Option ℕ → Bool
is_for audience.Everybody viewer = true
is_for (audience.Only one) viewer = is_same_viewer one viewer

-- The label belongs to this group of a record of this model.
abbrev pub is_in_group : AffectedGroup → ℕ → Bool
is_in_group g k = (model_of_id (record_of_label k) == g.model) && (group_of_label k == g.group)

-- The policy of the label may give this viewer another result.
abbrev pub affects : Invalidation → Option ℕ → ℕ → Bool
affects t viewer k = shown_by t.labels k
    || list_any (λ (g : AffectedGroup). is_in_group g k && is_for g.viewer viewer) t.groups.items

-- Between worlds and later ones, a label that isn't named is live in both or in neither. A label
-- that isn't affected is allowed in both or in neither, under each assignment.
pub record IsCovered (app : Application) (worlds later : Worlds) (invalidation : Invalidation)
    (viewer : Option ℕ) : Type 0 where
  pub living : (k : ℕ) → shown_by invalidation.labels k ≡ false
      → (IsLiveLabel app worlds k ↔ IsLiveLabel app later k)
  pub allowed : (k : ℕ) → affects invalidation viewer k ≡ false → (w : ℕ → Bool) →
      is_allowed app (later w) viewer k ≡ is_allowed app (worlds w) viewer k
