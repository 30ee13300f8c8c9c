-- Cached results of policies. Each has the labels that were consulted, and whether they were shown.
use Rattle.std.specs.Prelude.{◌≡◌, ◌%◌, ℕ, Bool, true, false, List, [], ◌∷◌, Option, Some, None, is_some, if◌then◌else◌}
use Rattle.std.specs.List.{list_any}
use Rattle.std.specs.Ordering.{nat_cmp}
use Rattle.std.specs.BTreeMap.{BTreeMap, get}
use Rattle.jac_world.specs.World.{shown_by, holds, names}
use Rattle.jac_policy_cache.specs.declared.policy_memo.PolicyMemo.{PolicyMemo}
use Rattle.jac_policy_cache.specs.declared.policy_memo.LabelMemo.{LabelMemo}
use Rattle.jac_policy_cache.specs.declared.policy_memo.MemoEntry.{MemoEntry}
use Rattle.jac_policy_cache.specs.declared.by_group.ByGroup.{ByGroup}

-- The result, if its guard holds under the assignment.
abbrev pub known_at : MemoEntry → (ℕ → Bool) → Option Bool
known_at c w = if holds w c.when then Some c.holds else None

-- The result that was known before, or else this one.
abbrev pub or_known : Option Bool → MemoEntry → (ℕ → Bool) → Option Bool
or_known (Some b) c w = Some b
or_known None c w = known_at c w

-- The first result whose guard holds under the assignment.
abbrev pub first_fitting : List MemoEntry → (ℕ → Bool) → Option Bool
first_fitting [] w = None
first_fitting (c ∷ cs) w = if holds w c.when then Some c.holds else first_fitting cs w

abbrev pub given_in : Option (BTreeMap ℕ LabelMemo) → ℕ → Option LabelMemo
given_in None k = None
given_in (Some group) k = get nat_cmp group k

-- The cached results of a label. The labels of its group and of its record's model have one
-- remainder by 512, and are stored under it.
abbrev pub given_of : ByGroup → ℕ → Option LabelMemo
given_of given k = given_in (get nat_cmp given.groups (k % 512)) k

abbrev pub recall_in : Option LabelMemo → (ℕ → Bool) → Option Bool
recall_in None w = None
recall_in (Some given) w = first_fitting given.answers.items w

abbrev pub watched_in : Option (List ℕ) → ℕ → Bool
watched_in None j = false
watched_in (Some watchers) j = shown_by watchers j

-- The cached result of a label under an assignment.
abbrev pub recall : PolicyMemo → ℕ → (ℕ → Bool) → Option Bool
recall answers k w = recall_in (given_of answers.given k) w

-- The second label watches the first one.
abbrev pub watches : PolicyMemo → ℕ → ℕ → Bool
watches answers k j = watched_in (get nat_cmp answers.watchers k) j

-- Some result's guard names the label.
abbrev pub names_label : List MemoEntry → ℕ → Bool
names_label cs k = list_any (λ (c : MemoEntry). names c.when k) cs

abbrev pub depends_in : Option LabelMemo → ℕ → Bool
depends_in None k = false
depends_in (Some given) k = names_label given.answers.items k

-- Some result of the first label has a guard that names the second one.
abbrev pub depends : PolicyMemo → ℕ → ℕ → Bool
depends answers j k = depends_in (given_of answers.given j) k

-- The label has cached results.
abbrev pub is_asked : PolicyMemo → ℕ → Bool
is_asked answers k = is_some (given_of answers.given k)

-- The guard of the labels that an assignment satisfies.
abbrev pub signed_labels : (ℕ → Bool) → List ℕ → List (ℕ × Bool)
signed_labels w [] = []
signed_labels w (k ∷ ks) = (k, w k) ∷ signed_labels w ks

-- The cached result of a label depends only on the labels that it watches.
pub record AreWatched (answers : PolicyMemo) : Type 0 where
  pub each : (j : ℕ) (v w : ℕ → Bool) → ((k : ℕ) → watches answers k j ≡ true → v k ≡ w k) →
      recall answers j v ≡ recall answers j w

-- With each label the list has all labels that watch it, and all that its results depend on.
pub record IsLinked (answers : PolicyMemo) (labels : List ℕ) : Type 0 where
  pub watchers : (k j : ℕ) → shown_by labels k ≡ true → watches answers k j ≡ true
      → shown_by labels j ≡ true
  pub dependent : (j k : ℕ) → shown_by labels j ≡ true → depends answers j k ≡ true → shown_by
      labels k
      ≡ true
