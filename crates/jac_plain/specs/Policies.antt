-- Which labels a viewer may be shown. A plain state is given for each assignment.
use Rattle.std.specs.Prelude.{◌≡◌, ℕ, Bool, true, false, ◌&&◌, ◌||◌, ◌==◌, List, [], Option, Some, None, slice_get}
use Rattle.jac_value.specs.Ids.{model_of_id, record_of_label, group_of_label}
use Rattle.jac_world.specs.World.{shown_by, IsAscending}
use Rattle.jac_lang.specs.Lookup.{groups_at}
use Rattle.jac_lang.specs.Syntax.{FieldGroup, Application}
use Rattle.jac_rows.specs.declared.plain.PlainState.{PlainState}
use Rattle.jac_rows.specs.Tables.{rows_of}
use Rattle.jac_plain.specs.World.{World, record_with}
use Rattle.jac_plain.specs.Expressions.{mean, is_true, stands}
use Rattle.jac_plain.specs.Requests.{Worlds}

-- Whether the record of this id is in the tables.
abbrev pub has_id : PlainState → ℕ → Bool
has_id t id = stands (record_with id (rows_of t.tables (model_of_id id)))

-- Whether the record of the label is in the tables.
abbrev pub has_record : PlainState → ℕ → Bool
has_record t k = has_id t (record_of_label k)

-- The group of the label, by its place among the groups of the record's model.
abbrev pub labelled_group : Application → ℕ → Option FieldGroup
labelled_group app k = slice_get (groups_at app.models (model_of_id (record_of_label k)))
    (group_of_label k)

abbrev pub is_some_group : Option FieldGroup → Bool
is_some_group None = false
is_some_group (Some g) = true

-- Whether the label's group exists in its model.
abbrev pub has_group : Application → ℕ → Bool
has_group app k = is_some_group (labelled_group app k)

-- The world in which a policy is evaluated: the tables, the record that the policy guards, and the
-- viewer.
abbrev pub policy_world : Application → PlainState → Option ℕ → ℕ → World
policy_world app t viewer id = record {
  models = app.models;
  this = Some id;
  viewer = viewer;
  tables = t.tables;
}

-- Whether the group's policy is true, without bindings. It isn't if there is no such group.
abbrev pub policy_is_true : Option FieldGroup → World → Bool
policy_is_true None w = false
policy_is_true (Some g) w = is_true (mean w g.policy [])

-- Whether a label is allowed in a plain state: its record is there, its group exists in the
-- record's model, and the group's policy is true for the record.
abbrev pub is_allowed : Application → PlainState → Option ℕ → ℕ → Bool
is_allowed app t viewer k =
    has_record t k && policy_is_true (labelled_group app k) (policy_world app t viewer
    (record_of_label k))

-- The assignment with one more label.
abbrev pub with_label : ℕ → (ℕ → Bool) → ℕ → Bool
with_label k w j = k == j || w j

-- A label is live if its group exists and some assignment shows its record.
pub record IsLiveLabel (app : Application) (worlds : Worlds) (k : ℕ) : Type 0 where
  pub group : has_group app k ≡ true
  pub seen_by : ℕ → Bool
  pub stands : has_record (worlds seen_by) k ≡ true

-- Each label of the list is allowed in the world that the list shows.
abbrev pub AreAllowed : Application → Worlds → Option ℕ → List ℕ → Type 0
AreAllowed app worlds viewer labels = (k : ℕ) → shown_by labels k ≡ true
    → is_allowed app (worlds (shown_by labels)) viewer k ≡ true

-- The assignment shows a label that isn't allowed in its world.
pub record ShowsForbidden (app : Application) (worlds : Worlds) (viewer : Option ℕ) (w : ℕ → Bool) :
    Type 0 where
  pub label : ℕ
  pub is_shown : w label ≡ true
  pub forbidden : is_allowed app (worlds w) viewer label ≡ false

-- The labels are settled for a viewer. They ascend. Each is live, and is allowed in the world that
-- they show. If any other live label is added, some label that is then shown isn't allowed.
pub record IsSettled (app : Application) (worlds : Worlds) (viewer : Option ℕ) (labels : List ℕ) :
    Type 0 where
  pub ascending : IsAscending labels
  pub live : (k : ℕ) → shown_by labels k ≡ true → IsLiveLabel app worlds k
  pub allowed : AreAllowed app worlds viewer labels
  pub full : (k : ℕ) → IsLiveLabel app worlds k → shown_by labels k ≡ false
      → ShowsForbidden app worlds viewer (with_label k (shown_by labels))
