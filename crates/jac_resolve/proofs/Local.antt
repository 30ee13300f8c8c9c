-- Policies of a local application, and supports of one record's labels.
use Rattle.std.proofs.Common.{◌≡◌, ◌∙◌, ap, refl, sym, ℕ, zero, suc, Bool, true, List, [], ◌∷◌, Option, None, Some, slice_get}
use Rattle.std.proofs.lemmas.Bool.{and_parts}
use Rattle.std.proofs.lemmas.Bool.Decides.{Decides-eqb}
use Rattle.jac_value.specs.Ids.{model_of_id, record_of_label, group_of_label}
use Rattle.jac_world.specs.World.{shown_by}
use Rattle.jac_lang.specs.Lookup.{groups_in}
use Rattle.jac_lang.specs.Syntax.{FieldGroup, Entity, Application}
use Rattle.jac_shown_rows.specs.Local.{are_local_groups, are_local_models, is_free_viewer, is_local, is_local_app}
use Rattle.jac_plain.specs.Policies.{labelled_group}
use Rattle.jac_shown_rows.specs.Own.{IsOwn}

module _ (models : List Entity) (v : Bool) where
  abbrev has_local : Option FieldGroup → Bool
  has_local None = true
  has_local (Some g) = is_local models v g.policy

  group_local : (gs : List FieldGroup) (i : ℕ) → are_local_groups models v gs ≡ true → has_local (slice_get gs i) ≡ true
  group_local [] zero h = refl
  group_local [] (suc i) h = refl
  group_local (g ∷ gs) zero h = (and_parts (is_local models v g.policy) (are_local_groups models v gs) h).0
  group_local (g ∷ gs) (suc i) h = group_local gs i (and_parts (is_local models v g.policy) (are_local_groups models v gs) h).1

  groups_local : (ms : List Entity) (m : ℕ) → are_local_models models v ms ≡ true → are_local_groups models v (groups_in (slice_get ms m)) ≡ true
  groups_local [] zero h = refl
  groups_local [] (suc m) h = refl
  groups_local (e ∷ ms) zero h = (and_parts (are_local_groups models v e.groups) (are_local_models models v ms) h).0
  groups_local (e ∷ ms) (suc m) h = groups_local ms m (and_parts (are_local_groups models v e.groups) (are_local_models models v ms) h).1

-- The policy of a label's group is local.
pub policy_local : (app : Application) (k : ℕ) (g : FieldGroup) → is_local_app app ≡ true → Some g ≡ labelled_group app k → is_local app.models (is_free_viewer app) g.policy ≡ true
policy_local app k g h e =
    ap (has_local app.models (is_free_viewer app)) e
    ∙ group_local app.models (is_free_viewer app) _ (group_of_label k) (groups_local app.models (is_free_viewer app) app.models (model_of_id (record_of_label k)) h)

pub own_none : (this : Option ℕ) → IsOwn this []
own_none this = record { each = λ k s. absurd cc }

pub own_label : (label : ℕ) (support : List ℕ) → IsOwn (Some (record_of_label label)) support → (k : ℕ) → shown_by support k ≡ true → record_of_label k ≡ record_of_label label
own_label label support own k s = sym ((Decides-eqb (record_of_label label) (record_of_label k)).0 (own.each k s))
