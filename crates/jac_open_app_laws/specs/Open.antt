-- Open applications, which hide no record and whose policies read no guarded field, and the states
-- that these policies can't tell apart.
use Rattle.std.specs.Prelude.{◌≡◌, ℕ, ◌+◌, ◌&&◌, not, Bool, true, false, if◌then◌else◌, List, [], ◌∷◌, Option, Some, None, is_some}
use Rattle.jac_value.specs.declared.value.Value.{Value}
use Rattle.jac_value.specs.declared.value.Value.TheVariants as value
use Rattle.jac_value.specs.Ids.{record_of_label}
use Rattle.jac_lang.specs.declared.queries.Binder.{Binder}
use Rattle.jac_lang.specs.declared.queries.Order.{Order}
use Rattle.jac_lang.specs.declared.queries.Order.TheVariants as orders
use Rattle.jac_lang.specs.Lookup.{model_place, fields_at, groups_at, group_in, field_place}
use Rattle.jac_lang.specs.Syntax.{Entity, Expression, Expressions, FieldGroup, Application}
use Rattle.jac_rows.specs.Project.{project_at}
use Rattle.jac_rows.specs.declared.plain.PlainRow.{PlainRow}
use Rattle.jac_rows.specs.declared.plain.PlainState.{PlainState}
use Rattle.jac_rows.specs.declared.state.State.{State}
use Rattle.jac_plain.specs.Expressions.{model_of_binder}
use Rattle.jac_plain.specs.Policies.{IsLiveLabel, labelled_group, policy_is_true, policy_world}
use Rattle.jac_plain.specs.Records.{each_cell, plain_row}
use Rattle.jac_plain.specs.Requests.{Worlds}

-- A group guards this field of this model. Both are given by their places.
abbrev pub is_guarded_at : List Entity → ℕ → ℕ → Bool
is_guarded_at models m f = is_some (group_in (groups_at models m) (fields_at models m) f)

-- No group guards the field, or there is no such field.
abbrev pub is_open_place : List Entity → ℕ → Option ℕ → Bool
is_open_place models m None = true
is_open_place models m (Some f) = not (is_guarded_at models m f)

-- No group guards the field of this name in the model at this place, or there is no such model.
abbrev pub is_open_in : List Entity → Option ℕ → List ℕ → Bool
is_open_in models None field = true
is_open_in models (Some m) field = is_open_place models m (field_place (fields_at models m) field)

-- No group guards the field of this name. If there is no such field or model, no cell is read.
abbrev pub is_open_field : List Entity → List ℕ → List ℕ → Bool
is_open_field models model field = is_open_in models (model_place models model) field

-- No group guards the field by which the query is sorted.
abbrev pub is_open_order : List Entity → List Binder → Order → Bool
is_open_order models bs orders.Key = true
is_open_order models bs (orders.Up x field) = is_open_field models (model_of_binder bs x) field
is_open_order models bs (orders.Down x field) = is_open_field models (model_of_binder bs x) field

abbrev mutual
  -- No `get`, `up` or `down` of the expression names a field that a group guards.
  pub is_open : List Entity → Expression → Bool
  is_open models (Expression.get m f e) = is_open_field models m f && is_open models e
  is_open models (Expression.live e) = is_open models e
  is_open models (Expression.two o a b) = is_open models a && is_open models b
  is_open models (Expression.negated e) = is_open models e
  is_open models (Expression.cat es) = are_open models es
  is_open models (Expression.str e) = is_open models e
  is_open models (Expression.pick c a b) =
      is_open models c && (is_open models a && is_open models b)
  is_open models (Expression.count bs c o) = is_open models c && is_open_order models bs o
  is_open models (Expression.sum bs c o e) =
      is_open models c && (is_open_order models bs o && is_open models e)
  is_open models (Expression.any_of bs c o) = is_open models c && is_open_order models bs o
  is_open models (Expression.first bs c o) = is_open models c && is_open_order models bs o
  is_open models e = true

  -- The same of each of several expressions.
  pub are_open : List Entity → Expressions → Bool
  are_open models Expressions.none = true
  are_open models (Expressions.more e es) = is_open models e && are_open models es

-- None of these groups hides records, and their policies are open.
abbrev pub are_open_groups : List Entity → List FieldGroup → Bool
are_open_groups models [] = true
are_open_groups models (g ∷ gs) =
    not g.hides && (is_open models g.policy && are_open_groups models gs)

-- The groups of these models are open.
abbrev pub are_open_models : List Entity → List Entity → Bool
are_open_models models [] = true
are_open_models models (m ∷ more) =
    are_open_groups models m.groups && are_open_models models more

-- An application is open if no group hides records, and no policy reads a field that a group
-- guards.
abbrev pub is_open_app : Application → Bool
is_open_app app = are_open_models app.models app.models

-- The cells of a record, with the same value in each guarded cell.
abbrev pub masked_cells : List Entity → ℕ → List Value → List Value
masked_cells models m cells =
    each_cell (λ f cell. if is_guarded_at models m f then value.Bool false else cell) 0 cells

-- The records of a model with masked cells. Their ids stay.
abbrev pub masked_records : List Entity → ℕ → List PlainRow → List PlainRow
masked_records models m [] = []
masked_records models m (r ∷ rows) =
    plain_row r.id (masked_cells models m r.cells) ∷ masked_records models m rows

-- The tables of the models from this place on, masked.
abbrev pub masked_tables : List Entity → ℕ → List (List PlainRow) → List (List PlainRow)
masked_tables models m [] = []
masked_tables models m (rows ∷ tables) =
    masked_records models m rows ∷ masked_tables models (m + 1) tables

-- The state without the values of guarded cells.
abbrev pub masked_state : Application → PlainState → PlainState
masked_state app t = record { tables = masked_tables app.models 0 t.tables; number = t.number }

-- The states are equal except for the cells of guarded fields.
abbrev pub AreAlike : Application → PlainState → PlainState → Type 0
AreAlike app t u = masked_state app t ≡ masked_state app u

-- Any two assignments show states that are alike: which records there are, and what their unguarded
-- fields hold, depends on no label.
abbrev pub AreEven : Application → Worlds → Type 0
AreEven app worlds = (v w : ℕ → Bool) → AreAlike app (worlds v) (worlds w)

-- The same of a faceted state.
abbrev pub IsEven : Application → State → Type 0
IsEven app s = AreEven app (λ w. project_at w s)

-- The assignment that shows nothing.
abbrev pub nothing : ℕ → Bool
nothing k = false

-- The policy of the label's group is true for its record.
abbrev pub is_policy_true : Application → PlainState → Option ℕ → ℕ → Bool
is_policy_true app t viewer k =
    policy_is_true (labelled_group app k) (policy_world app t viewer (record_of_label k))

-- A label is granted if it is live and its policy is true under the assignment that shows nothing.
pub record IsGranted (app : Application) (worlds : Worlds) (viewer : Option ℕ) (k : ℕ) : Type 0
  where
    pub live : IsLiveLabel app worlds k
    pub policy : is_policy_true app (worlds nothing) viewer k ≡ true
