-- Conditions for a policy to consult only labels of its own record: its expression is local, and
-- names are bound to records of models without groups.
use Rattle.std.specs.Prelude.{◌≡◌, ◌&&◌, ℕ, Bool, true, List, [], ◌∷◌, Option, Some, None, Result, OnOk}
use Rattle.std.specs.List.{list_all}
use Rattle.jac_value.specs.Ids.{model_of_id}
use Rattle.jac_value.specs.declared.value.Value.{Value}
use Rattle.jac_value.specs.declared.value.Value.TheVariants as value
use Rattle.jac_lang.specs.declared.bindings.Binding.{Binding}
use Rattle.jac_lang.specs.declared.queries.Binder.{Binder}
use Rattle.jac_lang.specs.declared.queries.Order.{Order}
use Rattle.jac_lang.specs.declared.queries.Order.TheVariants as orders
use Rattle.jac_lang.specs.Syntax.{Expression, Expressions, Application, Question}
use Rattle.jac_rows.specs.declared.state.State.{State}
use Rattle.jac_keep.specs.declared.stop.Stop.{Stop}
use Rattle.jac_plain.specs.Expressions.{bound, model_of_binder}
use Rattle.jac_shown_rows.specs.Seen.{app_at}
use Rattle.jac_shown_rows.specs.declared.world_context.WorldContext.{WorldContext}
use Rattle.jac_shown_rows.specs.RecordIds.{lengthened_tuples}
use Rattle.jac_shown_rows.specs.Local.{are_free, is_free, is_free_viewer, is_free_query, is_local, are_local, IsLocalCase}
use Rattle.jac_shown_rows.specs.Own.{IsOwn, is_own_table, table_named}

-- The guards of all rows over which the binders range name only labels of the record.
abbrev pub are_own_tables : Option ℕ → Application → State → List Binder → Bool
are_own_tables this app s [] = true
are_own_tables this app s (b ∷ bs) = is_own_table this (table_named app s b.model) && are_own_tables
    this app s bs

-- The guards of the rows that the order reads name only labels of the record.
abbrev pub is_own_order : Option ℕ → Application → State → List Binder → Order → Bool
is_own_order this app s bs orders.Key = true
is_own_order this app s bs (orders.Up name field) =
    is_own_table this (table_named app s (model_of_binder bs name))
is_own_order this app s bs (orders.Down name field) =
    is_own_table this (table_named app s (model_of_binder bs name))

-- The value refers to no record of a model with groups.
abbrev pub is_free_value : Application → Value → Bool
is_free_value app (value.Ref (Some id)) = is_free app.models (model_of_id id)
is_free_value app v = true

-- No name is bound to a record of a model with groups.
abbrev pub is_free_env : Application → List Binding → Bool
is_free_env app env = list_all (λ b. is_free_value app b.bound_to) env

-- When the tuple and any of the last ids are bound, no name is bound to a record of a model with
-- groups. If there are no last ids, this is true when the tuple is bound, and each binder ranges
-- over a model without groups.
abbrev pub begins_free : Application → List Binder → List Binding → Option (List ℕ) → List ℕ → Bool
begins_free app bs env (Some js) ids = list_all (λ t. is_free_env app (bound bs t env))
    (lengthened_tuples ids js)
begins_free app bs env None ids = is_free_env app (bound bs ids env) && are_free app.models bs

-- A local case in which the test is true.
pub record IsLocally (app : Application) (s : State) (viewer : Option ℕ) (test : Bool) : Type 0
  where
    pub case : IsLocalCase app s viewer
    pub passed : test ≡ true

-- The expression is local, and by the test no name is bound to a record of a model with groups.
abbrev pub reads_locally : Application → Bool → Expression → Bool
reads_locally app free e = free && is_local app.models (is_free_viewer app) e

abbrev pub read_locally : Application → Bool → Expressions → Bool
read_locally app free es = free && are_local app.models (is_free_viewer app) es

-- The same for a query.
abbrev pub asks_locally : Application → Bool → Question → Bool
asks_locally app free q = free && (is_free_query app.models q.binders q.order && is_local app.models
    (is_free_viewer app) q.cond)

-- In a local case in which the test is true, a support that held only labels of the record still
-- does so afterwards.
abbrev pub KeepsOwn : {T : Type 0} → WorldContext → State → Bool → List ℕ → List ℕ → Result T Stop
    → Type 0
KeepsOwn at s test old new result = IsLocally (app_at at) s at.ctx.now.viewer test
    → IsOwn at.ctx.now.this old → OnOk result (IsOwn at.ctx.now.this new)
