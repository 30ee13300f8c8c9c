-- What an assignment shows of a state, of the names in scope and of a value.
use Rattle.std.specs.Prelude.{◌≡◌, ℕ, Bool, true, List, [], ◌∷◌, Result, IfOk}
use Rattle.jac_value.specs.declared.value.Value.{Value}
use Rattle.jac_world.specs.World.{holds}
use Rattle.jac_facet.specs.Shape.{Shape, at}
use Rattle.jac_lang.specs.declared.bindings.Binding.{Binding}
use Rattle.jac_lang.specs.declared.queries.Binder.{Binder}
use Rattle.jac_lang.specs.declared.queries.Order.{Order}
use Rattle.jac_lang.specs.Syntax.{Expression, Question}
use Rattle.jac_rows.specs.declared.state.State.{State}
use Rattle.jac_keep.specs.declared.alteration.Alterations.{Alterations}
use Rattle.jac_keep.specs.declared.stop.Stop.{Stop}
use Rattle.jac_keep.specs.declared.work.WorkOver.{WorkOver}
use Rattle.jac_keep.specs.KeeperSeen.{KeeperSeen}
use Rattle.jac_keep.specs.WorkState.{state_of, IsTold}
use Rattle.jac_plain.specs.Expressions.{binding, mean}
use Rattle.jac_plain.specs.World.{World}
use Rattle.jac_expr.specs.declared.faceted_context.FacetedContext.{FacetedContext}
use Rattle.jac_plain.specs.Shown.{world_at}

-- The world that an assignment shows in this context.
abbrev pub world_here : FacetedContext → State → (ℕ → Bool) → World
world_here here s w = world_at here.app.now here.ctx.now s w

-- The bindings that an assignment shows.
abbrev pub env_at : (ℕ → Bool) → List (List ℕ × Shape Value) → List Binding
env_at w [] = []
env_at w (b ∷ bs) = binding b.0 (at w b.1) ∷ env_at w bs

-- Wherever the path condition holds, the facet shows the value of the expression.
abbrev pub Means : FacetedContext → State → List (List ℕ × Shape Value) → Expression → Shape Value
    → Type 0
Means here s env e f = (w : ℕ → Bool) → holds w here.pc.now ≡ true
    → at w f ≡ mean (world_here here s w) e (env_at w env)

-- If the state is known afterwards, the facet has the value of the expression in the state before.
abbrev pub Evaluates : {K : Type 0} → (K → KeeperSeen) → WorkOver K Alterations
    → WorkOver K Alterations → FacetedContext → List (List ℕ × Shape Value)
    → Result (Shape Value) Stop → Expression → Type 0
Evaluates seen old new here env result e = IsTold seen new
    → IfOk result (Means here (state_of seen old) env e)

-- An expression that contains a query.
abbrev pub query_expression : {T : Type 0} → (List Binder → Expression → Order → T) → Question → T
query_expression form q = form q.binders q.cond q.order
