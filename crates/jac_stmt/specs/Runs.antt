-- What a statement leaves, under all assignments at once.
use Rattle.std.specs.Prelude.{◌≡◌, ℕ, ◌<◌, ◌^◌, Bool, true, false, if◌then◌else◌, List, [], ◌∷◌, ◌++◌, ⊤}
use Rattle.jac_value.specs.declared.value.Value.{Value}
use Rattle.jac_world.specs.World.{holds}
use Rattle.jac_facet.specs.Leaves.{leaves_seen}
use Rattle.jac_facet.specs.Shape.{Shape}
use Rattle.jac_lang.specs.declared.application.App.{App}
use Rattle.jac_lang.specs.Mirror.{application_of}
use Rattle.jac_lang.specs.Syntax.{Statement, Statements}
use Rattle.jac_rows.specs.Good.{IsSound}
use Rattle.jac_rows.specs.Project.{project_at}
use Rattle.jac_rows.specs.declared.state.State.{State}
use Rattle.jac_plain.specs.declared.context.Ctx.{Ctx}
use Rattle.jac_plain.specs.declared.page.Piece.{Piece}
use Rattle.jac_lang.specs.declared.queries.Binder.{Binder}
use Rattle.jac_plain.specs.Expressions.{bound, binding, is_true}
use Rattle.jac_plain.specs.Making.{MayRun, MayRunAll, MayChoose, with_env}
use Rattle.jac_plain.specs.Statements.{Setting, Run, choose, scoped_run, with_binding, loop_of, leaves, leaves_all}
use Rattle.jac_query.specs.Live.{live}
use Rattle.jac_query.specs.declared.tuple.Tuple.{Tuple}
use Rattle.jac_expr.specs.declared.faceted_context.FacetedContext.{FacetedContext}
use Rattle.jac_expr.specs.Seen.{env_at}
use Rattle.jac_write.specs.Writes.{numbered_tables}
use Rattle.jac_stmt.specs.declared.frame.Frame.{Frame}
use Rattle.jac_plain.specs.Shown.{setting_around, setting_at}

-- A run under all assignments: the state of its work, the names in scope, and the pieces under
-- their guards.
pub record Faceted : Type 0 where
  pub state : State
  pub env : List (List ℕ × Shape Value)
  pub out : List (List (ℕ × Bool) × Piece)

abbrev pub faceted_run : State → List (List ℕ × Shape Value) → List (List (ℕ × Bool) × Piece)
    → Faceted
faceted_run s env out = record { state = s; env = env; out = out }

abbrev pub run_over : State → Frame → Faceted
run_over s frame = faceted_run s frame.env frame.out

-- The run that an assignment shows.
abbrev pub run_at : (ℕ → Bool) → Faceted → Run
run_at w f = record {
  tables = (project_at w f.state).tables;
  env = env_at w f.env;
  pieces = leaves_seen w f.out;
}

abbrev pub setting_here : FacetedContext → (ℕ → Bool) → Setting
setting_here here w = setting_at here.app.now here.ctx.now w

-- Under the assignments that pass the test, the run is the result of the step. Under the others it
-- is as before. Tables that are sound with the next number `n` stay sound.
pub record RanWhere (n : ℕ) (step : (ℕ → Bool) → Run → Run) (where_ : (ℕ → Bool)
    → Bool) (old new : Faceted) : Type 0 where
  pub left : (w : ℕ → Bool) → run_at w new ≡ (if where_ w then step w (run_at w old)
      else run_at w old)
  pub sound : IsSound (numbered_tables n new.state)

-- The result of a step on sound tables, if the records that it makes are new under each assignment
-- that passes the test.
abbrev pub RunsFaceted : ((ℕ → Bool) → Run → Run) → (ℕ → (ℕ → Bool) → Run → Type 0) → ((ℕ → Bool)
    → Bool)
    → Faceted → Faceted → Type 0
RunsFaceted step May where_ old new =
    (n : ℕ) → IsSound (numbered_tables n old.state) → ((w : ℕ → Bool) → where_ w ≡ true
    → May n w (run_at w old)) → RanWhere n step where_ old new

-- The result of the interpreter's statement, wherever the path condition holds.
abbrev pub Executes : App → Ctx → Statement → List (ℕ × Bool) → Faceted → Faceted → Type 0
Executes app ctx s pc old new =
    RunsFaceted (λ w. leaves (setting_at app ctx w) s) (λ n w. MayRun n (setting_at app ctx w) s)
    (λ w. holds w pc) old new

abbrev pub ExecutesAll : App → Ctx → Statements → List (ℕ × Bool) → Faceted → Faceted → Type 0
ExecutesAll app ctx ss pc old new =
    RunsFaceted (λ w. leaves_all (setting_at app ctx w) ss) (λ n w. MayRunAll n
    (setting_at app ctx w) ss)
    (λ w. holds w pc) old new

-- The same for a statement in this context.
abbrev pub ExecutesHere : FacetedContext → Statement → Faceted → Faceted → Type 0
ExecutesHere here s old new = Executes here.app.now here.ctx.now s here.pc.now old new

abbrev pub ExecutesAllHere : FacetedContext → Statements → Faceted → Faceted → Type 0
ExecutesAllHere here ss old new = ExecutesAll here.app.now here.ctx.now ss here.pc.now old new

abbrev mutual
  -- The statement has no template, and the ids that its creates give are valid.
  pub IsRunnable : ℕ → Statement → Type 0
  IsRunnable number (Statement.put e) = ⊤
  IsRunnable number (Statement.escape e) = ⊤
  IsRunnable number (Statement.bind x e body) = AreRunnable number body
  IsRunnable number (Statement.assign x e) = ⊤
  IsRunnable number (Statement.branch c first second) = AreRunnable number first
      × AreRunnable number second
  IsRunnable number (Statement.each q body) = AreRunnable number body
  IsRunnable number (Statement.create x m site cells body) = (0 < number) × (number < 2 ^ 40)
      × (site < 64) × AreRunnable number body
  IsRunnable number (Statement.update m e cells) = ⊤
  IsRunnable number (Statement.delete m e) = ⊤
  IsRunnable number Statement.missing = ⊤
  IsRunnable number (Statement.redirect e) = ⊤
  IsRunnable number (Statement.template t) = false ≡ true
  IsRunnable number (Statement.block body) = AreRunnable number body

  pub AreRunnable : ℕ → Statements → Type 0
  AreRunnable number Statements.none = ⊤
  AreRunnable number (Statements.more s rest) = IsRunnable number s × AreRunnable number rest

-- A step for each of the values, one after another.
abbrev pub after_each : {X : Type 0} → (X → Run → Run) → List X → Run → Run
after_each step [] r = r
after_each step (x ∷ xs) r = after_each step xs (step x r)

-- What each step requires of the run that the steps before it leave.
abbrev pub MayAll : {X : Type 0} → (X → Run → Run) → (X → Run → Type 0) → List X → Run → Type 0
MayAll step May [] r = ⊤
MayAll step May (x ∷ xs) r = May x r × MayAll step May xs (step x r)

-- The run is the result of a step for each of the values that an assignment shows.
pub record RanEach {X : Type 0} (n : ℕ) (step : (ℕ → Bool) → X → Run → Run) (values : (ℕ → Bool)
    → List X) (old new : Faceted) : Type 0 where
  pub left : (w : ℕ → Bool) → run_at w new ≡ after_each (step w) (values w) (run_at w old)
  pub sound : IsSound (numbered_tables n new.state)

abbrev pub RunsEach : {X : Type 0} → ((ℕ → Bool) → X → Run → Run) → (ℕ → (ℕ → Bool) → X → Run
    → Type 0) → ((ℕ → Bool) → List X) → Faceted → Faceted → Type 0
RunsEach step May values old new =
    (n : ℕ) → IsSound (numbered_tables n old.state)
    → ((w : ℕ → Bool) → MayAll (step w) (May n w) (values w) (run_at w old))
    → RanEach n step values old new

-- The one body or the other, by a value.
abbrev pub chosen_at : App → Ctx → Statements → Statements → (ℕ → Bool) → Value → Run → Run
chosen_at app ctx first second w v = choose (is_true v) (leaves_all (setting_at app ctx w) first)
    (leaves_all (setting_at app ctx w) second)

abbrev pub MayChooseAt : App → Ctx → Statements → Statements → ℕ → (ℕ → Bool) → Value → Run → Type 0
MayChooseAt app ctx first second n w v = MayChoose (is_true v) (MayRunAll n (setting_at app ctx w)
    first) (MayRunAll n (setting_at app ctx w) second)

-- The body with the binders bound to a tuple. It makes records around the tuple's record.
abbrev pub bound_at : App → Ctx → List Binder → Statements → (ℕ → Bool) → List ℕ → Run → Run
bound_at app ctx bs body w ids r = scoped_run (bound bs ids r.env)
    (leaves_all (setting_around app ctx ids w) body) r

abbrev pub MayBindAt : App → Ctx → List Binder → Statements → ℕ → (ℕ → Bool) → List ℕ → Run → Type 0
MayBindAt app ctx bs body n w ids r = MayRunAll n (setting_around app ctx ids w) body
    (with_env (bound bs ids r.env) r)

-- The body with a name bound to a value.
abbrev pub named_at : App → Ctx → List ℕ → ((ℕ → Bool) → Value) → Statements → (ℕ → Bool) → Run
    → Run
named_at app ctx name value_at body w r = with_binding name (value_at w)
    (leaves_all (setting_at app ctx w) body) r

abbrev pub MayNameAt : App → Ctx → List ℕ → ((ℕ → Bool) → Value) → Statements → ℕ → (ℕ → Bool) → Run
    → Type 0
MayNameAt app ctx name value_at body n w r = MayRunAll n (setting_at app ctx w) body
    (with_env (r.env ++ binding name (value_at w) ∷ []) r)

-- The tuples that hold, if the path condition holds.
abbrev pub live_under : List (ℕ × Bool) → List Tuple → (ℕ → Bool) → List (List ℕ)
live_under pc ts w = if holds w pc then live w ts else []
