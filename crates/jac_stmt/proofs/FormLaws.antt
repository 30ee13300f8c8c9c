-- The results of `if` and `for`, from the results of their bodies.
use Rattle.std.proofs.Common.{◌≡◌, ◌∙◌, refl, sym, ap, subst, ℕ, Bool, true, false, if◌then◌else◌, List, [], ◌∷◌, None}
use Rattle.jac_value.specs.declared.value.Value.{Value}
use Rattle.jac_world.specs.World.{holds}
use Rattle.jac_facet.specs.Leaves.{leaves_seen}
use Rattle.jac_facet.specs.Shape.{Shape, at}
use Rattle.jac_lang.specs.declared.application.App.{App}
use Rattle.jac_lang.specs.declared.queries.Binder.{Binder}
use Rattle.jac_lang.specs.Mirror.{application_of}
use Rattle.jac_lang.specs.Syntax.{Expression, Question, Statement, Statements}
use Rattle.jac_rows.specs.Project.{project_at}
use Rattle.jac_rows.specs.declared.state.State.{State}
use Rattle.jac_plain.specs.declared.context.Ctx.{Ctx}
use Rattle.jac_plain.specs.declared.page.Piece.{Piece}
use Rattle.jac_plain.specs.Expressions.{answers, is_true}
use Rattle.jac_plain.specs.Making.{MayRunAll, MayEach}
use Rattle.jac_plain.specs.Statements.{Setting, Run, world_of, value_in, choose, for_each, leaves_all}
use Rattle.jac_query.specs.Live.{live}
use Rattle.jac_query.specs.declared.tuple.Tuple.{Tuple}
use Rattle.jac_expr.specs.Seen.{env_at}
use Rattle.jac_stmt.specs.Runs.{faceted_run, run_at, Executes, RanEach, RunsEach, after_each, MayAll, chosen_at, MayChooseAt, bound_at, MayBindAt, live_under}
use Rattle.jac_stmt.proofs.RunLaws.{MeansAt, value_here, sound_too}
use Rattle.jac_plain.specs.Shown.{setting_around, setting_at, world_at}

-- One value, if the path condition holds.
module _ {X : Type 0} (step : X → Run → Run) (May : X → Run → Type 0) where
  one_if : (c : Bool) (x : X) (r : Run) → after_each step (if c then x ∷ [] else []) r ≡ (if c then step x r else r)
  one_if true x r = refl
  one_if false x r = refl

  may_one : (c : Bool) (x : X) (r : Run) → (c ≡ true → May x r) → MayAll step May (if c then x ∷ [] else []) r
  may_one true x r may = (may refl, tt)
  may_one false x r may = tt

  some_if : (c : Bool) (xs : List X) (r end : Run) → (c ≡ true → after_each step xs r ≡ end) → after_each step (if c then xs else []) r ≡ (if c then end else r)
  some_if true xs r end is = is refl
  some_if false xs r end is = refl

  may_some : (c : Bool) (xs : List X) (r : Run) → (c ≡ true → MayAll step May xs r) → MayAll step May (if c then xs else []) r
  may_some true xs r may = may refl
  may_some false xs r may = tt

pub branches : (app : App) (ctx : Ctx) (e : Expression) (first second : Statements) (pc : List (ℕ × Bool)) (start old new : State) (env env2 : List (List ℕ × Shape Value)) (out out2 : List (List (ℕ × Bool) × Piece))
    (value : Shape Value) (leaves : List (List (ℕ × Bool) × Value))
    → ctx.this ≡ None → old ≡ start → MeansAt app ctx start env pc e value
    → ((w : ℕ → Bool) → leaves_seen w leaves ≡ (if holds w pc then at w value ∷ [] else []))
    → RunsEach (chosen_at app ctx first second) (MayChooseAt app ctx first second) (λ w. leaves_seen w leaves) (faceted_run old env out) (faceted_run new env2 out2)
    → Executes app ctx (Statement.branch e first second) pc (faceted_run start env out) (faceted_run new env2 out2)
branches app ctx e first second pc start old new env env2 out out2 value leaves none same means is each n sound may =
    let r : (ℕ → Bool) → Run = λ w. run_at w (faceted_run start env out) in
    let before : (w : ℕ → Bool) → run_at w (faceted_run old env out) ≡ r w = λ w. ap (λ (s : State). run_at w (faceted_run s env out)) same in
    let read : (w : ℕ → Bool) → holds w pc ≡ true → value_in (setting_at app ctx w) e (r w) ≡ at w value = λ w held. sym (value_here app ctx start env out e w none) ∙ sym (means w held) in
    let asked : (w : ℕ → Bool) → MayAll (chosen_at app ctx first second w) (MayChooseAt app ctx first second n w) (leaves_seen w leaves) (run_at w (faceted_run old env out)) = λ w.
    subst (λ (s : Run). MayAll (chosen_at app ctx first second w) (MayChooseAt app ctx first second n w) (leaves_seen w leaves) s) (sym (before w))
    (subst (λ (vs : List Value). MayAll (chosen_at app ctx first second w) (MayChooseAt app ctx first second n w) vs (r w)) (sym (is w))
    (may_one (chosen_at app ctx first second w) (MayChooseAt app ctx first second n w) (holds w pc) (at w value) (r w)
    (λ held. subst (λ (v : Value). MayChooseAt app ctx first second n w v (r w)) (read w held) (may w held)))) in
    let ran : RanEach n (chosen_at app ctx first second) (λ w. leaves_seen w leaves) (faceted_run old env out) (faceted_run new env2 out2) = each n (sound_too n start old same sound) asked in
    record {
      left = λ w.
          ran.left w
          ∙ ap (λ vs. after_each (chosen_at app ctx first second w) vs (run_at w (faceted_run old env out))) (is w)
          ∙ ap (λ s. after_each (chosen_at app ctx first second w) (if holds w pc then at w value ∷ [] else []) s) (before w)
          ∙ one_if (chosen_at app ctx first second w) (MayChooseAt app ctx first second n w) (holds w pc) (at w value) (r w)
          ∙ by_value (holds w pc) (at w value) (value_in (setting_at app ctx w) e (r w)) (setting_at app ctx w) (r w) (λ held. sym (read w held));
      sound = ran.sound;
    }
  where
    by_value : (c : Bool) (v u : Value) (k : Setting) (r : Run) → (c ≡ true → v ≡ u)
        → (if c then choose (is_true v) (leaves_all k first) (leaves_all k second) r else r) ≡ (if c then choose (is_true u) (leaves_all k first) (leaves_all k second) r else r)
    by_value true v u k r e = ap (λ x. choose (is_true x) (leaves_all k first) (leaves_all k second) r) (e refl)
    by_value false v u k r e = refl

-- The body for each tuple.
each-bound : (app : App) (ctx : Ctx) (bs : List Binder) (body : Statements) (w : ℕ → Bool) (tuples : List (List ℕ)) (r : Run)
    → after_each (bound_at app ctx bs body w) tuples r ≡ for_each bs (λ ids. leaves_all (setting_around app ctx ids w) body) tuples r
each-bound app ctx bs body w [] r = refl
each-bound app ctx bs body w (ids ∷ tuples) r = each-bound app ctx bs body w tuples (bound_at app ctx bs body w ids r)

may-bound : (app : App) (ctx : Ctx) (bs : List Binder) (body : Statements) (n : ℕ) (w : ℕ → Bool) (tuples : List (List ℕ)) (r : Run)
    → MayEach bs (λ ids. leaves_all (setting_around app ctx ids w) body) (λ ids. MayRunAll n (setting_around app ctx ids w) body) tuples r → MayAll (bound_at app ctx bs body w) (MayBindAt app ctx bs body n w) tuples r
may-bound app ctx bs body n w [] r may = tt
may-bound app ctx bs body n w (ids ∷ tuples) r may = (may.0, may-bound app ctx bs body n w tuples (bound_at app ctx bs body w ids r) may.1)

pub repeats : (app : App) (ctx : Ctx) (q : Question) (body : Statements) (pc : List (ℕ × Bool)) (start old new : State) (env env2 : List (List ℕ × Shape Value)) (out out2 : List (List (ℕ × Bool) × Piece)) (ts : List Tuple)
    → ctx.this ≡ None → old ≡ start
    → ((w : ℕ → Bool) → holds w pc ≡ true → live w ts ≡ answers (world_at app ctx start w) q (env_at w env))
    → RunsEach (bound_at app ctx q.binders body) (MayBindAt app ctx q.binders body) (live_under pc ts) (faceted_run old env out) (faceted_run new env2 out2)
    → Executes app ctx (Statement.each q body) pc (faceted_run start env out) (faceted_run new env2 out2)
repeats app ctx q body pc start old new env env2 out out2 ts none same found each n sound may =
    let bs = q.binders in
    let r : (ℕ → Bool) → Run = λ w. run_at w (faceted_run start env out) in
    let before : (w : ℕ → Bool) → run_at w (faceted_run old env out) ≡ r w = λ w. ap (λ (s : State). run_at w (faceted_run s env out)) same in
    let tuples : (w : ℕ → Bool) → holds w pc ≡ true → live w ts ≡ answers (world_of (setting_at app ctx w) (r w)) q (r w).env = λ w held.
    found w held ∙ ap (λ this. answers (record { models = (application_of app).models; this = this; viewer = ctx.viewer; tables = (project_at w start).tables }) q (env_at w env)) none in
    let asked : (w : ℕ → Bool) → MayAll (bound_at app ctx bs body w) (MayBindAt app ctx bs body n w) (live_under pc ts w) (run_at w (faceted_run old env out)) = λ w.
    subst (λ (s : Run). MayAll (bound_at app ctx bs body w) (MayBindAt app ctx bs body n w) (live_under pc ts w) s) (sym (before w))
    (may_some (bound_at app ctx bs body w) (MayBindAt app ctx bs body n w) (holds w pc) (live w ts) (r w)
    (λ held.
    subst (λ (xs : List (List ℕ)). MayAll (bound_at app ctx bs body w) (MayBindAt app ctx bs body n w) xs (r w)) (sym (tuples w held))
    (may-bound app ctx bs body n w (answers (world_of (setting_at app ctx w) (r w)) q (r w).env) (r w) (may w held)))) in
    let ran : RanEach n (bound_at app ctx bs body) (live_under pc ts) (faceted_run old env out) (faceted_run new env2 out2) = each n (sound_too n start old same sound) asked in
    record {
      left = λ w.
          ran.left w
          ∙ ap (λ s. after_each (bound_at app ctx bs body w) (live_under pc ts w) s) (before w)
          ∙ some_if (bound_at app ctx bs body w) (MayBindAt app ctx bs body n w) (holds w pc) (live w ts) (r w)
          (for_each bs (λ ids. leaves_all (setting_around app ctx ids w) body) (answers (world_of (setting_at app ctx w) (r w)) q (r w).env) (r w))
          (λ held. each-bound app ctx bs body w (live w ts) (r w) ∙ ap (λ xs. for_each bs (λ ids. leaves_all (setting_around app ctx ids w) body) xs (r w)) (tuples w held));
      sound = ran.sound;
    }
