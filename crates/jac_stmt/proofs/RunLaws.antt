-- Runs under all assignments: the result of a step, and how steps are joined.
use Rattle.std.proofs.Math.Seq.{take-append_seam}
use Rattle.std.proofs.Common.{◌≡◌, ◌∙◌, refl, sym, ap, subst, ℕ, Bool, true, false, if◌then◌else◌, List, [], ◌∷◌, ◌++◌, length, take, append-nil, zero, suc, None}
use Rattle.jac_value.specs.declared.value.Value.{Value}
use Rattle.jac_world.specs.World.{holds}
use Rattle.jac_facet.specs.Leaves.{leaves_seen}
use Rattle.jac_facet.specs.Shape.{Shape, at}
use Rattle.jac_lang.specs.declared.application.App.{App}
use Rattle.jac_lang.specs.declared.bindings.Binding.{Binding}
use Rattle.jac_lang.specs.Mirror.{application_of}
use Rattle.jac_lang.specs.Syntax.{Expression, Statement}
use Rattle.jac_rows.specs.Good.{IsSound}
use Rattle.jac_rows.specs.Project.{project_at}
use Rattle.jac_rows.specs.declared.state.State.{State}
use Rattle.jac_plain.specs.declared.context.Ctx.{Ctx}
use Rattle.jac_plain.specs.declared.page.Piece.{Piece}
use Rattle.jac_plain.specs.Expressions.{mean, binding}
use Rattle.jac_plain.specs.Making.{MayRun, with_env}
use Rattle.jac_plain.specs.Statements.{Run, value_in, with_piece, cut_to, scoped_run, with_value, leaves}
use Rattle.jac_expr.specs.Seen.{env_at}
use Rattle.jac_expr.proofs.Names.{env_at-append}
use Rattle.jac_write.specs.Writes.{PlainTables, numbered_tables, Written, Writes}
use Rattle.jac_plain.specs.Pieces.{piece_of}
use Rattle.jac_stmt.specs.Runs.{Faceted, faceted_run, run_at, RanWhere, RunsFaceted, Executes}
use Rattle.jac_plain.specs.declared.pieces.Form.{Form}
use Rattle.jac_plain.specs.Shown.{setting_at, world_at}

-- Wherever the path condition holds, the faceted value shows the value of the expression.
abbrev pub MeansAt : App → Ctx → State → List (List ℕ × Shape Value) → List (ℕ × Bool) → Expression → Shape Value → Type 0
MeansAt app ctx s env pc e f = (w : ℕ → Bool) → holds w pc ≡ true → at w f ≡ mean (world_at app ctx s w) e (env_at w env)

-- An expression is read in the run's world, because a statement has no record.
pub value_here : (app : App) (ctx : Ctx) (s : State) (env : List (List ℕ × Shape Value)) (out : List (List (ℕ × Bool) × Piece)) (e : Expression) (w : ℕ → Bool)
    → ctx.this ≡ None → mean (world_at app ctx s w) e (env_at w env) ≡ value_in (setting_at app ctx w) e (run_at w (faceted_run s env out))
value_here app ctx s env out e w none =
    ap (λ this. mean (record { models = (application_of app).models; this = this; viewer = ctx.viewer; tables = (project_at w s).tables }) e (env_at w env)) none

-- Nothing is done.
stays_if : (c : Bool) (step : Run → Run) (r : Run) → (c ≡ true → step r ≡ r) → r ≡ (if c then step r else r)
stays_if true step r h = sym (h refl)
stays_if false step r h = refl

pub nothing_runs : (step : (ℕ → Bool) → Run → Run) (May : ℕ → (ℕ → Bool) → Run → Type 0) (where_ : (ℕ → Bool) → Bool) (s : State) (env : List (List ℕ × Shape Value)) (out : List (List (ℕ × Bool) × Piece))
    → ((w : ℕ → Bool) → where_ w ≡ true → step w (run_at w (faceted_run s env out)) ≡ run_at w (faceted_run s env out))
    → RunsFaceted step May where_ (faceted_run s env out) (faceted_run s env out)
nothing_runs step May where_ s env out same n sound may = record {
  left = λ w. stays_if (where_ w) (step w) (run_at w (faceted_run s env out)) (same w);
  sound = sound;
}

-- A step that doesn't change the tables.
pub tables_stay : (step : (ℕ → Bool) → Run → Run) (May : ℕ → (ℕ → Bool) → Run → Type 0) (where_ : (ℕ → Bool) → Bool) (old new : State)
    (env env2 : List (List ℕ × Shape Value)) (out out2 : List (List (ℕ × Bool) × Piece)) → new ≡ old
    → ((w : ℕ → Bool) → run_at w (faceted_run old env2 out2) ≡ (if where_ w then step w (run_at w (faceted_run old env out)) else run_at w (faceted_run old env out)))
    → RunsFaceted step May where_ (faceted_run old env out) (faceted_run new env2 out2)
tables_stay step May where_ old new env env2 out out2 same left n sound may = record {
  left = λ w. ap (λ s. run_at w (faceted_run s env2 out2)) same ∙ left w;
  sound = subst (λ (s : State). IsSound (numbered_tables n s)) (sym same) sound;
}

-- One more piece.

piece_if : (c : Bool) (p : Piece) (r : Run) (step : Run → Run) (pieces : List Piece) → pieces ≡ r.pieces ++ (if c then p ∷ [] else []) → (c ≡ true → step r ≡ with_piece p r)
    → record r { pieces = pieces } ≡ (if c then step r else r)
piece_if true p r step pieces added is = ap (λ ps. record r { pieces = ps }) added ∙ sym (is refl)
piece_if false p r step pieces added is = ap (λ ps. record r { pieces = ps }) (added ∙ append-nil r.pieces)

pub adds_piece : (app : App) (ctx : Ctx) (s : Statement) (pc : List (ℕ × Bool)) (old new : State) (env : List (List ℕ × Shape Value)) (out out2 : List (List (ℕ × Bool) × Piece)) (piece : (ℕ → Bool) → Piece)
    → new ≡ old
    → ((w : ℕ → Bool) → holds w pc ≡ true → leaves (setting_at app ctx w) s (run_at w (faceted_run old env out)) ≡ with_piece (piece w) (run_at w (faceted_run old env out)))
    → ((w : ℕ → Bool) → leaves_seen w out2 ≡ leaves_seen w out ++ (if holds w pc then piece w ∷ [] else []))
    → Executes app ctx s pc (faceted_run old env out) (faceted_run new env out2)
adds_piece app ctx s pc old new env out out2 piece same is added =
    tables_stay _ (λ n w. MayRun n (setting_at app ctx w) s) (λ w. holds w pc) old new env env out out2 same
    (λ w. piece_if (holds w pc) (piece w) (run_at w (faceted_run old env out)) (leaves (setting_at app ctx w) s) (leaves_seen w out2) (added w) (is w))

-- The value of an expression is added to the page.
pub adds_value : (app : App) (ctx : Ctx) (form : Form) (s : Statement) (e : Expression) (pc : List (ℕ × Bool)) (old new : State) (env : List (List ℕ × Shape Value)) (out out2 : List (List (ℕ × Bool) × Piece)) (value : Shape Value)
    → ctx.this ≡ None
    → ((w : ℕ → Bool) (r : Run) → leaves (setting_at app ctx w) s r ≡ with_piece (piece_of form (value_in (setting_at app ctx w) e r)) r)
    → new ≡ old → MeansAt app ctx old env pc e value
    → ((w : ℕ → Bool) → leaves_seen w out2 ≡ leaves_seen w out ++ (if holds w pc then piece_of form (at w value) ∷ [] else []))
    → Executes app ctx s pc (faceted_run old env out) (faceted_run new env out2)
adds_value app ctx form s e pc old new env out out2 value none is same means added =
    adds_piece app ctx s pc old new env out out2 (λ w. piece_of form (at w value)) same
    (λ w held.
    let r : Run = run_at w (faceted_run old env out) in
    is w r ∙ ap (λ v. with_piece (piece_of form v) r) (sym (value_here app ctx old env out e w none) ∙ sym (means w held)))
    added

-- Another value of a name.
env_if : (c : Bool) (step : Run → Run) (r : Run) (changed env2 : List Binding) → env2 ≡ (if c then changed else r.env) → (c ≡ true → step r ≡ with_env changed r)
    → with_env env2 r ≡ (if c then step r else r)
env_if true step r changed env2 e is = ap (λ es. with_env es r) e ∙ sym (is refl)
env_if false step r changed env2 e is = ap (λ es. with_env es r) e

pub assigns : (app : App) (ctx : Ctx) (name : List ℕ) (e : Expression) (pc : List (ℕ × Bool)) (old new : State) (env env2 : List (List ℕ × Shape Value)) (out : List (List (ℕ × Bool) × Piece)) (value : Shape Value)
    → ctx.this ≡ None → new ≡ old → MeansAt app ctx old env pc e value
    → ((w : ℕ → Bool) → env_at w env2 ≡ (if holds w pc then with_value name (at w value) (env_at w env) else env_at w env))
    → Executes app ctx (Statement.assign name e) pc (faceted_run old env out) (faceted_run new env2 out)
assigns app ctx name e pc old new env env2 out value none same means changed =
    tables_stay _ (λ n w. MayRun n (setting_at app ctx w) (Statement.assign name e)) (λ w. holds w pc) old new env env2 out out same
    (λ w. env_if (holds w pc) (leaves (setting_at app ctx w) (Statement.assign name e)) (run_at w (faceted_run old env out)) (with_value name (at w value) (env_at w env)) (env_at w env2) (changed w)
    (λ held. ap (λ v. with_env (with_value name v (env_at w env)) (run_at w (faceted_run old env out))) (sym (value_here app ctx old env out e w none) ∙ sym (means w held))))

-- Names that are bound for a while.

env_at-take : (w : ℕ → Bool) (n : ℕ) (es : List (List ℕ × Shape Value)) → env_at w (take n es) ≡ take n (env_at w es)
env_at-take w zero es = refl
env_at-take w (suc n) [] = refl
env_at-take w (suc n) (e ∷ es) = ap (λ bs. binding e.0 (at w e.1) ∷ bs) (env_at-take w n es)

env_at-length : (w : ℕ → Bool) (es : List (List ℕ × Shape Value)) → length (env_at w es) ≡ length es
env_at-length w [] = refl
env_at-length w (e ∷ es) = ap suc (env_at-length w es)

in_scope : (c : Bool) (body : Run → Run) (r first last new : Run) (n : ℕ) (inner : List Binding)
    → first ≡ with_env inner r → last ≡ (if c then body first else first) → n ≡ length r.env → take n inner ≡ r.env → new ≡ cut_to n last
    → new ≡ (if c then scoped_run inner body r else r)
in_scope true body r first last new n inner opened ran long kept cut =
    cut ∙ ap (cut_to n) ran ∙ ap (λ m. cut_to m (body first)) long ∙ ap (λ x. cut_to (length r.env) (body x)) opened
in_scope false body r first last new n inner opened ran long kept cut = cut ∙ ap (cut_to n) (ran ∙ opened) ∙ ap (λ es. with_env es r) kept

pub scopes : (body : (ℕ → Bool) → Run → Run) (MayBody : ℕ → (ℕ → Bool) → Run → Type 0) (where_ : (ℕ → Bool) → Bool) (inner : (ℕ → Bool) → List Binding → List Binding)
    (s t : State) (env more env1 env2 env3 : List (List ℕ × Shape Value)) (out out2 : List (List (ℕ × Bool) × Piece)) (outer : ℕ)
    → env1 ≡ env ++ more → ((w : ℕ → Bool) → env_at w env ++ env_at w more ≡ inner w (env_at w env)) → outer ≡ length env → env3 ≡ take outer env2
    → RunsFaceted body MayBody where_ (faceted_run s env1 out) (faceted_run t env2 out2)
    → RunsFaceted (λ w r. scoped_run (inner w r.env) (body w) r) (λ n w r. MayBody n w (with_env (inner w r.env) r)) where_ (faceted_run s env out) (faceted_run t env3 out2)
scopes body MayBody where_ inner s t env more env1 env2 env3 out out2 outer grown same long cut run n sound may =
    let shown : (w : ℕ → Bool) → env_at w env1 ≡ inner w (env_at w env) = λ w. ap (env_at w) grown ∙ env_at-append w env more ∙ same w in
    let opened : (w : ℕ → Bool) → run_at w (faceted_run s env1 out) ≡ with_env (inner w (env_at w env)) (run_at w (faceted_run s env out)) = λ w. ap (λ es. with_env es (run_at w (faceted_run s env out))) (shown w) in
    let kept : (w : ℕ → Bool) → take outer (inner w (env_at w env)) ≡ env_at w env = λ w.
    ap (take outer) (sym (same w)) ∙ ap (λ m. take m (env_at w env ++ env_at w more)) (long ∙ sym (env_at-length w env)) ∙ take-append_seam (env_at w env) (env_at w more) in
    let ran : RanWhere n body where_ (faceted_run s env1 out) (faceted_run t env2 out2) = run n sound (λ w held. subst (MayBody n w) (sym (opened w)) (may w held)) in
    record {
      left = λ w.
          in_scope (where_ w) (body w) (run_at w (faceted_run s env out)) (run_at w (faceted_run s env1 out)) (run_at w (faceted_run t env2 out2)) (run_at w (faceted_run t env3 out2)) outer (inner w (env_at w env))
          (opened w) (ran.left w) (long ∙ sym (env_at-length w env)) (kept w) (ap (λ es. with_env es (run_at w (faceted_run t env2 out2))) (ap (env_at w) cut ∙ env_at-take w outer env2));
      sound = ran.sound;
    }

-- One step and then another.
then_if : (c : Bool) (f g : Run → Run) (a b d : Run) → b ≡ (if c then f a else a) → d ≡ (if c then g b else b) → d ≡ (if c then g (f a) else a)
then_if true f g a b d first second = second ∙ ap g first
then_if false f g a b d first second = second ∙ first

may_then : (c : Bool) (f : Run → Run) (a b : Run) (May : Run → Type 0) → c ≡ true → b ≡ (if c then f a else a) → May (f a) → May b
may_then true f a b May held first may = subst May (sym first) may
may_then false f a b May held first may = absurd (false_not_true held)
  where
    false_not_true : false ≡ true → ⊥
    false_not_true e = cc

pub then_runs : (f g : (ℕ → Bool) → Run → Run) (MayF MayG : ℕ → (ℕ → Bool) → Run → Type 0) (where_ : (ℕ → Bool) → Bool) (a b d : Faceted)
    → RunsFaceted f MayF where_ a b → RunsFaceted g MayG where_ b d
    → RunsFaceted (λ w r. g w (f w r)) (λ n w r. MayF n w r × MayG n w (f w r)) where_ a d
then_runs f g MayF MayG where_ a b d first second n sound may =
    let one : RanWhere n f where_ a b = first n sound (λ w held. (may w held).0) in
    let two : RanWhere n g where_ b d = second n one.sound (λ w held. may_then (where_ w) (f w) (run_at w a) (run_at w b) (MayG n w) held (one.left w) (may w held).1) in
    record {
      left = λ w. then_if (where_ w) (f w) (g w) (run_at w a) (run_at w b) (run_at w d) (one.left w) (two.left w);
      sound = two.sound;
    }

-- A write to the tables.
write_if : (c : Bool) (f : PlainTables → PlainTables) (step : Run → Run) (r : Run) (tables : PlainTables) → tables ≡ (if c then f r.tables else r.tables) → (c ≡ true → step r ≡ record r { tables = f r.tables })
    → record r { tables = tables } ≡ (if c then step r else r)
write_if true f step r tables written is = ap (λ ts. record r { tables = ts }) written ∙ sym (is refl)
write_if false f step r tables written is = ap (λ ts. record r { tables = ts }) written

pub written_ran : (n : ℕ) (f : (ℕ → Bool) → PlainTables → PlainTables) (step : (ℕ → Bool) → Run → Run) (pc : List (ℕ × Bool)) (start old new : State) (env : List (List ℕ × Shape Value)) (out : List (List (ℕ × Bool) × Piece))
    → old ≡ start
    → ((w : ℕ → Bool) → holds w pc ≡ true → step w (run_at w (faceted_run start env out)) ≡ record (run_at w (faceted_run start env out)) { tables = f w (project_at w start).tables })
    → Written n f pc old new
    → RanWhere n step (λ w. holds w pc) (faceted_run start env out) (faceted_run new env out)
written_ran n f step pc start old new env out same is written = record {
  left = λ w.
      write_if (holds w pc) (f w) (step w) (run_at w (faceted_run start env out)) (project_at w new).tables
      (written.left w ∙ ap (λ s. if holds w pc then f w (project_at w s).tables else (project_at w s).tables) same) (is w);
  sound = written.sound;
}

pub sound_too : (n : ℕ) (start old : State) → old ≡ start → IsSound (numbered_tables n start) → IsSound (numbered_tables n old)
sound_too n start old same sound = subst (λ (s : State). IsSound (numbered_tables n s)) (sym same) sound

pub write_runs : (f : (ℕ → Bool) → PlainTables → PlainTables) (step : (ℕ → Bool) → Run → Run) (May : ℕ → (ℕ → Bool) → Run → Type 0) (pc : List (ℕ × Bool)) (start old new : State) (env : List (List ℕ × Shape Value)) (out : List (List (ℕ × Bool) × Piece))
    → old ≡ start
    → ((w : ℕ → Bool) → holds w pc ≡ true → step w (run_at w (faceted_run start env out)) ≡ record (run_at w (faceted_run start env out)) { tables = f w (project_at w start).tables })
    → Writes f pc old new
    → RunsFaceted step May (λ w. holds w pc) (faceted_run start env out) (faceted_run new env out)
write_runs f step May pc start old new env out same is write n sound may =
    written_ran n f step pc start old new env out same is (write n (sound_too n start old same sound))
