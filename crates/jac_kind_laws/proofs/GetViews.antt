-- No statement that a GET view may contain writes.
use Rattle.std.proofs.Common.{◌≡◌, refl, ap, subst, ℕ, zero, suc, Bool, true, List, [], ◌∷◌, slice_get, IsTrue}
use Rattle.std.specs.List.{AllByRecursion}
use Rattle.std.proofs.lemmas.Bool.{and_parts, and_from}
use Rattle.std.proofs.lemmas.List.Elements.{recursion_from_All}
use Rattle.jac_lang.specs.declared.pages.Verb.{Verb}
use Rattle.jac_lang.specs.Loops.{Loops, behind_for}
use Rattle.jac_lang.specs.Syntax.{Entity, Statement, Statements, Page, Application}
use Rattle.jac_rows.specs.declared.plain.PlainState.{PlainState}
use Rattle.jac_plain.specs.Reading.{is_reading, are_reading}
use Rattle.jac_plain.specs.Requests.{Visit, body_in, method_in, setting_of, run_of}
use Rattle.jac_plain.proofs.ReadingLaws.{reading_leaves_tables}
use Rattle.jac_check.specs.Scope.{is_get}
use Rattle.jac_check.specs.Runnable.{is_runnable, are_runnable, IsRunnablePage}
use Rattle.jac_check.specs.Well.{is_well}
use Rattle.jac_check.proofs.WellRuns.{well-runs}

mutual
  statement_reads : (models : List Entity) (loops : Loops) (s : Statement) → is_runnable true models loops s ≡ true → is_reading s ≡ true
  statement_reads models loops (Statement.put e) h = refl
  statement_reads models loops (Statement.escape e) h = refl
  statement_reads models loops (Statement.bind x e body) h = body_reads models loops body h
  statement_reads models loops (Statement.assign x e) h = refl
  statement_reads models loops (Statement.branch c first second) h =
      let p = and_parts (are_runnable true models loops first) (are_runnable true models loops second) h in
      and_from _ _ (body_reads models loops first p.0) (body_reads models loops second p.1)
  statement_reads models loops (Statement.each q body) h = body_reads models (behind_for models q.binders loops) body h
  statement_reads models loops (Statement.create x m site cells body) h = h
  statement_reads models loops (Statement.update m e cells) h = h
  statement_reads models loops (Statement.delete m e) h = h
  statement_reads models loops Statement.missing h = refl
  statement_reads models loops (Statement.redirect e) h = refl
  statement_reads models loops (Statement.template t) h = refl
  statement_reads models loops (Statement.block body) h = body_reads models loops body h

  body_reads : (models : List Entity) (loops : Loops) (ss : Statements) → are_runnable true models loops ss ≡ true → are_reading ss ≡ true
  body_reads models loops Statements.none h = refl
  body_reads models loops (Statements.more s rest) h =
      let p = and_parts (is_runnable true models loops s) (are_runnable true models loops rest) h in
      and_from _ _ (statement_reads models loops s p.0) (body_reads models loops rest p.1)

view_runs : (models : List Entity) (vs : List Page) (i : ℕ) → AllByRecursion (IsRunnablePage models) vs → is_get (method_in (slice_get vs i)) ≡ true
    → are_runnable true models Loops.none (body_in (slice_get vs i)) ≡ true
view_runs models [] i a h = refl
view_runs models (v ∷ vs) zero a h = subst (λ (get : Bool). are_runnable get models Loops.none v.body ≡ true) h a.0
view_runs models (v ∷ vs) (suc i) a h = view_runs models vs i a.1 h

pub get_leaves : (w : ℕ → Bool) (app : Application) (t : PlainState) (visit : Visit) → IsTrue (is_well app) → method_in (slice_get app.views visit.view) ≡ Verb.Get
    → (run_of w app t visit).tables ≡ t.tables
get_leaves w app t visit h get =
    let body = body_in (slice_get app.views visit.view) in
    reading_leaves_tables (setting_of w app t visit) body (record { tables = t.tables; env = visit.env; pieces = [] })
    (body_reads app.models Loops.none body (view_runs app.models app.views visit.view (recursion_from_All (IsRunnablePage app.models) app.views (well-runs app h)) (ap is_get get)))
