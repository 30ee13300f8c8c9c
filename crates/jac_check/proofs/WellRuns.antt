-- The views of a well application may be run.
use Rattle.std.proofs.Common.{◌≡◌, Bool, true, false, not, ◌&&◌, List, [], ◌∷◌, refl, unwrap_or, IsTrue}
use Rattle.std.specs.List.{All}
use Rattle.std.proofs.lemmas.List.Elements.{All-cons, All-nil}
use Rattle.jac_value.specs.declared.value.Kind.{Kind}
use Rattle.jac_lang.specs.Syntax.{Statement, Statements, Page, Application}
use Rattle.jac_check.specs.Scope.{Standing, bind, loop_within, reference_to, page_standing}
use Rattle.jac_check.specs.Well.{kind_here, is_statement, is_body, are_pages, is_well}
use Rattle.jac_check.specs.Runnable.{is_runnable, are_runnable, IsRunnablePage, HasRunnableViews}

both_true : (p q : Bool) → (p && q) ≡ true → (p ≡ true) × (q ≡ true)
both_true true q h = (refl, h)
both_true false q h = cc

two_true : (p q : Bool) → p ≡ true → q ≡ true → (p && q) ≡ true
two_true p q h k = rw (h, k) refl

create_runs : (get may cells body runs : Bool) → (not get && (may && (cells && body))) ≡ true → (body ≡ true → runs ≡ true)
    → (not get && (may && runs)) ≡ true
create_runs true may cells body runs h inner = h
create_runs false false cells body runs h inner = h
create_runs false true cells body runs h inner = inner (both_true cells body h).1

mutual
  statement-runs : (st : Standing) (s : Statement) → is_statement st s ≡ true → is_runnable st.is_get st.models st.loops s ≡ true
  statement-runs st (Statement.put e) h = refl
  statement-runs st (Statement.escape e) h = refl
  statement-runs st (Statement.bind x e body) h = body-runs (bind st x (unwrap_or (kind_here st e) Kind.Int) true) body (both_true _ _ h).1
  statement-runs st (Statement.assign x e) h = refl
  statement-runs st (Statement.branch c a b) h =
      let branches = both_true (is_body st a) (is_body st b) (both_true _ _ h).1 in
      two_true _ _ (body-runs st a branches.0) (body-runs st b branches.1)
  statement-runs st (Statement.each q body) h = body-runs (loop_within q.binders st) body (both_true _ _ h).1
  statement-runs st (Statement.create x m site cells body) h =
      create_runs st.is_get _ _ _ _ h (body-runs (bind st x (reference_to st.models m) false) body)
  statement-runs st (Statement.update m e cells) h = (both_true _ _ h).0
  statement-runs st (Statement.delete m e) h = (both_true _ _ h).0
  statement-runs st Statement.missing h = refl
  statement-runs st (Statement.redirect e) h = refl
  statement-runs st (Statement.template t) h = h
  statement-runs st (Statement.block body) h = body-runs st body h

  body-runs : (st : Standing) (ss : Statements) → is_body st ss ≡ true → are_runnable st.is_get st.models st.loops ss ≡ true
  body-runs st Statements.none h = refl
  body-runs st (Statements.more s ss) h =
      let parts = both_true (is_statement st s) (is_body st ss) h in
      two_true _ _ (statement-runs st s parts.0) (body-runs st ss parts.1)

views-run : (app : Application) (vs : List Page) → are_pages app vs ≡ true → All (IsRunnablePage app.models) vs
views-run app [] h = All-nil (IsRunnablePage app.models)
views-run app (v ∷ vs) h =
    let parts = both_true _ (are_pages app vs) h in
    let body = both_true _ (is_body (page_standing app v) v.body) (both_true _ _ parts.0).1 in
    All-cons (IsRunnablePage app.models) v vs (body-runs (page_standing app v) v.body body.1) (views-run app vs parts.1)

pub well-runs : (app : Application) → IsTrue (is_well app) → HasRunnableViews app
well-runs app h = views-run app app.views (both_true _ (are_pages app app.views) (both_true _ _ h).1).1
