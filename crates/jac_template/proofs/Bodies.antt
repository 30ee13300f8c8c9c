-- Statements and views whose templates are expanded, one after another.
use Rattle.std.proofs.Common.{◌≡◌, inl, inr, ℕ, ◌+◌, ◌&&◌, Bool, true, false, List, [], ◌∷◌, ◌++◌, refl, sym, ◌∙◌, ap, subst, append_assoc, append-nil}
use Rattle.jac_lang.specs.Mirror.{page_of_view, pages_of}
use Rattle.jac_lang.specs.Syntax.{Statement, Statements, Page}
use Rattle.jac_lang.specs.Turned.{body_onto}
use Rattle.jac_lang.specs.declared.pages.View.{View}
use Rattle.jac_template.specs.Applications.{ExpandsStatement, ExpandsBody, ExpandsView, ExpandsViews, StatementFault, BodyFault, ViewsFault}
use Rattle.jac_template.specs.Faults.{Fault}
use Rattle.jac_lang.specs.Untemplated.{are_untemplated, are_untemplated_views}

-- All statements expand to those so far followed by the expansion of `left`. Those so far are in
-- reverse order.
pub record BodyLeads (all so_far left : Statements) : Type 0 where
  pub written : (out : Statements) → ExpandsBody left out → ExpandsBody all (body_onto so_far out)
  pub faulty : (f : Fault) → BodyFault left f → BodyFault all f

pub body_from : (all : Statements) → BodyLeads all Statements.none all
body_from all = record { written = λ out h. h; faulty = λ f h. h }

pub body_on : (all so_far next left rest : Statements) (first out : Statement) → left ≡ Statements.more first rest → next ≡ Statements.more out so_far
    → ExpandsStatement first out → BodyLeads all so_far left → BodyLeads all next rest
body_on all so_far next left rest first out parts made one leads = record {
  written = λ ss h. subst (λ (back : Statements). ExpandsBody all (body_onto back ss)) (sym made)
      (leads.written (Statements.more out ss) (subst (λ (l : Statements). ExpandsBody l (Statements.more out ss)) (sym parts) (out, ss, one, h, refl)));
  faulty = λ f h. leads.faulty f (subst (λ (l : Statements). BodyFault l f) (sym parts) (inr (out, one, h)));
}

pub body_fault : (all so_far left rest : Statements) (first : Statement) (f : Fault) → left ≡ Statements.more first rest → StatementFault first f
    → BodyLeads all so_far left → BodyFault all f
body_fault all so_far left rest first f parts h leads = leads.faulty f (subst (λ (l : Statements). BodyFault l f) (sym parts) (inl h))

pub body_whole : (all so_far left : Statements) → left ≡ Statements.none → BodyLeads all so_far left → ExpandsBody all (body_onto so_far Statements.none)
body_whole all so_far left end leads = leads.written Statements.none (subst (λ (l : Statements). ExpandsBody l Statements.none) (sym end) refl)

-- One more view is appended.
pub pages_of-push : (views : List View) (v : View) → pages_of (views ++ v ∷ []) ≡ pages_of views ++ page_of_view v ∷ []
pages_of-push [] v = refl
pages_of-push (w ∷ views) v = ap (λ (ps : List Page). page_of_view w ∷ ps) (pages_of-push views v)

-- The same for views.
pub record ViewsLead (all so_far left : List Page) (number : ℕ) : Type 0 where
  pub written : (out : List Page) → ExpandsViews left out → ExpandsViews all (so_far ++ out)
  pub faulty : (view : ℕ) (f : Fault) → ViewsFault number left view f → ViewsFault 0 all view f
  pub untemplated : are_untemplated_views so_far ≡ true

pub views_from : (all : List Page) → ViewsLead all [] all 0
views_from all = record { written = λ out h. h; faulty = λ view f h. h; untemplated = refl }

and_then : (b c d : Bool) → (c ≡ true → d ≡ true) → (b && c) ≡ true → (b && d) ≡ true
and_then true c d f h = f h
and_then false c d f h = h

untemplated-push : (so_far : List Page) (p : Page) → are_untemplated p.body ≡ true → are_untemplated_views so_far ≡ true
    → are_untemplated_views (so_far ++ p ∷ []) ≡ true
untemplated-push [] p one e = rw one refl
untemplated-push (q ∷ so_far) p one e =
    and_then (are_untemplated q.body) (are_untemplated_views so_far) (are_untemplated_views (so_far ++ p ∷ [])) (untemplated-push so_far p one) e

pub views_on : (all so_far next left rest : List Page) (v p : Page) (number : ℕ) → left ≡ v ∷ rest → next ≡ so_far ++ p ∷ [] → ExpandsView v p
    → are_untemplated p.body ≡ true → ViewsLead all so_far left number → ViewsLead all next rest (number + 1)
views_on all so_far next left rest v p number parts made one plain leads = record {
  written = λ out h. subst (λ (ps : List Page). ExpandsViews all ps) (sym (ap (λ (ps : List Page). ps ++ out) made ∙ append_assoc so_far (p ∷ []) out))
      (leads.written (p ∷ out) (subst (λ (l : List Page). ExpandsViews l (p ∷ out)) (sym parts) (p, out, one, h, refl)));
  faulty = λ view f h. leads.faulty view f (subst (λ (l : List Page). ViewsFault number l view f) (sym parts) (inr (p, one, h)));
  untemplated = ap are_untemplated_views made ∙ untemplated-push so_far p plain leads.untemplated;
}

pub views_fault : (all so_far left rest : List Page) (v : Page) (number : ℕ) (f : Fault) → left ≡ v ∷ rest → BodyFault v.body f
    → ViewsLead all so_far left number → ViewsFault 0 all number f
views_fault all so_far left rest v number f parts h leads =
    leads.faulty number f (subst (λ (l : List Page). ViewsFault number l number f) (sym parts) (inl (refl, h)))

pub views_whole : (all so_far left : List Page) (number : ℕ) → left ≡ [] → ViewsLead all so_far left number → ExpandsViews all so_far
views_whole all so_far left number end leads =
    subst (λ (ps : List Page). ExpandsViews all ps) (append-nil so_far) (leads.written [] (subst (λ (l : List Page). ExpandsViews l []) (sym end) refl))
