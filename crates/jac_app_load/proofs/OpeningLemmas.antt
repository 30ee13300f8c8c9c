-- What bytes are opened as, and why they are refused.
use Rattle.std.proofs.Common.{◌≡◌, ◌∙◌, ap, sym, subst, refl, ℕ, ◌≤◌, ◌<◌, ◌⊎◌, inl, inr, Bool, true, false, if◌then◌else◌, IsTrue, IsErrOf, IsUtf8, MatchResult, IfOk, IfErr, List, [], ◌∷◌, length, Some, Result, Ok, Err, arith}
use Rattle.std.specs.List.{All, range_with_len}
use Rattle.std.specs.Str.{IsValidUpTo}
use Rattle.std.proofs.lemmas.List.Elements.{All-cons, All-nil, All-head, All-tail}
use Rattle.jac_lang.specs.Mirror.{application_of}
use Rattle.jac_lang.specs.Syntax.{Page, Application}
use Rattle.jac_lang.specs.Written.{IsWritten, IsWrittenModel, IsWrittenView}
use Rattle.jac_lang.specs.declared.application.App.{App}
use Rattle.jac_tree.specs.Grammar.{Accepted, IsStrayAt, IsDeepAt, IsUnclosedAt}
use Rattle.jac_tree.specs.Plain.{PlainTree}
use Rattle.jac_tree.specs.declared.fault.TreeFault.{TreeFault}
use Rattle.jac_tree.specs.declared.fault.TreeFault.TheVariants as faults
use Rattle.jac_forms.specs.Refusal.{refuses as form_refuses}
use Rattle.jac_forms.specs.declared.fault.FormFault.{FormFault}
use Rattle.jac_forms.specs.declared.fault.FormFault.TheVariants as misshapen
use Rattle.jac_forms.specs.Applications.{application_in_tree}
use Rattle.jac_forms.specs.Reads.{Read, got, refused, value_of}
use Rattle.jac_template.specs.Applications.{Expanded, ExpandsApplication, ExpandsView, ExpandsViews}
use Rattle.jac_template.proofs.SiteLaws.{view_keeps_sites}
use Rattle.jac_app_load.specs.Served.{IsSited}
use Rattle.jac_template.specs.Faults.{fault_in_template, refuses_template}
use Rattle.jac_template.specs.declared.application.ViewFault.{ViewFault}
use Rattle.jac_app_load.specs.Application.{Opened, OpensExpanded, OpensForm, Opens, IsApplication}
use Rattle.jac_app_load.specs.Refusal.{IsStep, HasRefusal, IsOpening, text_refusal, form_refusal, template_refusal}
use Rattle.jac_app_load.specs.declared.refusal.Refusal.{Refusal}
use Rattle.jac_app_load.specs.declared.refusal.Refusal.TheVariants as refusals

-- An application has only one expansion.
abbrev pub ExpandsToOne : Type 0
ExpandsToOne = (app : Application) (e f : Expanded) → ExpandsApplication app e → ExpandsApplication app f → e ≡ f

opens_expanded_one : (e : Expanded) (a b : Opened) → OpensExpanded e a → OpensExpanded e b → a ≡ b
opens_expanded_one (Expanded.fault view fault) a b x y = x ∙ sym y
opens_expanded_one (Expanded.application app) a b x y = x ∙ sym y

opens_form_one : ExpandsToOne → (form : Read Application) (a b : Opened) → OpensForm form a → OpensForm form b → a ≡ b
opens_form_one one (refused fault) a b x y = x ∙ sym y
opens_form_one one (got app) a b x y =
    opens_expanded_one y.0 a b (subst (λ (e : Expanded). OpensExpanded e a) (one app x.0 y.0 x.1 y.1) x.2) y.2

-- A tree is opened as one thing only.
opens_one : ExpandsToOne → (t : PlainTree) (a b : Opened) → Opens t a → Opens t b → a ≡ b
opens_one one t a b x y = opens_form_one one (application_in_tree [] t) a b x y

abbrev is_application : Opened → Type 0
is_application (Opened.application app) = Unit {0}
is_application o = ⊥

abbrev is_memory : TreeFault → Type 0
is_memory faults.Memory = Unit {0}
is_memory fault = ⊥

-- If a tree fails a step, it isn't opened as an application.
no_application : ExpandsToOne → (t : PlainTree) (r : Refusal) → IsStep (Opens t) r → (app : Application) → Opens t (Opened.application app) → ⊥
no_application one t (refusals.Text fault) step app opens = absurd step
no_application one t (refusals.Form fault) step app opens = subst is_application (sym (opens_one one t _ _ step opens)) tt
no_application one t (refusals.Template fault) step app opens = subst is_application (sym (opens_one one t _ _ step opens)) tt
no_application one t (refusals.Check fault) step app opens = subst is_application (sym (opens_one one t _ _ step opens)) tt
no_application one t (refusals.Clash view) step app opens = subst is_application (sym (opens_one one t _ _ step opens)) tt
no_application one t refusals.Memory step app opens = absurd step

-- The tree of the bytes was refused.
tree_refused : ExpandsToOne → (bytes : List ℕ) (t : PlainTree) (r : Refusal) → ((u : PlainTree) → Accepted bytes u → t ≡ u)
    → (r ≡ refusals.Memory) ⊎ IsStep (Opens t) r → (r ≡ refusals.Memory) ⊎ ((app : Application) → IsApplication bytes app → ⊥)
tree_refused one bytes t r only (inl memory) = inl memory
tree_refused one bytes t r only (inr step) =
    inr (λ app is. no_application one t r step app (subst (λ (u : PlainTree). Opens u (Opened.application app)) (sym (only is.0 is.1)) is.2))

step_has : (bytes : List ℕ) (t : PlainTree) (r : Refusal) → Accepted bytes t → IsStep (Opens t) r → HasRefusal bytes r
step_has bytes t (refusals.Text fault) accepted step = absurd step
step_has bytes t (refusals.Form fault) accepted step = (t, accepted, step)
step_has bytes t (refusals.Template fault) accepted step = (t, accepted, step)
step_has bytes t (refusals.Check fault) accepted step = (t, accepted, step)
step_has bytes t (refusals.Clash view) accepted step = (t, accepted, step)
step_has bytes t refusals.Memory accepted step = absurd step

tree_has : (bytes : List ℕ) (t : PlainTree) (r : Refusal) → Accepted bytes t
    → (r ≡ refusals.Memory) ⊎ IsStep (Opens t) r → (r ≡ refusals.Memory) ⊎ HasRefusal bytes r
tree_has bytes t r accepted (inl memory) = inl memory
tree_has bytes t r accepted (inr step) = inr (step_has bytes t r accepted step)

-- A step under a wider condition.
step_on : (P Q : Opened → Type 0) → ((o : Opened) → P o → Q o) → (r : Refusal) → IsStep P r → IsStep Q r
step_on P Q f (refusals.Text fault) h = h
step_on P Q f (refusals.Form fault) h = f _ h
step_on P Q f (refusals.Template fault) h = f _ h
step_on P Q f (refusals.Check fault) h = f _ h
step_on P Q f (refusals.Clash view) h = f _ h
step_on P Q f refusals.Memory h = h

step_or_memory : (P Q : Opened → Type 0) → ((o : Opened) → P o → Q o) → (r : Refusal)
    → (r ≡ refusals.Memory) ⊎ IsStep P r → (r ≡ refusals.Memory) ⊎ IsStep Q r
step_or_memory P Q f r (inl memory) = inl memory
step_or_memory P Q f r (inr step) = inr (step_on P Q f r step)

pub opening_on : (P Q : Opened → Type 0) → ((o : Opened) → P o → Q o) → (result : Result App Refusal) → IsOpening P result → IsOpening Q result
opening_on P Q f (Ok app) h = f _ h
opening_on P Q f (Err r) h = step_or_memory P Q f r h

-- The bytes have the fault that the reader returns.
pub text_has : {T : Type 0} → (bytes : List ℕ) (r : Result T TreeFault) (fault : TreeFault) → r ≡ Err fault
    → (IsErrOf r faults.Long → 1048576 < length bytes) → length bytes ≤ 1048576
    → ((at : ℕ) → IsErrOf r (faults.NotUtf8 at) → (length bytes ≤ 1048576) × ¬ (IsUtf8 bytes) × IsValidUpTo bytes at)
    → ((at : ℕ) → IsErrOf r (faults.Stray at) → IsStrayAt bytes at)
    → ((at : ℕ) → IsErrOf r (faults.Deep at) → IsDeepAt bytes at)
    → ((at : ℕ) → IsErrOf r (faults.Unclosed at) → IsUnclosedAt bytes at)
    → (text_refusal fault ≡ refusals.Memory) ⊎ HasRefusal bytes (text_refusal fault)
text_has bytes r faults.Long is long short not_utf8 stray deep unclosed = let more = long is in absurd (omega arith)
text_has bytes r (faults.NotUtf8 at) is long short not_utf8 stray deep unclosed = inr ((not_utf8 at is).1, (not_utf8 at is).2)
text_has bytes r (faults.Stray at) is long short not_utf8 stray deep unclosed = inr (stray at is)
text_has bytes r (faults.Deep at) is long short not_utf8 stray deep unclosed = inr (deep at is)
text_has bytes r (faults.Unclosed at) is long short not_utf8 stray deep unclosed = inr (unclosed at is)
text_has bytes r faults.Memory is long short not_utf8 stray deep unclosed = inl refl

-- Bytes with a fault spell no tree.
pub text_none : {T : Type 0} → (read : T → PlainTree) (bytes : List ℕ) (r : Result T TreeFault) (fault : TreeFault) → r ≡ Err fault
    → ((t : PlainTree) → Accepted bytes t → MatchResult r (λ u. read u ≡ t) (λ e. e ≡ faults.Memory))
    → (text_refusal fault ≡ refusals.Memory) ⊎ ((app : Application) → IsApplication bytes app → ⊥)
text_none read bytes r faults.Memory is only = inl refl
text_none read bytes r faults.Long is only = inr (λ app h. subst is_memory (sym (subst (λ (q : Result _ TreeFault). MatchResult q (λ u. read u ≡ h.0) (λ e. e ≡ faults.Memory)) is (only h.0 h.1))) tt)
text_none read bytes r (faults.NotUtf8 at) is only = inr (λ app h. subst is_memory (sym (subst (λ (q : Result _ TreeFault). MatchResult q (λ u. read u ≡ h.0) (λ e. e ≡ faults.Memory)) is (only h.0 h.1))) tt)
text_none read bytes r (faults.Stray at) is only = inr (λ app h. subst is_memory (sym (subst (λ (q : Result _ TreeFault). MatchResult q (λ u. read u ≡ h.0) (λ e. e ≡ faults.Memory)) is (only h.0 h.1))) tt)
text_none read bytes r (faults.Deep at) is only = inr (λ app h. subst is_memory (sym (subst (λ (q : Result _ TreeFault). MatchResult q (λ u. read u ≡ h.0) (λ e. e ≡ faults.Memory)) is (only h.0 h.1))) tt)
text_none read bytes r (faults.Unclosed at) is only = inr (λ app h. subst is_memory (sym (subst (λ (q : Result _ TreeFault). MatchResult q (λ u. read u ≡ h.0) (λ e. e ≡ faults.Memory)) is (only h.0 h.1))) tt)

pub some_same : {A : Type 0} (x y : A) → Some x ≡ Some y → x ≡ y
some_same x y h = cc

-- If a value was read, the read is `got` with this value.
pub read_is : {A : Type 0} (read : Read A) (x : A) → value_of read ≡ Some x → read ≡ got x
read_is (got y) x same = ap got (some_same y x same)
read_is (refused fault) x same = cc

-- The reader's fault: of form, of a template, of a name or of a kind.
pub form_steps : (Is : Opened → Type 0) (fault : FormFault) → (IsTrue (form_refuses fault) → Is (Opened.no_form fault))
    → (form_refusal fault ≡ refusals.Memory) ⊎ IsStep Is (form_refusal fault)
form_steps Is misshapen.Memory h = inl refl
form_steps Is (misshapen.Form path want) h = inr (h refl)
form_steps Is (misshapen.TooMany path what have) h = inr (h refl)

step_if : (Is : Opened → Type 0) (b : Bool) (r : Refusal) → (IsTrue b → IsStep Is r)
    → ((if b then r else refusals.Memory) ≡ refusals.Memory) ⊎ IsStep Is (if b then r else refusals.Memory)
step_if Is true r h = inr (h refl)
step_if Is false r h = inl refl

pub template_steps : (app : Application) (fault : ViewFault) → (IsTrue (refuses_template fault.fault) → ExpandsApplication app (Expanded.fault fault.view (fault_in_template fault.fault)))
    → (template_refusal fault ≡ refusals.Memory) ⊎ IsStep (OpensForm (got app)) (template_refusal fault)
template_steps app fault h = step_if (OpensForm (got app)) (refuses_template fault.fault) (refusals.Template fault) (λ is. (Expanded.fault fault.view (fault_in_template fault.fault), h is, refl))

pub opening_is : (bytes : List ℕ) (t : PlainTree) (result : Result App Refusal) → Accepted bytes t → IsOpening (Opens t) result
    → IfOk result (λ app. IsApplication bytes (application_of app))
opening_is bytes t (Ok app) accepted h = (t, accepted, h)
opening_is bytes t (Err r) accepted h = tt

pub opening_has : (bytes : List ℕ) (t : PlainTree) (result : Result App Refusal) → Accepted bytes t → IsOpening (Opens t) result
    → IfErr result (λ r. (r ≡ refusals.Memory) ⊎ HasRefusal bytes r)
opening_has bytes t (Ok app) accepted h = tt
opening_has bytes t (Err r) accepted h = tree_has bytes t r accepted h

pub opening_none : ExpandsToOne → (bytes : List ℕ) (t : PlainTree) (result : Result App Refusal) → ((u : PlainTree) → Accepted bytes u → t ≡ u) → IsOpening (Opens t) result
    → IfErr result (λ r. (r ≡ refusals.Memory) ⊎ ((app : Application) → IsApplication bytes app → ⊥))
opening_none one bytes t (Ok app) only h = tt
opening_none one bytes t (Err r) only h = tree_refused one bytes t r only h

-- If the sites of an application that was read are their places, so are those of the application
-- with its templates expanded.
sited_view : (v out : Page) → IsWrittenView v → ExpandsView v out → IsSited out
sited_view v out written expands =
    let same = view_keeps_sites v out expands in
    record {
      few = subst (λ (places : List ℕ). length places ≤ 64) (sym same) written.few_sites;
      in_order = same ∙ written.in_order ∙ ap (λ (places : List ℕ). range_with_len 0 (length places)) (sym same);
    }

sited_views : (vs out : List Page) → All IsWrittenView vs → ExpandsViews vs out → All IsSited out
sited_views [] out written expands = subst (λ (views : List Page). All IsSited views) (sym expands) (All-nil IsSited)
sited_views (v ∷ vs) out written expands =
    subst (λ (views : List Page). All IsSited views) (sym expands.4)
    (All-cons IsSited expands.0 expands.1 (sited_view v expands.0 (All-head IsWrittenView v vs written) expands.2)
    (sited_views vs expands.1 (All-tail IsWrittenView v vs written) expands.3))

pub sited : (app out : Application) → IsWritten app → ExpandsApplication app (Expanded.application out) → All IsSited out.views
sited app out written expands =
    subst (λ (a : Application). All IsSited a.views) (sym expands.2) (sited_views app.views expands.0 written.views expands.1)

-- Its models are the ones that were read.
pub same_models : (app out : Application) → IsWritten app → ExpandsApplication app (Expanded.application out) → All IsWrittenModel out.models
same_models app out written expands = subst (λ (a : Application). All IsWrittenModel a.models) (sym expands.2) written.models
