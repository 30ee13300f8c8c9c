-- What is prepared for a request that finds a view, and for one that finds none.
use Rattle.std.specs.Prelude.{◌≡◌, ℕ, ◌<◌, ◌^◌, ◌⊎◌, Bool, IsTrue, Option, Some, None, List, slice_get}
use Rattle.jac_lang.specs.declared.pages.Verb.{Verb}
use Rattle.jac_lang.specs.declared.pages.Verb.TheVariants as verbs
use Rattle.jac_lang.specs.Syntax.{Application}
use Rattle.jac_rows.specs.Project.{project_at}
use Rattle.jac_rows.specs.declared.state.State.{State}
use Rattle.jac_plain.specs.Requests.{Visit, method_in, after}
use Rattle.jac_keep.specs.declared.alteration.Change.{Change}
use Rattle.jac_keep.specs.ChangedState.{changed_state}
use Rattle.jac_route.specs.declared.lookup.Found.{Found}
use Rattle.jac_route.specs.declared.lookup.Found.TheVariants as founds
use Rattle.jac_engine.specs.Answers.{IsPage, IsShownPage, IsSomePage, IsSomeShownPage, allow_text, asked_with, visit_of, worlds_after}
use Rattle.jac_replies.specs.Refused.{refusal}
use Rattle.jac_engine.specs.Start.{IsStart}
use Rattle.jac_replies.specs.declared.answer.Ask.{Ask}
use Rattle.jac_engine.specs.declared.answer.Prepared.{Prepared}
use Rattle.jac_plain.specs.Shown.{worlds_of}

abbrev pub prepared_refusal : ℕ → Option (List ℕ) → Prepared
prepared_refusal status allow = record { answer = refusal status allow; change = None }

-- A GET changes nothing.
pub record IsShown
    (lazy tells : Bool) (app : Application) (s : State) (visit : Visit)
    (p : Prepared) : Type 0 where
  pub change : p.change ≡ None
  pub form : IsSomeShownPage lazy p.answer
  pub shows : IsTrue tells → IsShownPage lazy app (worlds_of s) visit p.answer

-- A POST without a page, because the numbers are used up.
pub record IsFull (tells : Bool) (s : State) (p : Prepared) : Type 0 where
  pub refusal : p ≡ prepared_refusal 507 None
  pub full : IsTrue tells → s.number ≡ 2 ^ 40

-- Under every assignment, a POST's change leaves what the interpreter leaves.
pub record Stores (app : Application) (s : State) (visit : Visit) (change : Change) : Type 0 where
  pub room : s.number < 2 ^ 40
  pub worlds : (w : ℕ → Bool) → project_at w (changed_state change s) ≡ after w app
      (project_at w s) visit
  pub start : IsStart app (changed_state change s)

-- A POST with a page.
pub record IsPageStored (tells : Bool) (app : Application) (s : State) (visit : Visit)
    (p : Prepared) : Type 0 where
  pub change : Change
  pub changes : p.change ≡ Some change
  pub form : IsSomePage p.answer
  pub shows : IsTrue tells
      → IsPage app (worlds_of s) (worlds_after app (worlds_of s) visit) visit p.answer
  pub stores : IsTrue tells → Stores app s visit change

abbrev pub IsPreparedBy : Bool → Verb → Bool → Application → State → Visit → Prepared → Type 0
IsPreparedBy lazy verbs.Get tells app s visit p = IsShown lazy tells app s visit p
IsPreparedBy lazy verbs.Post tells app s visit p = IsFull tells s p
    ⊎ IsPageStored tells app s visit p

abbrev pub IsPreparedFor : Bool → Found → Bool → Application → State → Ask → Prepared → Type 0
IsPreparedFor lazy founds.NoRoute tells app s ask p = p ≡ prepared_refusal 404 None
IsPreparedFor lazy (founds.WrongMethod allow) tells app s ask p =
    p ≡ prepared_refusal 405 (Some (allow_text allow.get allow.post))
IsPreparedFor lazy (founds.View n pairs) tells app s ask p =
    IsPreparedBy lazy (method_in (slice_get app.views n)) tells app s
    (visit_of app (asked_with pairs ask) n) p
