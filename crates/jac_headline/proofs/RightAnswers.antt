-- Answers are right: pages under their labels, and refusals.
use Rattle.std.proofs.Common.{◌≡◌, ◌∙◌, ap, sym, subst, refl, inl, inr, ℕ, Bool, true, false, Option, Some, None, List, [], ◌∷◌, ◌++◌, slice_get}
use Rattle.jac_world.specs.World.{shown_by}
use Rattle.jac_lang.specs.Syntax.{Application}
use Rattle.jac_lang.specs.declared.pages.Verb.{Verb}
use Rattle.jac_lang.specs.declared.pages.Verb.TheVariants as verbs
use Rattle.jac_rows.specs.Project.{project_at}
use Rattle.jac_rows.specs.declared.plain.PlainState.{PlainState}
use Rattle.jac_rows.specs.declared.state.State.{State}
use Rattle.jac_plain.specs.Policies.{AreAllowed, IsSettled}
use Rattle.jac_plain.specs.Requests.{Visit, Worlds, method_in, page, after, after_by}
use Rattle.jac_route.specs.Found.{found}
use Rattle.jac_route.specs.declared.lookup.Found.{Found}
use Rattle.jac_route.specs.declared.lookup.Found.TheVariants as founds
use Rattle.jac_replies.specs.Refused.{refusal}
use Rattle.jac_replies.specs.declared.answer.Answer.{Answer}
use Rattle.jac_replies.specs.declared.answer.Ask.{Ask}
use Rattle.jac_engine.specs.Answers.{IsPage, IsLazyPage, IsShownPage, IsAnswerOf, IsAnswerBy, HasNoNumber, visit_of, asked_with, left_by}
use Rattle.jac_hub.specs.Hearing.{whole, refused, broken}
use Rattle.jac_serve_events.specs.AnswerSpec.{LogSubject, LogEntry}
use Rattle.jac_dispatch.specs.Log.{HasFailed, IsAnswer, AreAnswered, left_of, after_entry, after_log}
use Rattle.jac_plain.specs.Shown.{worlds_of}
use Rattle.jac_headline.specs.Headline.{world_behind, visit_by, visit_in, page_seen, IsRightPage, IsRefusedAsFound, IsRefusal, HasEntry, IsFaithful}

some_none : (labels : List ℕ) → Some labels ≡ None → ⊥
some_none labels e = cc

one_list : (labels other : List ℕ) → Some labels ≡ Some other → labels ≡ other
one_list labels other e = cc

-- A refusal has no labels.
no_page : (answer : Answer) (status : ℕ) (allow : Option (List ℕ)) (labels : List ℕ) → answer ≡ refusal status allow → answer.shown ≡ Some labels → ⊥
no_page answer status allow labels is on = some_none labels (sym on ∙ ap (λ (a : Answer). a.shown) is)

failed_no_page : (answer : Answer) (labels : List ℕ) → HasFailed answer → answer.shown ≡ Some labels → ⊥
failed_no_page answer labels (inl is) on = no_page answer 500 None labels is on
failed_no_page answer labels (inr is) on = no_page answer 503 None labels is on

-- ---- the page of a view

-- The page of a visit under these labels, and what holds of the labels after it.
pub record IsViewed (lazy : Bool) (app : Application) (before : Worlds) (visit : Visit) (answer : Answer) (labels : List ℕ) : Type 0 where
  pub made : page_seen answer ≡ page (shown_by labels) app (before (shown_by labels)) visit
  pub allowed : AreAllowed app (λ w. after w app (before w) visit) visit.viewer labels
  pub settled : lazy ≡ false → IsSettled app (λ w. after w app (before w) visit) visit.viewer labels

viewed : (lazy : Bool) (app : Application) (before behind : Worlds) (visit : Visit) (answer : Answer) (labels : List ℕ)
    → ◌≡◌ {A = Worlds} behind (λ w. after w app (before w) visit)
    → (p : IsPage app before behind visit answer) → answer.shown ≡ Some labels → IsViewed lazy app before visit answer labels
viewed lazy app before behind visit answer labels leaves p on =
    let same : p.labels ≡ labels = one_list p.labels labels (sym (ap (λ (a : Answer). a.shown) p.made) ∙ on) in
    let settled : IsSettled app (λ w. after w app (before w) visit) visit.viewer labels =
    subst (λ (ws : Worlds). IsSettled app ws visit.viewer labels) leaves (subst (λ (l : List ℕ). IsSettled app behind visit.viewer l) same p.settled) in
    record {
      made = ap page_seen p.made ∙ ap (λ (l : List ℕ). page (shown_by l) app (before (shown_by l)) visit) same;
      allowed = settled.allowed;
      settled = λ plain. settled;
    }

not_plain : true ≡ false → ⊥
not_plain e = cc

viewed_lazily : (app : Application) (before : Worlds) (visit : Visit) (answer : Answer) (labels : List ℕ)
    → ◌≡◌ {A = Worlds} before (λ w. after w app (before w) visit)
    → (p : IsLazyPage app before visit answer) → answer.shown ≡ Some labels → IsViewed true app before visit answer labels
viewed_lazily app before visit answer labels leaves p on =
    let made = p.made (shown_by p.labels) (record { each = λ k h. refl }) in
    let same : p.labels ≡ labels = one_list p.labels labels (sym (ap (λ (a : Answer). a.shown) made) ∙ on) in
    let allowed : AreAllowed app before visit.viewer p.labels =
    λ k h. (p.steady.allowed k h).each (shown_by p.labels) (record { each = λ j g. refl }) in
    record {
      made = ap page_seen made ∙ ap (λ (l : List ℕ). page (shown_by l) app (before (shown_by l)) visit) same;
      allowed = subst (λ (ws : Worlds). AreAllowed app ws visit.viewer labels) leaves (subst (λ (l : List ℕ). AreAllowed app before visit.viewer l) same allowed);
      settled = λ plain. absurd (not_plain plain);
    }

-- A GET view leaves all worlds unchanged.
left_by_get : (app : Application) (before : Worlds) (visit : Visit) → method_in (slice_get app.views visit.view) ≡ verbs.Get
    → ◌≡◌ {A = Worlds} before (λ w. after w app (before w) visit)
left_by_get app before visit is = λ i w. after_by (sym is i) w app (before w) visit

viewed_shown : (lazy : Bool) (app : Application) (before : Worlds) (visit : Visit) (answer : Answer) (labels : List ℕ)
    → method_in (slice_get app.views visit.view) ≡ verbs.Get → IsShownPage lazy app before visit answer → answer.shown ≡ Some labels
    → IsViewed lazy app before visit answer labels
viewed_shown false app before visit answer labels is p on = viewed false app before before visit answer labels (left_by_get app before visit is) p on
viewed_shown true app before visit answer labels is p on = viewed_lazily app before visit answer labels (left_by_get app before visit is) p on

viewed_by : (lazy : Bool) (v : Verb) (app : Application) (before : Worlds) (visit : Visit) (answer : Answer) (labels : List ℕ)
    → method_in (slice_get app.views visit.view) ≡ v → IsAnswerOf lazy v app before visit answer → answer.shown ≡ Some labels
    → IsViewed lazy app before visit answer labels
viewed_by lazy verbs.Get app before visit answer labels is p on = viewed_shown lazy app before visit answer labels is p on
viewed_by lazy verbs.Post app before visit answer labels is (inl (full, none)) on = absurd (no_page answer 507 None labels full on)
viewed_by lazy verbs.Post app before visit answer labels is (inr (some, p)) on =
    viewed lazy app before (λ w. after w app (before w) visit) visit answer labels refl p on

-- ---- an answer without a page

shown_refused : (lazy : Bool) (app : Application) (before : Worlds) (visit : Visit) (answer : Answer) → IsShownPage lazy app before visit answer
    → answer.shown ≡ None → ⊥
shown_refused false app before visit answer p none = some_none p.labels (sym (ap (λ (a : Answer). a.shown) p.made) ∙ none)
shown_refused true app before visit answer p none =
    some_none p.labels (sym (ap (λ (a : Answer). a.shown) (p.made (shown_by p.labels) (record { each = λ k h. refl }))) ∙ none)

status_is : (answer other : Answer) → answer ≡ other → answer.status ≡ other.status
status_is answer other is = ap (λ (a : Answer). a.status) is

refused_by : (lazy : Bool) (v : Verb) (app : Application) (before : Worlds) (visit : Visit) (answer : Answer) → IsAnswerOf lazy v app before visit answer
    → answer.shown ≡ None → (answer.status ≡ 507) × HasNoNumber before
refused_by lazy verbs.Get app before visit answer p none = absurd (shown_refused lazy app before visit answer p none)
refused_by lazy verbs.Post app before visit answer (inl (full, number)) none = (status_is answer (refusal 507 None) full, number)
refused_by lazy verbs.Post app before visit answer (inr (some, p)) none = absurd (some_none p.labels (sym (ap (λ (a : Answer). a.shown) p.made) ∙ none))

-- ---- by what the request finds

-- The page of a request that found this.
page_found : (lazy : Bool) (f : Found) (app : Application) (before : Worlds) (ask : Ask) (answer : Answer) (labels : List ℕ) → IsAnswerBy lazy f app before ask answer
    → answer.shown ≡ Some labels → (visit : Visit) × (visit_by f app ask ≡ Some visit) × IsViewed lazy app before visit answer labels
    × ◌≡◌ {A = Worlds} (λ w. after w app (before w) visit) (λ w. left_by f w app ask answer.shown (before w))
page_found lazy founds.NoRoute app before ask answer labels is on = absurd (no_page answer 404 None labels is on)
page_found lazy (founds.WrongMethod allow) app before ask answer labels is on = absurd (no_page answer 405 _ labels is on)
page_found lazy (founds.View n pairs) app before ask answer labels is on =
    let visit = visit_of app (asked_with pairs ask) n in (
      visit,
      refl,
      viewed_by lazy (method_in (slice_get app.views n)) app before visit answer labels refl is on,
      λ i w. left_by (founds.View n pairs) w app ask (sym on i) (before w),
    )

pub refusal_found : (lazy : Bool) (f : Found) (app : Application) (before : Worlds) (ask : Ask) (answer : Answer) → IsAnswerBy lazy f app before ask answer
    → answer.shown ≡ None → IsRefusedAsFound f before answer.status
refusal_found lazy founds.NoRoute app before ask answer is none = ap (λ (a : Answer). a.status) is
refusal_found lazy (founds.WrongMethod allow) app before ask answer is none = ap (λ (a : Answer). a.status) is
refusal_found lazy (founds.View n pairs) app before ask answer is none =
    refused_by lazy (method_in (slice_get app.views n)) app before (visit_of app (asked_with pairs ask) n) answer is none

-- ---- by the subject

-- The worlds after an answer.
abbrev pub behind_of : Application → Worlds → LogSubject → Answer → Worlds
behind_of app before subject answer w = left_of w app subject answer (before w)

-- The page of a subject, and what holds of its labels after it.
pub record IsPaged (lazy : Bool) (app : Application) (before behind : Worlds) (subject : LogSubject) (answer : Answer) (labels : List ℕ) : Type 0 where
  pub visit : Visit
  pub asks : visit_in app subject ≡ Some visit
  pub made : page_seen answer ≡ page (shown_by labels) app (before (shown_by labels)) visit
  pub allowed : AreAllowed app behind visit.viewer labels
  pub settled : lazy ≡ false → IsSettled app behind visit.viewer labels

paged : (lazy : Bool) (app : Application) (before : Worlds) (subject : LogSubject) (answer : Answer) (labels : List ℕ) → IsAnswer lazy app before subject answer
    → answer.shown ≡ Some labels → IsPaged lazy app before (behind_of app before subject answer) subject answer labels
paged lazy app before (whole ask closes) answer labels (inl failed) on = absurd (failed_no_page answer labels failed on)
paged lazy app before (whole ask closes) answer labels (inr is) on =
    let (visit, asks, viewed, leaves) = page_found lazy (found app ask.method ask.path) app before ask answer labels is on in
    record {
      visit = visit;
      asks = asks;
      made = viewed.made;
      allowed = subst (λ (ws : Worlds). AreAllowed app ws visit.viewer labels) leaves viewed.allowed;
      settled = λ plain. subst (λ (ws : Worlds). IsSettled app ws visit.viewer labels) leaves (viewed.settled plain);
    }
paged lazy app before (refused status) answer labels (inl is) on = absurd (no_page answer 500 None labels is on)
paged lazy app before (refused status) answer labels (inr is) on = absurd (some_none labels (sym on ∙ ap (λ (a : Answer). a.shown) is))
paged lazy app before broken answer labels is on = absurd (no_page answer 500 None labels is on)

right_refusal : (lazy : Bool) (app : Application) (before : Worlds) (subject : LogSubject) (answer : Answer) → IsAnswer lazy app before subject answer
    → answer.shown ≡ None → IsRefusal app before subject answer.status
right_refusal lazy app before (whole ask closes) answer (inl (inl is)) none = inl (ap (λ (a : Answer). a.status) is)
right_refusal lazy app before (whole ask closes) answer (inl (inr is)) none = inr (inl (ap (λ (a : Answer). a.status) is))
right_refusal lazy app before (whole ask closes) answer (inr is) none = inr (inr (refusal_found lazy (found app ask.method ask.path) app before ask answer is none))
right_refusal lazy app before (refused status) answer (inl is) none = inl (ap (λ (a : Answer). a.status) is)
right_refusal lazy app before (refused status) answer (inr is) none = inr (ap (λ (a : Answer). a.status) is)
right_refusal lazy app before broken answer is none = ap (λ (a : Answer). a.status) is

-- ---- in a log

-- An entry after others, in the worlds that these leave.
pub answered_behind : (lazy : Bool) (app : Application) (worlds : Worlds) (before : List LogEntry) (entry : LogEntry) (later : List LogEntry)
    → AreAnswered lazy app worlds (before ++ entry ∷ later)
    → IsAnswer lazy app (λ w. after_log w app before (worlds w)) entry.subject entry.answer
answered_behind lazy app worlds [] entry later answered = answered.0
answered_behind lazy app worlds (e ∷ before) entry later answered =
    answered_behind lazy app (λ w. after_entry w app e (worlds w)) before entry later answered.1

pub after_last : (w : ℕ → Bool) (app : Application) (before : List LogEntry) (entry : LogEntry) (t : PlainState)
    → after_entry w app entry (after_log w app before t) ≡ after_log w app (before ++ entry ∷ []) t
after_last w app [] entry t = refl
after_last w app (e ∷ before) entry t = after_last w app before entry (after_entry w app e t)

pub entry_in : (lazy : Bool) (app : Application) (start : State) (log before : List LogEntry) (entry : LogEntry) → AreAnswered lazy app (worlds_of start) log
    → (has : HasEntry log before entry) → IsAnswer lazy app (world_behind app start before) entry.subject entry.answer
entry_in lazy app start log before entry answered has =
    answered_behind lazy app (worlds_of start) before entry has.later (subst (λ (l : List LogEntry). AreAnswered lazy app (worlds_of start) l) has.parts answered)

pub page_in : (lazy : Bool) (app : Application) (start : State) (before : List LogEntry) (entry : LogEntry) (labels : List ℕ)
    → IsAnswer lazy app (world_behind app start before) entry.subject entry.answer → entry.answer.shown ≡ Some labels
    → IsRightPage lazy app (world_behind app start before) (world_behind app start (before ++ entry ∷ [])) entry labels
page_in lazy app start before entry labels is on =
    let behind : ◌≡◌ {A = Worlds} (behind_of app (world_behind app start before) entry.subject entry.answer) (world_behind app start (before ++ entry ∷ [])) =
    λ i w. after_last w app before entry (project_at w start) i in
    let here = paged lazy app (world_behind app start before) entry.subject entry.answer labels is on in
    let there = subst (λ (ws : Worlds). IsPaged lazy app (world_behind app start before) ws entry.subject entry.answer labels) behind here in
    record { visit = there.visit; asks = there.asks; made = there.made; allowed = there.allowed; settled = there.settled }

pub faithful_log : (lazy : Bool) (app : Application) (start finish : State) (log : List LogEntry) → ((w : ℕ → Bool) → project_at w finish ≡ after_log w app log (project_at w start))
    → AreAnswered lazy app (worlds_of start) log → IsFaithful lazy app start finish log
faithful_log lazy app start finish log stored answered = record {
  stored = stored;
  pages = λ before entry labels has on. page_in lazy app start before entry labels (entry_in lazy app start log before entry answered has) on;
  refusals = λ before entry has none.
      right_refusal lazy app (world_behind app start before) entry.subject entry.answer (entry_in lazy app start log before entry answered has) none;
}
