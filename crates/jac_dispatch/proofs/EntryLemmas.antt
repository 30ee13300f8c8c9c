-- The answer to one subject, and what that leaves.
use Rattle.std.proofs.Common.{◌≡◌, ◌∙◌, ap, sym, subst, refl, inl, inr, ℕ, ◌≤◌, ◌==◌, ◌||◌, Bool, true, false, IsTrue, IfSome, IsSome, is_none, is_some, ◌&&◌, Option, Some, None, List, slice_get, if◌then◌else◌, arith}
use Rattle.std.proofs.lemmas.Bool.{or_parts}
use Rattle.jac_io.specs.Faults.{Rose}
use Rattle.jac_lang.specs.declared.pages.Verb.{Verb}
use Rattle.jac_lang.specs.declared.pages.Verb.TheVariants as verbs
use Rattle.jac_lang.specs.Syntax.{Application}
use Rattle.jac_rows.specs.Good.{IsGood, IsSound}
use Rattle.jac_rows.specs.Project.{project_at}
use Rattle.jac_rows.specs.declared.state.State.{State}
use Rattle.jac_rows.specs.declared.plain.PlainState.{PlainState}
use Rattle.jac_plain.specs.declared.page.Page.{Page}
use Rattle.jac_plain.specs.Requests.{Worlds, method_in, page_of, found_page, is_missing}
use Rattle.jac_keep.specs.declared.alteration.Change.{Change}
use Rattle.jac_keep.specs.declared.stop.Stop.{Stop}
use Rattle.jac_keep.specs.declared.stop.Stop.TheVariants as stops
use Rattle.jac_plain.specs.Models.{shapes_of}
use Rattle.jac_keep.specs.ChangedState.{changed_state}
use Rattle.jac_engine.specs.Answers.{IsSomePage, IsSomeLazyPage, HasFormOf, HasFormBy, HasForm, left_by, stores}
use Rattle.jac_replies.specs.Refused.{refusal}
use Rattle.jac_route.specs.Found.{found}
use Rattle.jac_route.specs.declared.lookup.Found.{Found}
use Rattle.jac_route.specs.declared.lookup.Found.TheVariants as founds
use Rattle.jac_engine.specs.Prepared.{applied_if}
use Rattle.jac_engine.specs.Start.{IsStart}
use Rattle.jac_replies.specs.declared.answer.Answer.{Answer}
use Rattle.jac_replies.specs.declared.answer.Ask.{Ask}
use Rattle.jac_http.specs.Replies.{phrase_of}
use Rattle.std.proofs.lemmas.Bool.Decides.{nat_tests}
use Rattle.jac_hub.specs.Hearing.{whole, refused}
use Rattle.jac_hub.specs.Refusals.{is_refusal}
use Rattle.jac_dispatch.specs.declared.answer.RequestSource.{RequestSource}
use Rattle.jac_replies.specs.Failed.{status_of_stop}
use Rattle.jac_serve_events.specs.RunSeen.{Grew, RunSeen}
use Rattle.jac_serve_events.specs.AnswerSpec.{LogSubject, is_failure}
use Rattle.jac_dispatch.specs.Log.{HasFailed, IsAnswer, IsFormed, may_split, left_of, refused_with, is_fault_answer}
use Rattle.jac_serve_events.specs.Outside.{Span}
use Rattle.jac_viewer_caches.specs.declared.viewer_caches.ViewerEntry.{ViewerEntry}
use Rattle.jac_dispatch.specs.Answered.{IsAnswerMade, IsEntryOf, AsksFewAtFirst, AreKeptFor}
use Rattle.jac_plain.specs.Shown.{worlds_of}

-- A change that leaves a start may be stored.
pub sound_if : (app : Application) (s : State) (change : Option Change) → IsStart app (applied_if change s) → IfSome change (λ c. IsSound (changed_state c s))
sound_if app s None start = tt
sound_if app s (Some change) start = start.sound

-- Without a change the state stays as it is.
pub unapplied : (change : Option Change) (s : State) → is_some change ≡ false → applied_if change s ≡ s
unapplied None s none = refl
unapplied (Some change) s none = absurd cc

-- The status has a phrase, and the answer isn't a failure.
pub record IsServable (answer : Answer) : Type 0 where
  pub phrase : IsSome (phrase_of answer.status)
  pub answered : is_failure answer ≡ false

-- So has each status of an answer of the right form.
status_servable : (status : ℕ) → IsSome (phrase_of status) → (a : Answer) → (status == 500 || status == 503) ≡ false → a.status ≡ status → IsServable a
status_servable status some a none same = record {
  phrase = subst (λ (n : ℕ). IsSome (phrase_of n)) (sym same) some;
  answered = ap (λ (n : ℕ). n == 500 || n == 503) same ∙ none;
}

abbrev pub IsPageStatus : ℕ → Type 0
IsPageStatus status = IsSome (phrase_of status) × ((status == 500 || status == 503) ≡ false)

status_200 : IsPageStatus 200
unfolding phrase_of
status_200 = (refl, refl)

status_303 : IsPageStatus 303
unfolding phrase_of
status_303 = (refl, refl)

status_404 : IsPageStatus 404
unfolding phrase_of
status_404 = (refl, refl)

status_405 : IsPageStatus 405
unfolding phrase_of
status_405 = (refl, refl)

status_507 : IsPageStatus 507
unfolding phrase_of
status_507 = (refl, refl)

servable_by : (a : Answer) (status : ℕ) → IsPageStatus status → a.status ≡ status → IsServable a
servable_by a status h same = status_servable status h.0 a h.1 same

page_status : (missing : Bool) (to : Option (List ℕ)) (body other : List ℕ)
    → IsPageStatus (if missing then (let p : Page = record { status = 404; location = None; body = other } in p) else found_page to body).status
page_status true to body other = status_404
page_status false None body other = status_200
page_status false (Some location) body other = status_303

servable_page : (a : Answer) → IsSomePage a → IsServable a
servable_page a page = servable_by a (page_of page.pieces).status (page_status (is_missing page.pieces) _ _ _) (ap (λ (x : Answer). x.status) page.made)

servable_lazy_page : (a : Answer) → IsSomeLazyPage a → IsServable a
servable_lazy_page a page = servable_by a (page_of page.pieces).status (page_status (is_missing page.pieces) _ _ _) (ap (λ (x : Answer). x.status) page.made)

servable_of : (lazy : Bool) (v : Verb) (a : Answer) → HasFormOf lazy v a → IsServable a
servable_of false verbs.Get a h = servable_page a h
servable_of true verbs.Get a h = servable_lazy_page a h
servable_of lazy verbs.Post a (inl full) = servable_by a 507 status_507 (ap (λ (x : Answer). x.status) full)
servable_of lazy verbs.Post a (inr page) = servable_page a page

servable_found : (lazy : Bool) (f : Found) (app : Application) (a : Answer) → HasFormBy lazy f app a → IsServable a
servable_found lazy founds.NoRoute app a h = servable_by a 404 status_404 (ap (λ (x : Answer). x.status) h)
servable_found lazy (founds.WrongMethod allow) app a h = servable_by a 405 status_405 (ap (λ (x : Answer). x.status) h)
servable_found lazy (founds.View n pairs) app a h = servable_of lazy (method_in (slice_get app.views n)) a h

-- An answer of the right form has a status with a phrase, and isn't a failure.
pub servable : (lazy : Bool) (app : Application) (ask : Ask) (a : Answer) → HasForm lazy app ask a → IsServable a
servable lazy app ask a h = servable_found lazy (found app ask.method ask.path) app a h

no_fault_status : (a b : Bool) (shown : Bool) → (a || b) ≡ false → (shown && b) ≡ false
no_fault_status true b shown h = absurd cc
no_fault_status false true shown h = absurd cc
no_fault_status false false true h = refl
no_fault_status false false false h = refl

-- An answer that isn't a failure doesn't report a fault of the keeper.
no_fault : (a : Answer) → is_failure a ≡ false → is_fault_answer a ≡ false
no_fault a h = no_fault_status (a.status == 500) (a.status == 503) (is_none a.shown) h

grew_by_none : (before now : ℕ) (fault : Bool) → fault ≡ false → before ≤ now → Grew before (if fault then 1 else 0) now
grew_by_none before now fault none later = rw none (omega arith)

-- No policy was evaluated.
asks_none : (lazy tells : Bool) (app : Application) (s : State) (viewer : Option ℕ) (viewer_caches : List ViewerEntry) (n : ℕ) → AsksFewAtFirst lazy tells app s viewer viewer_caches n n
asks_none lazy tells app s viewer viewer_caches n = record { few = λ eager told nothing. record { few = λ local labels ascending live. omega arith } }

-- The same caches are kept.
pub kept_all : (viewer : Option ℕ) (viewer_caches : List ViewerEntry) → AreKeptFor viewer viewer_caches viewer_caches
kept_all viewer viewer_caches = record { each = λ s is. inr (s.cache, is) }

-- A failure has no bound on evaluations.
failed_unbounded : {P : Type 0} (stop : Stop) → is_failure (refusal (status_of_stop stop) None) ≡ false → P
failed_unbounded stops.Keeper h = absurd cc
failed_unbounded stops.Memory h = absurd cc

-- The answer to a request was made.
pub is_made : (lazy : Bool) (app : Application) (k : Span RunSeen) (via : RequestSource) (ask : Ask) (close : Bool) (reply audit : List ℕ)
    → (made : IsAnswerMade lazy app k via ask reply audit) → (IsTrue k.after.keeper.tells → IsTrue k.before.keeper.tells)
    → k.before.keeper.faults ≤ k.after.keeper.faults → IsEntryOf lazy app k (whole ask close) made.answer
is_made lazy app k via ask close reply audit made told later = record {
  formed = inr made.form;
  told = told;
  answered = λ tells. inr (made.answered tells);
  worlds = made.worlds;
  goes_on = made.goes_on;
  good = made.good;
  unstored = made.unstored;
  unsplit = λ none. made.unsplit (or_parts _ _ none).0;
  bounded = λ answered. made.bounded;
  kept = made.kept;
  faults = grew_by_none _ _ _ (no_fault made.answer (servable lazy app ask made.answer made.form).answered) later;
}

has_failed : (stop : Stop) → HasFailed (refusal (status_of_stop stop) None)
has_failed stops.Keeper = inr refl
has_failed stops.Memory = inl refl

left_without : (f : Found) (w : ℕ → Bool) (app : Application) (ask : Ask) (t : PlainState) → left_by f w app ask None t ≡ t
left_without founds.NoRoute w app ask t = refl
left_without (founds.WrongMethod allow) w app ask t = refl
left_without (founds.View n pairs) w app ask t = refl

grew_if : (before now : ℕ) (stop : Stop) → before ≤ now → (stop ≡ stops.Keeper → Rose before now)
    → Grew before (if is_fault_answer (refusal (status_of_stop stop) None) then 1 else 0) now
grew_if before now stops.Keeper later rose = let r = rose refl in omega (arith, r)
grew_if before now stops.Memory later rose = omega (arith, later)

-- A failure splits facets only where the request finds a view that stores.
failed_stores : (app : Application) (ask : Ask) (close : Bool) (stop : Stop)
    → may_split app (whole ask close) (refusal (status_of_stop stop) None) ≡ false → stores app ask ≡ false
failed_stores app ask close stops.Keeper none = (or_parts _ _ none).1
failed_stores app ask close stops.Memory none = (or_parts _ _ none).1

-- A request wasn't answered.
pub is_failed : (lazy : Bool) (app : Application) (k : Span RunSeen) (ask : Ask) (close : Bool) (stop : Stop)
    → (IsTrue k.after.keeper.tells → k.after.keeper.state ≡ k.before.keeper.state) → (stores app ask ≡ false → k.after.splits ≡ k.before.splits)
    → (IsTrue k.after.keeper.tells → IsTrue k.before.keeper.tells) → (IsTrue k.before.keeper.tells → IsStart app k.before.keeper.state)
    → k.before.keeper.faults ≤ k.after.keeper.faults → (stop ≡ stops.Keeper → Rose k.before.keeper.faults k.after.keeper.faults)
    → AreKeptFor ask.viewer k.before.viewer_caches k.after.viewer_caches
    → IsEntryOf lazy app k (whole ask close) (refusal (status_of_stop stop) None)
is_failed lazy app k ask close stop same reading told start later rose kept = record {
  formed = inl (has_failed stop);
  told = told;
  answered = λ tells. inl (has_failed stop);
  worlds = λ tells w.
      ap (λ (s : State). project_at w s) (same tells)
      ∙ sym (left_without (found app ask.method ask.path) w app ask (project_at w k.before.keeper.state));
  goes_on = λ tells. subst (λ (s : State). IsStart app s) (sym (same tells)) (start (told tells));
  good = λ tells good. subst (λ (s : State). IsGood (shapes_of app) s) (sym (same tells)) good;
  unstored = λ tells none. same tells;
  unsplit = λ none. reading (failed_stores app ask close stop none);
  bounded = λ answered. failed_unbounded stop answered;
  kept = kept;
  faults = grew_if _ _ stop later rose;
}

-- The dispatcher was out of memory, and the keeper wasn't called.
pub is_wanting : (lazy : Bool) (app : Application) (k : RunSeen) (subject : LogSubject) → IsFormed lazy app subject (refusal 500 None)
    → ((worlds : Worlds) → IsAnswer lazy app worlds subject (refusal 500 None))
    → ((w : ℕ → Bool) (t : PlainState) → left_of w app subject (refusal 500 None) t ≡ t) → (IsTrue k.keeper.tells → IsStart app k.keeper.state)
    → IsEntryOf lazy app (record { before = k; after = k }) subject (refusal 500 None)
is_wanting lazy app k subject formed answered same start = record {
  formed = formed;
  told = λ tells. tells;
  answered = λ tells. answered (worlds_of k.keeper.state);
  worlds = λ tells w. sym (same w (project_at w k.keeper.state));
  goes_on = start;
  good = λ tells good. good;
  unstored = λ tells none. refl;
  unsplit = λ none. refl;
  bounded = λ answered. asks_none lazy k.keeper.tells app k.keeper.state _ k.viewer_caches k.evaluations;
  kept = kept_all _ k.viewer_caches;
  faults = omega arith;
}

status_named : (status : ℕ) → is_refusal status ≡ true → (status == 503) ≡ false
status_named status h = grind (arith, nat_tests)

-- A refused request has the answer of its status, and the keeper wasn't called.
pub is_refused : (lazy : Bool) (app : Application) (k : RunSeen) (status : ℕ) → is_refusal status ≡ true → (IsTrue k.keeper.tells → IsStart app k.keeper.state)
    → IsEntryOf lazy app (record { before = k; after = k }) (refused status) (refused_with status)
is_refused lazy app k status named start = record {
  formed = inr refl;
  told = λ tells. tells;
  answered = λ tells. inr refl;
  worlds = λ tells w. refl;
  goes_on = start;
  good = λ tells good. good;
  unstored = λ tells none. refl;
  unsplit = λ none. refl;
  bounded = λ answered. asks_none lazy k.keeper.tells app k.keeper.state _ k.viewer_caches k.evaluations;
  kept = kept_all _ k.viewer_caches;
  faults = grew_by_none _ _ _ (status_named status named) (omega arith);
}
