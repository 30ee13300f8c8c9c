-- From what a view prepares to what answers a request.
use Rattle.std.proofs.Common.{◌≡◌, ◌∙◌, ap, sym, subst, refl, inl, inr, ℕ, ◌≤◌, Bool, false, true, IsTrue, Option, Some, List, length, slice_get}
use Rattle.std.specs.Prelude.{is_some}
use Rattle.jac_lang.specs.declared.pages.Verb.{Verb}
use Rattle.jac_lang.specs.declared.pages.Verb.TheVariants as verbs
use Rattle.jac_lang.specs.Syntax.{Application}
use Rattle.jac_rows.specs.Good.{IsGood, IsGoodPlain}
use Rattle.jac_rows.specs.Project.{project_at}
use Rattle.jac_rows.specs.declared.plain.PlainState.{PlainState}
use Rattle.jac_rows.specs.declared.state.State.{State}
use Rattle.jac_plain.specs.Models.{shapes_of}
use Rattle.jac_plain.specs.Requests.{Visit, method_in, after, after_by}
use Rattle.jac_plain.proofs.GoodLaws.{good_after}
use Rattle.jac_keep.specs.declared.alteration.Change.{Change}
use Rattle.jac_engine.specs.Answers.{IsSomePage, IsSomeShownPage, IsAnswerOf, IsAnswerBy, HasFormOf, HasFormBy, left_by, is_post, is_stored_by, asked_with, visit_of}
use Rattle.jac_route.specs.Found.{found}
use Rattle.jac_route.specs.declared.lookup.Found.{Found}
use Rattle.jac_route.specs.declared.lookup.Found.TheVariants as founds
use Rattle.jac_route.specs.declared.pairs.Pair.{Pair}
use Rattle.jac_resolve.proofs.Room.{none_asked}
use Rattle.jac_engine.specs.Prepared.{AsksFew, IsPrepared, applied_if}
use Rattle.jac_app_load.specs.Served.{are_served}
use Rattle.jac_engine.specs.Start.{IsStart}
use Rattle.jac_engine.specs.Viewed.{IsPreparedBy, IsPreparedFor}
use Rattle.jac_engine.proofs.ServedLaws.{sited_view, placed_view}
use Rattle.jac_replies.specs.declared.answer.Answer.{Answer}
use Rattle.jac_replies.specs.declared.answer.Ask.{Ask}
use Rattle.jac_engine.specs.declared.answer.Prepared.{Prepared}
use Rattle.jac_plain.specs.Shown.{worlds_of}

-- The answer is a page, made under these labels.
record HasLabels (answer : Answer) : Type 0 where
  labels : List ℕ
  shown : answer.shown ≡ Some labels

labels_in : (answer : Answer) → IsSomePage answer → HasLabels answer
labels_in answer page = record { labels = page.labels; shown = ap (λ (a : Answer). a.shown) page.made }

labels_shown : (lazy : Bool) (answer : Answer) → IsSomeShownPage lazy answer → HasLabels answer
labels_shown false answer page = labels_in answer page
labels_shown true answer page = record { labels = page.labels; shown = ap (λ (a : Answer). a.shown) page.made }

form_by : (lazy : Bool) (v : Verb) (tells : Bool) (app : Application) (s : State) (visit : Visit) (p : Prepared) → IsPreparedBy lazy v tells app s visit p → HasFormOf lazy v p.answer
form_by lazy verbs.Get tells app s visit p h = h.form
form_by lazy verbs.Post tells app s visit p (inl full) = inl (ap (λ (q : Prepared). q.answer) full.refusal)
form_by lazy verbs.Post tells app s visit p (inr stored) = inr stored.form

form_for : (lazy : Bool) (f : Found) (tells : Bool) (app : Application) (s : State) (ask : Ask) (p : Prepared) → IsPreparedFor lazy f tells app s ask p → HasFormBy lazy f app p.answer
form_for lazy founds.NoRoute tells app s ask p h = ap (λ (q : Prepared). q.answer) h
form_for lazy (founds.WrongMethod allow) tells app s ask p h = ap (λ (q : Prepared). q.answer) h
form_for lazy (founds.View n pairs) tells app s ask p h = form_by lazy (method_in (slice_get app.views n)) tells app s (visit_of app (asked_with pairs ask) n) p h

-- A page of this method is stored if the method is POST.
stored_page : (app : Application) (n : ℕ) (pairs : List Pair) (v : Verb) (p : Prepared) → method_in (slice_get app.views n) ≡ v → (page : HasLabels p.answer)
    → is_stored_by (founds.View n pairs) app p.answer.shown ≡ is_post v
stored_page app n pairs v p is page =
    ap (λ (o : Option (List ℕ)). is_stored_by (founds.View n pairs) app o) page.shown ∙ ap is_post is

stored_by : (lazy : Bool) (v : Verb) (tells : Bool) (app : Application) (s : State) (n : ℕ) (pairs : List Pair) (visit : Visit) (p : Prepared)
    → method_in (slice_get app.views n) ≡ v → IsPreparedBy lazy v tells app s visit p → is_some p.change ≡ is_stored_by (founds.View n pairs) app p.answer.shown
stored_by lazy verbs.Get tells app s n pairs visit p is h = ap (λ (c : Option Change). is_some c) h.change ∙ sym (stored_page app n pairs verbs.Get p is (labels_shown lazy p.answer h.form))
stored_by lazy verbs.Post tells app s n pairs visit p is (inl full) =
    ap (λ (q : Prepared). is_some q.change) full.refusal ∙ sym (ap (λ (q : Prepared). is_stored_by (founds.View n pairs) app q.answer.shown) full.refusal)
stored_by lazy verbs.Post tells app s n pairs visit p is (inr stored) =
    ap (λ (c : Option Change). is_some c) stored.changes ∙ sym (stored_page app n pairs verbs.Post p is (labels_in p.answer stored.form))

stored_for : (lazy : Bool) (f : Found) (tells : Bool) (app : Application) (s : State) (ask : Ask) (p : Prepared)
    → IsPreparedFor lazy f tells app s ask p → is_some p.change ≡ is_stored_by f app p.answer.shown
stored_for lazy founds.NoRoute tells app s ask p h = ap (λ (q : Prepared). is_some q.change) h
stored_for lazy (founds.WrongMethod allow) tells app s ask p h = ap (λ (q : Prepared). is_some q.change) h
stored_for lazy (founds.View n pairs) tells app s ask p h = stored_by lazy (method_in (slice_get app.views n)) tells app s n pairs (visit_of app (asked_with pairs ask) n) p refl h

answered_by : (lazy : Bool) (v : Verb) (tells : Bool) (app : Application) (s : State) (visit : Visit) (p : Prepared)
    → IsPreparedBy lazy v tells app s visit p → IsTrue tells → IsAnswerOf lazy v app (worlds_of s) visit p.answer
answered_by lazy verbs.Get tells app s visit p h told = h.shows told
answered_by lazy verbs.Post tells app s visit p (inl full) told = inl (ap (λ (q : Prepared). q.answer) full.refusal, λ w. full.full told)
answered_by lazy verbs.Post tells app s visit p (inr stored) told = inr ((λ w. (stored.stores told).room), stored.shows told)

answered_for : (lazy : Bool) (f : Found) (tells : Bool) (app : Application) (s : State) (ask : Ask) (p : Prepared)
    → IsPreparedFor lazy f tells app s ask p → IsTrue tells → IsAnswerBy lazy f app (worlds_of s) ask p.answer
answered_for lazy founds.NoRoute tells app s ask p h told = ap (λ (q : Prepared). q.answer) h
answered_for lazy (founds.WrongMethod allow) tells app s ask p h told = ap (λ (q : Prepared). q.answer) h
answered_for lazy (founds.View n pairs) tells app s ask p h told = answered_by lazy (method_in (slice_get app.views n)) tells app s (visit_of app (asked_with pairs ask) n) p h told

-- What a page leaves is what its view leaves.
left_page : (w : ℕ → Bool) (app : Application) (ask : Ask) (n : ℕ) (pairs : List Pair) (p : Prepared) (t : PlainState) (page : HasLabels p.answer)
    → left_by (founds.View n pairs) w app ask p.answer.shown t ≡ after w app t (visit_of app (asked_with pairs ask) n)
left_page w app ask n pairs p t page = ap (λ (o : Option (List ℕ)). left_by (founds.View n pairs) w app ask o t) page.shown

after_get : (w : ℕ → Bool) (app : Application) (t : PlainState) (visit : Visit) → method_in (slice_get app.views visit.view) ≡ verbs.Get → after w app t visit ≡ t
after_get w app t visit is = ap (λ (v : Verb). after_by v w app t visit) is

worlds_by : (lazy : Bool) (v : Verb) (tells : Bool) (app : Application) (s : State) (ask : Ask) (n : ℕ) (pairs : List Pair) (p : Prepared)
    → method_in (slice_get app.views n) ≡ v → IsPreparedBy lazy v tells app s (visit_of app (asked_with pairs ask) n) p → IsTrue tells → (w : ℕ → Bool)
    → project_at w (applied_if p.change s) ≡ left_by (founds.View n pairs) w app ask p.answer.shown (project_at w s)
worlds_by lazy verbs.Get tells app s ask n pairs p is h told w =
    ap (λ (c : Option Change). project_at w (applied_if c s)) h.change
    ∙ sym (left_page w app ask n pairs p (project_at w s) (labels_shown lazy p.answer h.form) ∙ after_get w app (project_at w s) (visit_of app (asked_with pairs ask) n) is)
worlds_by lazy verbs.Post tells app s ask n pairs p is (inl full) told w =
    ap (λ (q : Prepared). project_at w (applied_if q.change s)) full.refusal
    ∙ sym (ap (λ (q : Prepared). left_by (founds.View n pairs) w app ask q.answer.shown (project_at w s)) full.refusal)
worlds_by lazy verbs.Post tells app s ask n pairs p is (inr stored) told w =
    ap (λ (c : Option Change). project_at w (applied_if c s)) stored.changes
    ∙ (stored.stores told).worlds w ∙ sym (left_page w app ask n pairs p (project_at w s) (labels_in p.answer stored.form))

worlds_for : (lazy : Bool) (f : Found) (tells : Bool) (app : Application) (s : State) (ask : Ask) (p : Prepared)
    → IsPreparedFor lazy f tells app s ask p → IsTrue tells → (w : ℕ → Bool)
    → project_at w (applied_if p.change s) ≡ left_by f w app ask p.answer.shown (project_at w s)
worlds_for lazy founds.NoRoute tells app s ask p h told w = ap (λ (q : Prepared). project_at w (applied_if q.change s)) h
worlds_for lazy (founds.WrongMethod allow) tells app s ask p h told w = ap (λ (q : Prepared). project_at w (applied_if q.change s)) h
worlds_for lazy (founds.View n pairs) tells app s ask p h told w = worlds_by lazy (method_in (slice_get app.views n)) tells app s ask n pairs p refl h told w

start_by : (lazy : Bool) (v : Verb) (tells : Bool) (app : Application) (s : State) (visit : Visit) (p : Prepared)
    → IsPreparedBy lazy v tells app s visit p → IsTrue tells → IsStart app s → IsStart app (applied_if p.change s)
start_by lazy verbs.Get tells app s visit p h told start = rw h.change start
start_by lazy verbs.Post tells app s visit p (inl full) told start = rw full.refusal start
start_by lazy verbs.Post tells app s visit p (inr stored) told start = rw stored.changes (stored.stores told).start

start_for : (lazy : Bool) (f : Found) (tells : Bool) (app : Application) (s : State) (ask : Ask) (p : Prepared)
    → IsPreparedFor lazy f tells app s ask p → IsTrue tells → IsStart app s → IsStart app (applied_if p.change s)
start_for lazy founds.NoRoute tells app s ask p h told start = rw h start
start_for lazy (founds.WrongMethod allow) tells app s ask p h told start = rw h start
start_for lazy (founds.View n pairs) tells app s ask p h told start = start_by lazy (method_in (slice_get app.views n)) tells app s (visit_of app (asked_with pairs ask) n) p h told start

good_by : (lazy : Bool) (v : Verb) (tells : Bool) (app : Application) (s : State) (ask : Ask) (n : ℕ) (pairs : List Pair) (p : Prepared) → are_served app ≡ true → length app.models ≤ 64
    → IsPreparedBy lazy v tells app s (visit_of app (asked_with pairs ask) n) p → IsTrue tells → IsGood (shapes_of app) s → IsGood (shapes_of app) (applied_if p.change s)
good_by lazy verbs.Get tells app s ask n pairs p served few h told good = rw h.change good
good_by lazy verbs.Post tells app s ask n pairs p served few (inl full) told good = rw full.refusal good
good_by lazy verbs.Post tells app s ask n pairs p served few (inr stored) told good = λ w.
    let stores = stored.stores told in
    let after_change = ap (λ (c : Option Change). project_at w (applied_if c s)) stored.changes ∙ stores.worlds w in
    subst (λ (t : PlainState). IsGoodPlain (shapes_of app) t) (sym after_change)
    (good_after w app (project_at w s) (visit_of app (asked_with pairs ask) n) (good w) stores.room few (sited_view app n (slice_get app.views n) served refl)
    (placed_view app n (slice_get app.views n) served refl))

good_for : (lazy : Bool) (f : Found) (tells : Bool) (app : Application) (s : State) (ask : Ask) (p : Prepared) → are_served app ≡ true → length app.models ≤ 64
    → IsPreparedFor lazy f tells app s ask p → IsTrue tells → IsGood (shapes_of app) s → IsGood (shapes_of app) (applied_if p.change s)
good_for lazy founds.NoRoute tells app s ask p served few h told good = rw h good
good_for lazy (founds.WrongMethod allow) tells app s ask p served few h told good = rw h good
good_for lazy (founds.View n pairs) tells app s ask p served few h told good = good_by lazy (method_in (slice_get app.views n)) tells app s ask n pairs p served few h told good

-- What was prepared for what the request finds answers the request.
pub is_prepared : (lazy tells : Bool) (app : Application) (s : State) (ask : Ask) (p : Prepared) → are_served app ≡ true → length app.models ≤ 64 → (IsTrue tells → IsStart app s)
    → IsPreparedFor lazy (found app ask.method ask.path) tells app s ask p → IsPrepared lazy tells app s ask p
is_prepared lazy tells app s ask p served few start h =
    let f = found app ask.method ask.path in
    record {
      form = form_for lazy f tells app s ask p h;
      stored = stored_for lazy f tells app s ask p h;
      answered = answered_for lazy f tells app s ask p h;
      worlds = worlds_for lazy f tells app s ask p h;
      start = λ told. start_for lazy f tells app s ask p h told (start told);
      good = good_for lazy f tells app s ask p served few h;
    }

-- No policy was evaluated.
pub asks_none : (lazy tells : Bool) (app : Application) (s : State) (viewer : Option ℕ) (settled : Option (List ℕ)) (now : ℕ) (p : Prepared) → AsksFew lazy tells app s viewer settled now now p
asks_none lazy tells app s viewer settled now p = record { few = λ eager told none. none_asked app (applied_if p.change s) viewer now }

-- If a page resolves only what it consults, the bound says nothing.
pub asks_lazily : (lazy tells : Bool) (app : Application) (s : State) (viewer : Option ℕ) (settled : Option (List ℕ)) (before now : ℕ) (p : Prepared) → lazy ≡ true → AsksFew lazy tells app s viewer settled before now p
asks_lazily lazy tells app s viewer settled before now p is = record { few = λ eager told none. absurd (let e : true ≡ false = sym is ∙ eager in cc) }

-- If it resolves all labels, the bound holds in either manner.
pub asks_eagerly : (lazy tells : Bool) (app : Application) (s : State) (viewer : Option ℕ) (settled : Option (List ℕ)) (before now : ℕ) (p : Prepared) → AsksFew false tells app s viewer settled before now p →
    AsksFew lazy tells app s viewer settled before now p
asks_eagerly lazy tells app s viewer settled before now p asks = record { few = λ eager told none. asks.few refl told none }
