-- From the run of a view to the answer of a request.
use Rattle.std.proofs.Common.{◌≡◌, ◌<◌, ◌≤◌, ◌+◌, ◌^◌, refl, ap, sym, subst, ◌∙◌, arith, suc, ℕ, Bool, true, Option, List, [], ◌∷◌, length, Some}
use Rattle.std.specs.Prelude.{slice_get}
use Rattle.jac_lang.specs.Syntax.{Page as View, Application}
use Rattle.jac_lang.specs.declared.pages.Verb.TheVariants as verbs
use Rattle.jac_world.specs.World.{shown_by}
use Rattle.jac_rows.specs.Project.{project_at}
use Rattle.jac_rows.specs.declared.plain.PlainRow.{PlainRow}
use Rattle.jac_rows.specs.declared.plain.PlainState.{PlainState}
use Rattle.jac_rows.specs.declared.row.Row.{Row}
use Rattle.jac_rows.specs.declared.state.State.{State}
use Rattle.jac_plain.specs.Models.{AreFlat}
use Rattle.jac_plain.specs.Policies.{IsLiveLabel, IsSettled, is_allowed}
use Rattle.jac_plain.specs.Requests.{Visit, Worlds, page, page_of, after}
use Rattle.jac_plain.specs.declared.page.Page.{Page}
use Rattle.jac_plain.proofs.GoodLaws.{flat_after}
use Rattle.jac_keep.specs.declared.alteration.Alteration.{Alteration}
use Rattle.jac_keep.specs.declared.alteration.Change.{Change}
use Rattle.jac_keep.specs.Alterations.{overlaid_from}
use Rattle.jac_keep.specs.ChangedState.{changed_state}
use Rattle.jac_lang.specs.declared.bindings.Binding.{Binding}
use Rattle.jac_lazy.specs.Steady.{IsPageOf, IsSteady}
use Rattle.jac_replies.specs.declared.answer.Answer.{Answer}
use Rattle.jac_replies.specs.declared.answer.Ask.{Ask}
use Rattle.jac_route.specs.Parameters.{parameters}
use Rattle.jac_engine.specs.Answers.{visit_of, page_answer, lazy_answer, IsLazyPage, worlds_after}
use Rattle.jac_engine.specs.Prepared.{AreCovered}
use Rattle.jac_policy_cache.specs.declared.invalidation.Invalidation.{Invalidation}
use Rattle.jac_app_load.specs.Served.{is_served_body}
use Rattle.jac_engine.specs.Start.{IsStart}
use Rattle.jac_engine.specs.Viewed.{Stores}
use Rattle.jac_engine.specs.Views.{ran_by, ShowsView, LeavesTables, SettlesView}
use Rattle.jac_policy_cache.specs.declared.viewer_cache.ViewerCache.{ViewerCache}
use Rattle.jac_resolve.specs.ValidCache.{IsValidCache}
use Rattle.jac_engine.proofs.ServedLaws.{storing}
use Rattle.jac_engine.proofs.ViewLaws.{ordered, may_show, may_store, sound_now, sound_next}
use Rattle.jac_plain.specs.Shown.{worlds_of}

length_overlaid : (k : ℕ) (c : List Alteration) (ts : List (List Row)) → length (overlaid_from k c ts) ≡ length ts
length_overlaid k c [] = refl
length_overlaid k c (t ∷ ts) = ap suc (length_overlaid (k + 1) c ts)

-- The page of the run is the interpreter's.
ran_page : (app : Application) (v : View) (ask : Ask) (place n : ℕ) (s : State) (labels : List ℕ) → slice_get app.views place ≡ Some v → n ≡ s.number
    → page_of (ran_by (shown_by labels) app v ask n s).pieces ≡ page (shown_by labels) app (project_at (shown_by labels) s) (visit_of app ask place)
ran_page app v ask place n s labels is_view is_number = rw (is_view, is_number) refl

ran_after : (w : ℕ → Bool) (app : Application) (v : View) (ask : Ask) (place n : ℕ) (s : State) → slice_get app.views place ≡ Some v → v.method ≡ verbs.Post → n ≡ s.number
    → record { tables = (ran_by w app v ask n s).tables; number = n + 1 } ≡ after w app (project_at w s) (visit_of app ask place)
ran_after w app v ask place n s is_view is_post is_number = rw (is_view, is_post, is_view, is_number) refl

-- The page of a view for GET.
pub page_shown : (app : Application) (v : View) (ask : Ask) (place n : ℕ) (s : State) (labels : List ℕ) (p : Page) → slice_get app.views place ≡ Some v → is_served_body app.models verbs.Get v.body ≡ true
    → n ≡ s.number → IsStart app s → ShowsView app v ask n s labels p
    → page_answer labels p ≡ page_answer labels (page (shown_by labels) app (project_at (shown_by labels) s) (visit_of app ask place))
page_shown app v ask place n s labels p is_view served is_number start shows =
    ap (page_answer labels) (shows.page n (sound_now s n start.sound is_number) (may_show n app v ask n s served) ∙ ran_page app v ask place n s labels is_view is_number)

-- The request, bound to the parameters of its view.
pub visit_bound : (app : Application) (v : View) (ask : Ask) (place : ℕ) (env : List Binding) → slice_get app.views place ≡ Some v
    → env ≡ parameters app.models v.params ask.pairs → record { view = place; env = env; viewer = ask.viewer } ≡ visit_of app ask place
visit_bound app v ask place env is_view bound = rw (is_view, bound) refl

-- A page that is the interpreter's whatever is shown besides what was consulted, under steady
-- labels.
pub lazily_shown : (app : Application) (worlds : Worlds) (visit : Visit) (labels consulted : List ℕ) (p : Page) (answer : Answer) → answer ≡ lazy_answer labels consulted p
    → IsSteady app worlds visit.viewer consulted labels → IsPageOf app worlds consulted labels visit p → IsLazyPage app worlds visit answer
lazily_shown app worlds visit labels consulted p answer is steady shows = record {
  labels = labels;
  consulted = consulted;
  steady = steady;
  made = λ w agree. is ∙ ap (lazy_answer labels consulted) (shows.each w agree);
}

-- The page of a view for POST.
pub page_stored : (app : Application) (v : View) (ask : Ask) (place n : ℕ) (s : State) (labels : List ℕ) (p : Page) → slice_get app.views place ≡ Some v → is_served_body app.models verbs.Post v.body ≡ true
    → n ≡ s.number → n < 2 ^ 40 → IsStart app s → length app.models ≤ 64 → ShowsView app v ask n s labels p
    → page_answer labels p ≡ page_answer labels (page (shown_by labels) app (project_at (shown_by labels) s) (visit_of app ask place))
page_stored app v ask place n s labels p is_view served is_number few start most shows =
    ap (page_answer labels) (shows.page (n + 1) (sound_next s n start.sound is_number few) (may_store app v ask n s served start most is_number few) ∙ ran_page app v ask place n s labels is_view is_number)

-- In what the interpreter leaves, only nested models have wide ids.
flat_left : (w : ℕ → Bool) (app : Application) (v : View) (ask : Ask) (place n : ℕ) (s : State) → slice_get app.views place ≡ Some v → is_served_body app.models verbs.Post v.body ≡ true
    → n ≡ s.number → n < 2 ^ 40 → IsStart app s → length app.models ≤ 64 → AreFlat app.models (after w app (project_at w s) (visit_of app ask place)).tables
flat_left w app v ask place n s is_view served is_number few start most =
    let keeps = storing app.models v.body served in
    let least = start.sound.next.0 in
    flat_after w app (project_at w s) (visit_of app ask place) (omega (arith, least)) (omega (arith, is_number, few)) most
    (rw is_view keeps.sited) (rw is_view keeps.placed) (ordered w s start.sound) (start.flat w)

-- The change of a run stores what the interpreter leaves, in every world.
pub change_stored : (app : Application) (v : View) (ask : Ask) (place n : ℕ) (s : State) (change : Change) → slice_get app.views place ≡ Some v → v.method ≡ verbs.Post
    → is_served_body app.models verbs.Post v.body ≡ true → n ≡ s.number → n < 2 ^ 40 → IsStart app s → length app.models ≤ 64 → change.number ≡ n + 1 → LeavesTables app v ask n s (changed_state change s).tables
    → Stores app s (visit_of app ask place) change
change_stored app v ask place n s change is_view is_post served is_number few start most next leaves =
    let ran = leaves.ran (n + 1) (sound_next s n start.sound is_number few) (may_store app v ask n s served start most is_number few) in
    let left : (w : ℕ → Bool) → project_at w (changed_state change s) ≡ after w app (project_at w s) (visit_of app ask place) = λ w.
    ap (λ (ts : List (List PlainRow)). record { tables = ts; number = change.number }) (ran.left w)
    ∙ ap (λ (i : ℕ). record { tables = (ran_by w app v ask n s).tables; number = i }) next
    ∙ ran_after w app v ask place n s is_view is_post is_number in
    record {
      room = omega (arith, is_number, few);
      worlds = left;
      start = record {
        sound = rw next ran.sound;
        tables = rw (length_overlaid 0 change.changed s.tables) start.tables;
        flat = λ w. subst (λ (t : PlainState). AreFlat app.models t.tables) (sym (left w)) (flat_left w app v ask place n s is_view served is_number few start most);
      };
    }

-- Labels that are settled on the state after a change are settled in the worlds that the request
-- leaves.
pub settled_after : (app : Application) (s : State) (ask : Ask) (place : ℕ) (change : Change) (labels : List ℕ) → Stores app s (visit_of app ask place) change
    → IsSettled app (worlds_of (changed_state change s)) ask.viewer labels → IsSettled app (worlds_after app (worlds_of s) (visit_of app ask place)) ask.viewer labels
settled_after app s ask place change labels stores settled =
    subst (λ (worlds : Worlds). IsSettled app worlds ask.viewer labels) (λ i w. stores.worlds w i) settled

live_numbered : (app : Application) (s : State) (number k : ℕ) → IsLiveLabel app (worlds_of s) k → IsLiveLabel app (worlds_of (record s { number = number })) k
live_numbered app s number k live = record { group = live.group; seen_by = live.seen_by; stands = live.stands }

-- What is affected depends only on the tables, and not on the next number.
covered_numbered : (app : Application) (s later : State) (number : ℕ) (invalidation : Invalidation) → AreCovered app s later invalidation → AreCovered app s (record later { number = number }) invalidation
covered_numbered app s later number invalidation covered viewer = record {
  living = λ k free.
      let both = (covered viewer).living k free in
      (λ live. live_numbered app later number k (both.0 live), λ live. both.1 (live_numbered app (record later { number = number }) later.number k live));
  allowed = λ k free w. (covered viewer).allowed k free w;
}

-- So do the labels that are settled, and the viewer's cache.
pub settles_view : (app : Application) (viewer : Option ℕ) (old later : State) (labels : List ℕ) (cache : ViewerCache) (invalidation : Invalidation)
    → ((app : Application) (s t : State) (viewer : Option ℕ) (labels : List ℕ) → s.tables ≡ t.tables → IsSettled app (worlds_of s) viewer labels → IsSettled app (worlds_of t) viewer labels)
    → ((app : Application) (s t : State) (viewer : Option ℕ) (cache : ViewerCache) → s.tables ≡ t.tables → IsValidCache app (worlds_of s) viewer cache → IsValidCache app (worlds_of t) viewer cache)
    → IsSettled app (worlds_of later) viewer labels → IsValidCache app (worlds_of later) viewer cache → AreCovered app old later invalidation
    → SettlesView app viewer old later.tables labels cache invalidation
settles_view app viewer old later labels cache invalidation settled_by valid_by settled valid covered = record {
  settled = λ n. settled_by app later (record later { number = n }) viewer labels refl settled;
  valid = λ n. valid_by app later (record later { number = n }) viewer cache refl valid;
  affected = λ n. covered_numbered app old later n invalidation covered;
}
