-- Runs of an open application that only read show the same labels.
use Rattle.std.proofs.Common.{◌≡◌, ◌∙◌, ap, sym, subst, refl, inl, inr, ℕ, Bool, true, false, true≢false, Option, Some, None, List, [], ◌∷◌, slice_get}
use Rattle.jac_lang.specs.declared.pages.Verb.{Verb}
use Rattle.jac_lang.specs.declared.pages.Verb.TheVariants as verbs
use Rattle.jac_lang.specs.Syntax.{Application}
use Rattle.jac_rows.specs.declared.plain.PlainState.{PlainState}
use Rattle.jac_rows.specs.declared.state.State.{State}
use Rattle.jac_plain.specs.Requests.{Visit, Worlds, method_in, after_by}
use Rattle.jac_open_app_laws.specs.Open.{is_open_app, AreAlike, AreEven, nothing}
use Rattle.jac_open_app_laws.proofs.Settling.{both_settled}
use Rattle.jac_events.specs.declared.event.Event.{Event}
use Rattle.jac_hub.specs.Hearing.{whole, refused, broken}
use Rattle.jac_route.specs.Found.{found}
use Rattle.jac_route.specs.declared.lookup.Found.{Found}
use Rattle.jac_route.specs.declared.lookup.Found.TheVariants as founds
use Rattle.jac_route.specs.declared.pairs.Pair.{Pair}
use Rattle.jac_route.specs.declared.sessions.Session.{Session}
use Rattle.jac_engine.specs.Answers.{IsPage, IsAnswerOf, IsAnswerBy, asked_with, visit_of, worlds_after, is_post, is_stored_by, left_by}
use Rattle.jac_replies.specs.declared.answer.Answer.{Answer}
use Rattle.jac_replies.specs.declared.answer.Ask.{Ask}
use Rattle.jac_serve_events.specs.AnswerSpec.{LogSubject, LogEntry, is_failure}
use Rattle.jac_dispatch.specs.Log.{IsAnswer, AreAnswered, application_hearing, left_of, is_stored_for}
use Rattle.jac_noninterference.specs.TwoRuns.{OneRun, IsRunServed, NoneFailed, AreSameWhereShown, IsSameWhereShown, IsSameAsked, seen_answer}
use Rattle.jac_noninterference.specs.OpenRuns.{OnlyReads, StartAlike, IsShownSame, AreShownSame}
use Rattle.jac_noninterference.proofs.SameSubjects.{AskedAlike}
use Rattle.jac_noninterference.proofs.SameAnswers.{no_failure, no_memory, refused_same, page_has, full_has}
use Rattle.jac_noninterference.proofs.SideBySide.{stands, same_reply, by_labels, behind, answered_whole, asks, pages_agree}
use Rattle.jac_plain.specs.Shown.{worlds_of}

-- Any visit but a POST leaves each world unchanged.

stays_by : (v : Verb) (w : ℕ → Bool) (app : Application) (t : PlainState) (visit : Visit) → is_post v ≡ false
    → after_by v w app t visit ≡ t
stays_by verbs.Get w app t visit h = refl
stays_by verbs.Post w app t visit h = absurd (true≢false h)

stays_found : (f : Found) (w : ℕ → Bool) (app : Application) (ask : Ask) (labels : Option (List ℕ)) (t : PlainState)
    → is_stored_by f app labels ≡ false → left_by f w app ask labels t ≡ t
stays_found founds.NoRoute w app ask labels t h = refl
stays_found (founds.WrongMethod allow) w app ask labels t h = refl
stays_found (founds.View n pairs) w app ask None t h = refl
stays_found (founds.View n pairs) w app ask (Some labels) t h = stays_by (method_in (slice_get app.views n)) w app t (visit_of app (asked_with pairs ask) n) h

stays : (w : ℕ → Bool) (app : Application) (subject : LogSubject) (answer : Answer) (t : PlainState)
    → is_stored_for app subject answer ≡ false → left_of w app subject answer t ≡ t
stays w app (whole ask closes) answer t h = stays_found (found app ask.method ask.path) w app ask answer.shown t h
stays w app (refused status) answer t h = refl
stays w app broken answer t h = refl

same_worlds : (app : Application) (entry : LogEntry) (worlds : Worlds)
    → is_stored_for app entry.subject entry.answer ≡ false → behind app entry worlds ≡ worlds
same_worlds app entry worlds h i w = stays w app entry.subject entry.answer (worlds w) h i

still_answered : (app : Application) (entry : LogEntry) (worlds : Worlds) (log : List LogEntry)
    → is_stored_for app entry.subject entry.answer ≡ false → AreAnswered false app (behind app entry worlds) log
    → AreAnswered false app worlds log
still_answered app entry worlds log h answered = subst (λ (ws : Worlds). AreAnswered false app ws log) (same_worlds app entry worlds h) answered

-- If a page of this view isn't stored, its method isn't POST.
unstored : (n : ℕ) (pairs : List Pair) (app : Application) (labels : List ℕ) (o : Option (List ℕ))
    → o ≡ Some labels → is_stored_by (founds.View n pairs) app o ≡ false
    → is_post (method_in (slice_get app.views n)) ≡ false
unstored n pairs app labels o is h = sym (ap (is_stored_by (founds.View n pairs) app) is) ∙ h

module _ (app : Application) (worlds worlds' : Worlds) (clear : is_open_app app ≡ true) (even : AreEven app worlds) (even' : AreEven app worlds') (alike : AreAlike app (worlds nothing) (worlds' nothing)) where
  get_same : (visit : Visit) (one two : Answer) → IsPage app worlds worlds visit one
      → IsPage app worlds' worlds' visit two → one.shown ≡ two.shown
  get_same visit one two p p' =
      page_has app worlds visit one p.labels (ap seen_answer p.made)
      ∙ ap (λ (l : List ℕ). Some l) (both_settled app worlds worlds' visit.viewer p.labels p'.labels clear even even' alike p.settled p'.settled)
      ∙ sym (page_has app worlds' visit two p'.labels (ap seen_answer p'.made))

  no_page : (ws after : Worlds) (visit : Visit) (answer : Answer) → IsPage app ws after visit answer
      → ((labels : List ℕ) → answer.shown ≡ Some labels → is_post verbs.Post ≡ false) → ⊥
  no_page ws after visit answer p h = true≢false (h p.labels (page_has app ws visit answer p.labels (ap seen_answer p.made)))

  verb_same : (v : Verb) (visit : Visit) (one two : Answer)
      → ((labels : List ℕ) → one.shown ≡ Some labels → is_post v ≡ false)
      → ((labels : List ℕ) → two.shown ≡ Some labels → is_post v ≡ false) → IsAnswerOf false v app worlds visit one
      → IsAnswerOf false v app worlds' visit two → one.shown ≡ two.shown
  verb_same verbs.Get visit one two h h' p p' = get_same visit one two p p'
  verb_same verbs.Post visit one two h h' (inl (is, none)) (inl (is', none')) = full_has one is ∙ sym (full_has two is')
  verb_same verbs.Post visit one two h h' (inr (some, p)) is' = absurd (no_page worlds (worlds_after app worlds visit) visit one p h)
  verb_same verbs.Post visit one two h h' (inl (is, none)) (inr (some, p')) = absurd (no_page worlds' (worlds_after app worlds' visit) visit two p' h')

  found_same : (f : Found) (ask : Ask) (one two : Answer) → is_stored_by f app one.shown ≡ false
      → is_stored_by f app two.shown ≡ false → IsAnswerBy false f app worlds ask one
      → IsAnswerBy false f app worlds' ask two → one.shown ≡ two.shown
  found_same founds.NoRoute ask one two h h' is is' = ap (λ (a : Answer). a.shown) (is ∙ sym is')
  found_same (founds.WrongMethod allow) ask one two h h' is is' = ap (λ (a : Answer). a.shown) (is ∙ sym is')
  found_same (founds.View n pairs) ask one two h h' is is' =
      verb_same (method_in (slice_get app.views n)) (visit_of app (asked_with pairs ask) n) one two
      (λ labels on. unstored n pairs app labels one.shown on h) (λ labels on. unstored n pairs app labels two.shown on h') is is'

  shown_same : (subject : LogSubject) (one two : Answer) → is_stored_for app subject one ≡ false
      → is_stored_for app subject two ≡ false → IsAnswer false app worlds subject one
      → IsAnswer false app worlds' subject two → is_failure one ≡ false → is_failure two ≡ false
      → one.shown ≡ two.shown
  shown_same (whole ask closes) one two h h' (inl failed) is' stands stands' = absurd (no_failure one stands failed)
  shown_same (whole ask closes) one two h h' (inr is) (inl failed) stands stands' = absurd (no_failure two stands' failed)
  shown_same (whole ask closes) one two h h' (inr is) (inr is') stands stands' = found_same (found app ask.method ask.path) ask one two h h' is is'
  shown_same (refused status) one two h h' is is' stands stands' = ap (λ (a : Answer). a.shown) (refused_same status one two is is' stands stands')
  shown_same broken one two h h' is is' stands stands' = absurd (no_memory one stands is)

  entry_same : (start start' : State) (sessions : List Session) (one two : LogEntry)
      → IsSameWhereShown start start' one two → IsSameAsked one two
      → is_stored_for app one.subject one.answer ≡ false → is_stored_for app two.subject two.answer ≡ false
      → IsAnswer false app worlds one.subject one.answer → IsAnswer false app worlds' two.subject two.answer
      → is_failure one.answer ≡ false → is_failure two.answer ≡ false → IsShownSame start start' one two
  entry_same start start' sessions one two same asked h h' is is' stands stands' =
      let labels : one.answer.shown ≡ two.answer.shown =
      shown_same one.subject one.answer two.answer h (ap (λ (s : LogSubject). is_stored_for app s two.answer) asked.subject ∙ h')
      is (subst (λ (s : LogSubject). IsAnswer false app worlds' s two.answer) (sym asked.subject) is') stands stands' in
      record {
        asked = asked;
        labels = labels;
        reply = λ look. same_reply one two asked (by_labels start start' one.answer.shown one two same look refl (sym labels));
      }

  all_same : (early early' : Bool) (start start' : State) (sessions : List Session) (log others : List LogEntry)
      → AskedAlike early early' (application_hearing app sessions) log others → AreSameWhereShown start start' log others
      → AreAnswered false app worlds log → AreAnswered false app worlds' others → NoneFailed log → NoneFailed others
      → OnlyReads app log → OnlyReads app others → AreShownSame early early' start start' log others
  all_same early early' start start' sessions [] [] asked same answered answered' none none' reads reads' = tt
  all_same early early' start start' sessions [] (two ∷ others) asked same answered answered' none none' reads reads' = asked (stands false app sessions worlds' two answered'.0 none'.0)
  all_same early early' start start' sessions (one ∷ log) [] asked same answered answered' none none' reads reads' = asked (stands false app sessions worlds one answered.0 none.0)
  all_same early early' start start' sessions (one ∷ log) (two ∷ others) asked same answered answered' none none' reads reads' =
      let both = asked (stands false app sessions worlds one answered.0 none.0) (stands false app sessions worlds' two answered'.0 none'.0) in
      let replies = same (none.0, none'.0) in (
        entry_same start start' sessions one two replies.0 both.0 reads.0 reads'.0 answered.0 answered'.0 none.0 none'.0,
        all_same early early' start start' sessions log others both.1 replies.1 (still_answered app one worlds log reads.0 answered.1) (still_answered app two worlds' others reads'.0 answered'.1)
            none.1 none'.1 reads.1 reads'.1,
      )

pub labels_agree : (app : Application) (sessions : List Session) (events : List Event) (one two : OneRun)
    → IsRunServed app sessions events one → IsRunServed app sessions events two → one.lazy ≡ false → two.lazy ≡ false
    → is_open_app app ≡ true → StartAlike app one two → NoneFailed one.log → NoneFailed two.log
    → OnlyReads app one.log → OnlyReads app two.log
    → AreShownSame one.early two.early one.start two.start one.log two.log
labels_agree app sessions events one two served served' plain plain' clear starts none none' reads reads' =
    all_same app (worlds_of one.start) (worlds_of two.start) clear starts.even starts.even_too starts.alike one.early two.early one.start two.start sessions one.log two.log
    (asks app sessions events one two served served') (pages_agree app sessions events one two served served')
    (answered_whole app (worlds_of one.start) one.lazy one.log plain served.answered)
    (answered_whole app (worlds_of two.start) two.lazy two.log plain' served'.answered) none none' reads reads'
