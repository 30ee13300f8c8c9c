-- The laws of two runs, over their logs.
use Rattle.std.proofs.Common.{◌≡◌, ◌∙◌, ap, sym, subst, refl, arith, suc, ℕ, Bool, true, false, if◌then◌else◌, Option, Some, None, List, [], ◌∷◌, length, map}
use Rattle.jac_world.specs.World.{shown_by}
use Rattle.jac_lang.specs.Syntax.{Application}
use Rattle.jac_rows.specs.Project.{project_at}
use Rattle.jac_rows.specs.declared.plain.PlainState.{PlainState}
use Rattle.jac_rows.specs.declared.state.State.{State}
use Rattle.jac_plain.specs.Requests.{Worlds}
use Rattle.jac_events.specs.declared.event.Event.{Event}
use Rattle.jac_http.proofs.ReadingLaws.{reading}
use Rattle.jac_hub.specs.Hearing.{Source}
use Rattle.jac_hub.specs.Heard.{no_connections}
use Rattle.jac_route.specs.declared.sessions.Session.{Session}
use Rattle.jac_serve_events.specs.AnswerSpec.{LogSubject, LogEntry, is_failure, IsHeardBy}
use Rattle.jac_serve_events.specs.Log.{reply_on}
use Rattle.jac_dispatch.specs.Log.{application_hearing, IsAnswer, left_of, after_entry, after_log, AreAnswered}
use Rattle.jac_noninterference.specs.TwoRuns.{OneRun, IsRunServed, LookSame, NoneFailed, NeitherFailed, IsSameAsked, HaveSameSubjects, IsSameStep, AgreeAfterEach, EndAlike, IsSameReply, IsSameWhereShown, AreSameWhereShown, seen_answer, seen_entry, seen_by, labels_of, LookSameFor, AreSeenAlike}
use Rattle.jac_noninterference.proofs.SameSubjects.{Stands, AskedAlike, HeardFrom, asked_alike}
use Rattle.jac_noninterference.proofs.SameAnswers.{LookAlike, legible, left_same, look_same, seen_put, answer_seen}
use Rattle.jac_plain.specs.Shown.{worlds_of}

pub stands : (lazy : Bool) (app : Application) (sessions : List Session) (worlds : Worlds) (entry : LogEntry)
    → IsAnswer lazy app worlds entry.subject entry.answer → is_failure entry.answer ≡ false → Stands (application_hearing app sessions) entry
stands lazy app sessions worlds entry is on =
    record { goes_on = on; legible = legible lazy app worlds entry.subject entry.answer is on }

-- The second answer is an answer to the first subject.
to_first : (lazy : Bool) (app : Application) (worlds : Worlds) (one two : LogEntry) → IsSameAsked one two
    → IsAnswer lazy app worlds two.subject two.answer → IsAnswer lazy app worlds one.subject two.answer
to_first lazy app worlds one two same is = subst (λ (s : LogSubject). IsAnswer lazy app worlds s two.answer) (sym same.subject) is

-- Entries with the same request are one step of the same world.
same_step : (lazy lazy' : Bool) (w : ℕ → Bool) (app : Application) (worlds worlds' : Worlds) (one two : LogEntry) → worlds w ≡ worlds' w → IsSameAsked one two
    → IsAnswer lazy app worlds one.subject one.answer → IsAnswer lazy' app worlds' two.subject two.answer → NeitherFailed one two
    → IsSameStep w app one two (worlds w) (worlds' w)
same_step lazy lazy' w app worlds worlds' one two same asks is is' none =
    let leave = left_same lazy lazy' w app worlds worlds' one.subject one.answer two.answer same is (to_first lazy' app worlds' one two asks is') none.0 none.1 in
    record {
      asked = asks;
      page = leave.page;
      left = leave.left ∙ ap (λ (s : LogSubject). left_of w app s two.answer (worlds' w)) asks.subject;
    }

pub same_reply : (one two : LogEntry) → IsSameAsked one two → seen_answer one.answer ≡ seen_answer two.answer → IsSameReply one two
same_reply one two asks same = record {
  answer = same;
  put = λ spelling.
      sym (seen_put spelling one.source one.subject one.answer)
      ∙ (λ i. reply_on spelling (asks.source i) (asks.subject i) (same i))
      ∙ seen_put spelling two.source two.subject two.answer;
}

-- Labels that show the same of the starts still show the same of the worlds.
abbrev pub StillSame : State → State → Worlds → Worlds → Type 0
StillSame start start' worlds worlds' = (w : ℕ → Bool) → LookSame w start start' → worlds w ≡ worlds' w

look_entries : (lazy lazy' : Bool) (start start' : State) (app : Application) (worlds worlds' : Worlds) (one two : LogEntry) → StillSame start start' worlds worlds' → IsSameAsked one two
    → IsAnswer lazy app worlds one.subject one.answer → IsAnswer lazy' app worlds' two.subject two.answer → NeitherFailed one two → IsSameWhereShown start start' one two
look_entries lazy lazy' start start' app worlds worlds' one two still asks is is' none =
    let alike : LookAlike worlds worlds' one.answer two.answer =
    look_same lazy lazy' app worlds worlds' one.subject one.answer two.answer is (to_first lazy' app worlds' one two asks is') none.0 none.1 in
    record {
      refusal = λ without without'. same_reply one two asks (alike.refusal without without');
      page = λ labels same on on'. same_reply one two asks (alike.page labels (still (shown_by labels) same) on on');
    }

-- ---- over logs

-- The worlds after an entry.
abbrev pub behind : Application → LogEntry → Worlds → Worlds
behind app entry worlds w = after_entry w app entry (worlds w)

still_behind : (lazy lazy' : Bool) (start start' : State) (app : Application) (worlds worlds' : Worlds) (one two : LogEntry) → StillSame start start' worlds worlds' → IsSameAsked one two
    → IsAnswer lazy app worlds one.subject one.answer → IsAnswer lazy' app worlds' two.subject two.answer → NeitherFailed one two
    → StillSame start start' (behind app one worlds) (behind app two worlds')
still_behind lazy lazy' start start' app worlds worlds' one two still asks is is' none = λ w same.
    let step = same_step lazy lazy' w app worlds worlds' one two (still w same) asks is is' none in step.left

agree_from : (lazy lazy' : Bool) (w : ℕ → Bool) (early early' : Bool) (app : Application) (sessions : List Session) (worlds worlds' : Worlds) (log others : List LogEntry) → worlds w ≡ worlds' w
    → AskedAlike early early' (application_hearing app sessions) log others → AreAnswered lazy app worlds log → AreAnswered lazy' app worlds' others
    → AgreeAfterEach w app early early' log others (worlds w) (worlds' w)
agree_from lazy lazy' w early early' app sessions worlds worlds' [] [] same asks answered answered' = tt
agree_from lazy lazy' w early early' app sessions worlds worlds' [] (two ∷ others) same asks answered answered' = λ on. asks (stands lazy' app sessions worlds' two answered'.0 on)
agree_from lazy lazy' w early early' app sessions worlds worlds' (one ∷ log) [] same asks answered answered' = λ on. asks (stands lazy app sessions worlds one answered.0 on)
agree_from lazy lazy' w early early' app sessions worlds worlds' (one ∷ log) (two ∷ others) same asks answered answered' = λ none.
    let both = asks (stands lazy app sessions worlds one answered.0 none.0) (stands lazy' app sessions worlds' two answered'.0 none.1) in
    let step = same_step lazy lazy' w app worlds worlds' one two same both.0 answered.0 answered'.0 none in
    (step, agree_from lazy lazy' w early early' app sessions (behind app one worlds) (behind app two worlds') log others step.left both.1 answered.1 answered'.1)

look_from : (lazy lazy' : Bool) (start start' : State) (early early' : Bool) (app : Application) (sessions : List Session) (worlds worlds' : Worlds) (log others : List LogEntry)
    → StillSame start start' worlds worlds' → AskedAlike early early' (application_hearing app sessions) log others → AreAnswered lazy app worlds log → AreAnswered lazy' app worlds' others
    → AreSameWhereShown start start' log others
look_from lazy lazy' start start' early early' app sessions worlds worlds' [] others still asks answered answered' = tt
look_from lazy lazy' start start' early early' app sessions worlds worlds' (one ∷ log) [] still asks answered answered' = tt
look_from lazy lazy' start start' early early' app sessions worlds worlds' (one ∷ log) (two ∷ others) still asks answered answered' = λ none.
    let both = asks (stands lazy app sessions worlds one answered.0 none.0) (stands lazy' app sessions worlds' two answered'.0 none.1) in
    let next = still_behind lazy lazy' start start' app worlds worlds' one two still both.0 answered.0 answered'.0 none in (
      look_entries lazy lazy' start start' app worlds worlds' one two still both.0 answered.0 answered'.0 none,
      look_from lazy lazy' start start' early early' app sessions (behind app one worlds) (behind app two worlds') log others next both.1 answered.1 answered'.1,
    )

subjects_from : (lazy lazy' : Bool) (early early' : Bool) (app : Application) (sessions : List Session) (worlds worlds' : Worlds) (log others : List LogEntry)
    → AskedAlike early early' (application_hearing app sessions) log others → AreAnswered lazy app worlds log → AreAnswered lazy' app worlds' others → NoneFailed log → NoneFailed others
    → HaveSameSubjects early early' log others
subjects_from lazy lazy' early early' app sessions worlds worlds' [] [] asks answered answered' none none' = tt
subjects_from lazy lazy' early early' app sessions worlds worlds' [] (two ∷ others) asks answered answered' none none' = asks (stands lazy' app sessions worlds' two answered'.0 none'.0)
subjects_from lazy lazy' early early' app sessions worlds worlds' (one ∷ log) [] asks answered answered' none none' = asks (stands lazy app sessions worlds one answered.0 none.0)
subjects_from lazy lazy' early early' app sessions worlds worlds' (one ∷ log) (two ∷ others) asks answered answered' none none' =
    let both = asks (stands lazy app sessions worlds one answered.0 none.0) (stands lazy' app sessions worlds' two answered'.0 none'.0) in
    (both.0, subjects_from lazy lazy' early early' app sessions (behind app one worlds) (behind app two worlds') log others both.1 answered.1 answered'.1 none.1 none'.1)

as_long : (early early' : Bool) (log others : List LogEntry) → early ≡ false → early' ≡ false → HaveSameSubjects early early' log others → length log ≡ length others
as_long early early' [] [] whole whole' same = refl
as_long early early' [] (two ∷ others) whole whole' same = let wrong : true ≡ false = sym same ∙ whole in absurd cc
as_long early early' (one ∷ log) [] whole whole' same = let wrong : true ≡ false = sym same ∙ whole' in absurd cc
as_long early early' (one ∷ log) (two ∷ others) whole whole' same =
    let rest : length log ≡ length others = as_long early early' log others whole whole' same.1 in ap suc rest

-- If two logs agree and have equally many entries, they leave the same world.
ends_from : (w : ℕ → Bool) (early early' : Bool) (app : Application) (log others : List LogEntry) (t u : PlainState) → t ≡ u → AgreeAfterEach w app early early' log others t u → NoneFailed log → NoneFailed others
    → length log ≡ length others → after_log w app log t ≡ after_log w app others u
ends_from w early early' app [] [] t u same agree none none' long = same
ends_from w early early' app [] (two ∷ others) t u same agree none none' long = absurd (grind (arith, long))
ends_from w early early' app (one ∷ log) [] t u same agree none none' long = absurd (grind (arith, long))
ends_from w early early' app (one ∷ log) (two ∷ others) t u same agree none none' long =
    let both = agree (none.0, none'.0) in
    ends_from w early early' app log others (after_entry w app one t) (after_entry w app two u) both.0.left both.1 none.1 none'.1 (omega (arith, long))

-- ---- what an observer sees

-- An entry that is seen, and the rest.
seen_both : (b : Bool) (one two : LogEntry) (log others : List LogEntry)
    → (labels_of (if b then seen_entry one ∷ log else log) ≡ labels_of (if b then seen_entry two ∷ others else others))
    → (b ≡ true → one.answer.shown ≡ two.answer.shown → seen_entry one ≡ seen_entry two)
    → (labels_of log ≡ labels_of others → log ≡ others)
    → (if b then seen_entry one ∷ log else log) ≡ (if b then seen_entry two ∷ others else others)
seen_both true one two log others labels here later =
    let first : one.answer.shown ≡ two.answer.shown = cc in
    let rest : labels_of log ≡ labels_of others = cc in
    λ i. here refl first i ∷ later rest i
seen_both false one two log others labels here later = later labels

same_entry : (one two : LogEntry) → IsSameAsked one two → seen_answer one.answer ≡ seen_answer two.answer
    → seen_entry one ≡ seen_entry two
same_entry one two asks same = λ i. record { place = asks.place i; source = asks.source i; subject = asks.subject i; answer = same i }

pub by_labels : (start start' : State) (o : Option (List ℕ)) (one two : LogEntry) → IsSameWhereShown start start' one two
    → ((labels : List ℕ) → one.answer.shown ≡ Some labels → LookSame (shown_by labels) start start') → one.answer.shown ≡ o → two.answer.shown ≡ o
    → seen_answer one.answer ≡ seen_answer two.answer
by_labels start start' None one two same look is is' = (same.refusal is is').answer
by_labels start start' (Some labels) one two same look is is' = (same.page labels (look labels is) is is').answer

-- The labels of what is seen.
look_seen : (b : Bool) (start start' : State) (one : LogEntry) (log : List LogEntry) → LookSameFor start start' (if b then seen_entry one ∷ log else log)
    → ((b ≡ true) → (labels : List ℕ) → one.answer.shown ≡ Some labels → LookSame (shown_by labels) start start') × LookSameFor start start' log
look_seen true start start' one log look = (λ on. look.0, look.1)
look_seen false start start' one log look = (λ off. let wrong : false ≡ true = off in absurd cc, look)

seen_from : (sees : Source → LogSubject → Bool) (early early' : Bool) (start start' : State) (log others : List LogEntry) → early ≡ false → early' ≡ false
    → HaveSameSubjects early early' log others → AreSameWhereShown start start' log others → NoneFailed log → NoneFailed others
    → labels_of (seen_by sees log) ≡ labels_of (seen_by sees others) → LookSameFor start start' (seen_by sees log) → seen_by sees log ≡ seen_by sees others
seen_from sees early early' start start' [] [] whole whole' asks same none none' labels look = refl
seen_from sees early early' start start' [] (two ∷ others) whole whole' asks same none none' labels look = let wrong : true ≡ false = sym asks ∙ whole in absurd cc
seen_from sees early early' start start' (one ∷ log) [] whole whole' asks same none none' labels look = let wrong : true ≡ false = sym asks ∙ whole' in absurd cc
seen_from sees early early' start start' (one ∷ log) (two ∷ others) whole whole' asks same none none' labels look =
    let both = same (none.0, none'.0) in
    let given : sees two.source two.subject ≡ sees one.source one.subject = λ i. sees (sym asks.0.source i) (sym asks.0.subject i) in
    let theirs : seen_by sees (two ∷ others)
    ≡ (if sees one.source one.subject then seen_entry two ∷ seen_by sees others else seen_by sees others) =
    ap (λ (b : Bool). if b then seen_entry two ∷ seen_by sees others else seen_by sees others) given in
    let parts = look_seen (sees one.source one.subject) start start' one (seen_by sees log) look in
    seen_both (sees one.source one.subject) one two (seen_by sees log) (seen_by sees others) (labels ∙ ap labels_of theirs)
    (λ on first. same_entry one two asks.0 (by_labels start start' two.answer.shown one two both.0 (parts.0 on) first refl))
    (λ rest. seen_from sees early early' start start' log others whole whole' asks.1 both.1 none.1 none'.1 rest parts.1)
    ∙ sym theirs

-- ---- what isn't seen

seen_log : (app : Application) (worlds : Worlds) (log : List LogEntry) → AreAnswered false app worlds log → map seen_entry log ≡ log
seen_log app worlds [] answered = refl
seen_log app worlds (entry ∷ log) answered =
    let first = answer_seen app worlds entry.subject entry.answer answered.0 in
    let rest = seen_log app (behind app entry worlds) log answered.1 in
    λ i. record entry { answer = first i } ∷ rest i

-- A run in which each page resolved all labels.
pub answered_whole : (app : Application) (worlds : Worlds) (lazy : Bool) (log : List LogEntry) → lazy ≡ false
    → AreAnswered lazy app worlds log → AreAnswered false app worlds log
answered_whole app worlds lazy log is answered = subst (λ (b : Bool). AreAnswered b app worlds log) is answered

pub all_is_seen : (app : Application) (sessions : List Session) (events : List Event) (run : OneRun)
    → IsRunServed app sessions events run → run.lazy ≡ false → map seen_entry run.log ≡ run.log
all_is_seen app sessions events run served whole =
    seen_log app (worlds_of run.start) run.log (answered_whole app (worlds_of run.start) run.lazy run.log whole served.answered)

-- ---- over runs

heard : (early : Bool) (app : Application) (sessions : List Session) (events : List Event) (log : List LogEntry) → IsHeardBy early (application_hearing app sessions) events log
    → HeardFrom early (application_hearing app sessions) no_connections 0 events log
heard false app sessions events log is = is
heard true app sessions events log is = is

module _ (app : Application) (sessions : List Session) (events : List Event) (one two : OneRun) (served : IsRunServed app sessions events one) (served' : IsRunServed app sessions events two) where
  pub asks : AskedAlike one.early two.early (application_hearing app sessions) one.log two.log
  asks = asked_alike one.early two.early (application_hearing app sessions) reading events 0 no_connections one.log two.log
      (heard one.early app sessions events one.log served.subjects) (heard two.early app sessions events two.log served'.subjects)

  pub worlds_agree : (w : ℕ → Bool) → LookSame w one.start two.start → AgreeAfterEach w app one.early two.early one.log two.log (project_at w one.start) (project_at w two.start)
  worlds_agree w same = agree_from one.lazy two.lazy w one.early two.early app sessions (worlds_of one.start) (worlds_of two.start) one.log two.log same asks served.answered served'.answered

  pub pages_agree : AreSameWhereShown one.start two.start one.log two.log
  pages_agree =
      look_from one.lazy two.lazy one.start two.start one.early two.early app sessions (worlds_of one.start) (worlds_of two.start) one.log two.log (λ w same. same) asks served.answered served'.answered

  pub subjects_agree : NoneFailed one.log → NoneFailed two.log → HaveSameSubjects one.early two.early one.log two.log
  subjects_agree none none' =
      subjects_from one.lazy two.lazy one.early two.early app sessions (worlds_of one.start) (worlds_of two.start) one.log two.log asks served.answered served'.answered none none'

  pub ends_agree : (w : ℕ → Bool) → LookSame w one.start two.start → NoneFailed one.log → NoneFailed two.log → EndAlike w one two
  ends_agree w same none none' =
      let alike = subjects_agree none none' in
      record {
        subjects = alike;
        long = λ whole whole'. as_long one.early two.early one.log two.log whole whole' alike;
        ends = λ as_many.
            served.worlds w
            ∙ ends_from w one.early two.early app one.log two.log (project_at w one.start) (project_at w two.start) same (worlds_agree w same) none none' as_many
            ∙ sym (served'.worlds w);
      }

  pub views_agree : (sees : Source → LogSubject → Bool) → AreSeenAlike sees one two → seen_by sees one.log ≡ seen_by sees two.log
  views_agree sees alike =
      seen_from sees one.early two.early one.start two.start one.log two.log alike.whole alike.whole_too (subjects_agree alike.none_failed alike.none_failed_too) pages_agree
      alike.none_failed alike.none_failed_too alike.labels alike.starts
