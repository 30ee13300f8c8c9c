-- Each reply of a serve is a right page, a refusal with its cause, or a failure.
use Rattle.std.proofs.Common.{◌≡◌, ap, sym, subst, refl, inl, inr, ◌⊎◌, arith, ℕ, ◌+◌, ◌≤◌, Bool, true, if◌then◌else◌, Option, Some, None, List, [], ◌∷◌, ◌++◌}
use Rattle.jac_io.specs.Faults.{Rose}
use Rattle.jac_lang.specs.Syntax.{Application}
use Rattle.jac_keep.specs.KeeperSeen.{KeeperSeen}
use Rattle.jac_plain.specs.Requests.{Worlds}
use Rattle.jac_plain.specs.Shown.{worlds_of}
use Rattle.jac_hub.specs.Hearing.{whole, refused, broken}
use Rattle.jac_route.specs.Found.{found}
use Rattle.jac_replies.specs.Refused.{refusal}
use Rattle.jac_replies.specs.declared.answer.Answer.{Answer}
use Rattle.jac_replies.specs.declared.answer.Ask.{Ask}
use Rattle.jac_engine.specs.Answers.{IsAnswerTo}
use Rattle.jac_serve_events.specs.AnswerSpec.{LogSubject, LogEntry}
use Rattle.jac_serve_events.specs.RunSeen.{Grew, run_seen_of, run_seen_with}
use Rattle.jac_serve_events.specs.Outside.{Span, span}
use Rattle.jac_cli.specs.declared.words.ServeArgs.{ServeArgs}
use Rattle.jac_dispatch.specs.Log.{IsAnswer, AreAnswered, is_fault_answer, faults_in}
use Rattle.jac_run_laws.specs.Doors.{HasServed}
use Rattle.jac_run_laws.specs.Replayed.{TopRun, IsToldToEnd, counts_of}
use Rattle.jac_headline.specs.Headline.{HasEntry, world_behind}
use Rattle.jac_headline.specs.Replies.{IsRefusedFor, IsRightReply, AreRightReplies}
use Rattle.jac_headline.proofs.RightAnswers.{refusal_found, entry_in, page_in}
use Rattle.jac_headline.proofs.Visits.{visits_on}

-- ---- one answer

-- A page, a refusal with its cause, or a failure.
abbrev IsOfKind : Application → Worlds → LogSubject → Answer → Type 0
IsOfKind app worlds subject answer =
    ((labels : List ℕ) × (answer.shown ≡ Some labels))
    ⊎ ((answer.shown ≡ None) × IsRefusedFor app worlds subject answer.status)
    ⊎ (answer ≡ refusal 500 None) ⊎ (answer ≡ refusal 503 None)

kind_shown : (lazy : Bool) (app : Application) (worlds : Worlds) (ask : Ask) (closes : Bool) (answer : Answer) (o : Option (List ℕ)) → answer.shown ≡ o
    → IsAnswerTo lazy app worlds ask answer → IsOfKind app worlds (whole ask closes) answer
kind_shown lazy app worlds ask closes answer None on is = inr (inl (on, refusal_found lazy (found app ask.method ask.path) app worlds ask answer is on))
kind_shown lazy app worlds ask closes answer (Some labels) on is = inl (labels, on)

kind_of : (lazy : Bool) (app : Application) (worlds : Worlds) (subject : LogSubject) (answer : Answer) → IsAnswer lazy app worlds subject answer
    → IsOfKind app worlds subject answer
kind_of lazy app worlds (whole ask closes) answer (inl (inl is)) = inr (inr (inl is))
kind_of lazy app worlds (whole ask closes) answer (inl (inr is)) = inr (inr (inr is))
kind_of lazy app worlds (whole ask closes) answer (inr is) = kind_shown lazy app worlds ask closes answer answer.shown refl is
kind_of lazy app worlds (refused status) answer (inl is) = inr (inr (inl is))
kind_of lazy app worlds (refused status) answer (inr is) = inr (inl (ap (λ (a : Answer). a.shown) is, ap (λ (a : Answer). a.status) is))
kind_of lazy app worlds broken answer is = inr (inr (inl is))

-- ---- faults of the store

abbrev one_if : Bool → ℕ
one_if b = if b then 1 else 0

has_fault : (before : List LogEntry) (entry : LogEntry) (later : List LogEntry) → is_fault_answer entry.answer ≡ true → 1 ≤ faults_in (before ++ entry ∷ later)
has_fault [] entry later on =
    let one : one_if (is_fault_answer entry.answer) ≡ one_if true = ap one_if on in
    omega (arith, one)
has_fault (e ∷ before) entry later on = omega (arith, has_fault before entry later on)

rose_by : (before count after : ℕ) → 1 ≤ count → Grew before count after → Rose before after
rose_by before count after some grew = omega (arith, some, grew)

-- ---- in a log

right_reply : (lazy : Bool) (app : Application) (store : Span KeeperSeen) (log : List LogEntry) → AreAnswered lazy app (worlds_of store.before.state) log
    → Grew store.before.faults (faults_in log) store.after.faults → (before : List LogEntry) (entry : LogEntry) → HasEntry log before entry
    → IsRightReply lazy app store (world_behind app store.before.state before) (world_behind app store.before.state (before ++ entry ∷ [])) entry
right_reply lazy app store log answered grew before entry has =
    by (kind_of lazy app (world_behind app store.before.state before) entry.subject entry.answer is)
  where
    is : IsAnswer lazy app (world_behind app store.before.state before) entry.subject entry.answer
    is = entry_in lazy app store.before.state log before entry answered has

    rose : is_fault_answer entry.answer ≡ true → Rose store.before.faults store.after.faults
    rose on =
        let some = subst (λ (l : List LogEntry). 1 ≤ faults_in l) (sym has.parts) (has_fault before entry has.later on) in
        rose_by store.before.faults (faults_in log) store.after.faults some grew

    by : IsOfKind app (world_behind app store.before.state before) entry.subject entry.answer
        → IsRightReply lazy app store (world_behind app store.before.state before) (world_behind app store.before.state (before ++ entry ∷ [])) entry
    by (inl (labels, on)) = inl (record { labels = labels; shown = on; right = page_in lazy app store.before.state before entry labels is on })
    by (inr (inl (none, cause))) = inr (inl (record { no_page = none; cause = cause }))
    by (inr (inr (inl memory))) = inr (inr (inl memory))
    by (inr (inr (inr fails))) = inr (inr (inr (record { answer = fails; rose = rose (ap is_fault_answer fails) })))

pub each_reply : {L : Type 0} (serving : ServeArgs) (top : TopRun L) (run : HasServed serving top) → IsToldToEnd top
    → AreRightReplies serving.lazy run.app (span run.door_served.opened top.seen.keeper.after) run.log
each_reply serving top run ended =
    let s = run.door_served in
    let on = visits_on top.line serving.lazy run.app run.sessions 1 0 (run_seen_of s.opened (counts_of top).before) (run_seen_with top.seen.keeper.after (counts_of top).after s.left)
    run.visits run.log run.audit s.visited ended.keeper in
    λ before entry has. right_reply serving.lazy run.app (span s.opened top.seen.keeper.after) run.log on.answered on.faults before entry has
