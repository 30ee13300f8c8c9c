-- The log of a connection doesn't depend on the pieces in which its input was taken.
use Rattle.std.proofs.Common.{◌≡◌, ◌∙◌, ap, sym, subst, refl, ℕ, Bool, false, List, [], ◌∷◌, ◌++◌, map, append-nil, append_assoc, IsTrue}
use Rattle.std.specs.List.{concat}
use Rattle.jac_lang.specs.Syntax.{Application}
use Rattle.jac_rows.specs.declared.plain.PlainState.{PlainState}
use Rattle.jac_rows.specs.Project.{project_at}
use Rattle.jac_plain.specs.Requests.{Worlds}
use Rattle.jac_events.specs.declared.event.Event.TheVariants.{Begin, Finish}
use Rattle.jac_http.proofs.ReadingLaws.{reading}
use Rattle.jac_hub.specs.Hearing.{Source}
use Rattle.jac_hub.specs.Heard.{no_connections, IsHeard}
use Rattle.jac_hub.specs.Alike.{content, IsHeardAlike}
use Rattle.jac_hub.proofs.Cutting.{pieces-joined}
use Rattle.jac_route.specs.declared.sessions.Session.{Session}
use Rattle.jac_replies.specs.declared.answer.Answer.{Answer}
use Rattle.jac_serve_events.specs.AnswerSpec.{LogSubject, LogEntry, is_failure}
use Rattle.jac_serve_events.specs.RunSeen.{RunSeen}
use Rattle.jac_serve_events.specs.Outside.{span}
use Rattle.jac_serve_events.specs.Serve.{IsServed as IsServedBy}
use Rattle.jac_connections.specs.Link.{pieces_of, events_of}
use Rattle.jac_dispatch.specs.Answered.{answer_spec_of}
use Rattle.jac_dispatch.specs.Log.{application_hearing, IsAnswer, left_of, after_entry, after_log, AreAnswered}
use Rattle.jac_noninterference.specs.TwoRuns.{IsRunServed, NoneFailed}
use Rattle.jac_plain.specs.Shown.{worlds_of}

-- ---- entries that are equal except for the places of their events

pub record IsMoved (one two : LogEntry) : Type 0 where
  pub source : one.source ≡ two.source
  pub subject : one.subject ≡ two.subject
  pub answer : one.answer ≡ two.answer

abbrev pub AreMoved : List LogEntry → List LogEntry → Type 0
AreMoved [] [] = Unit {0}
AreMoved [] (two ∷ others) = ⊥
AreMoved (one ∷ log) [] = ⊥
AreMoved (one ∷ log) (two ∷ others) = IsMoved one two × AreMoved log others

abbrev Content : Type 0
Content = Source × LogSubject × Answer

no_content : (x : Content) (xs : List Content) → [] ≡ x ∷ xs → ⊥
no_content x xs same = cc

first_content : (x y : Content) (xs ys : List Content) → x ∷ xs ≡ y ∷ ys → x ≡ y
first_content x y xs ys same = cc

rest_content : (x y : Content) (xs ys : List Content) → x ∷ xs ≡ y ∷ ys → xs ≡ ys
rest_content x y xs ys same = cc

moved_by : (log others : List LogEntry) → map content log ≡ map content others → AreMoved log others
moved_by [] [] same = tt
moved_by [] (two ∷ others) same = absurd (no_content (content two) (map content others) same)
moved_by (one ∷ log) [] same = absurd (no_content (content one) (map content log) (sym same))
moved_by (one ∷ log) (two ∷ others) same =
    let first : content one ≡ content two = first_content (content one) (content two) (map content log) (map content others) same in (
      record {
        source = ap (λ (x : Content). x.0) first;
        subject = ap (λ (x : Content). x.1) first;
        answer = ap (λ (x : Content). x.2) first;
      },
      moved_by log others (rest_content (content one) (content two) (map content log) (map content others) same),
    )

behind_moved : (app : Application) (one two : LogEntry) (ws : Worlds) → IsMoved one two
    → ◌≡◌ {A = Worlds} (λ w. after_entry w app one (ws w)) (λ w. after_entry w app two (ws w))
behind_moved app one two ws m i w = left_of w app (m.subject i) (m.answer i) (ws w)

answered_moved : (lazy : Bool) (app : Application) (ws : Worlds) (log others : List LogEntry) → AreMoved log others
    → AreAnswered lazy app ws others → AreAnswered lazy app ws log
answered_moved lazy app ws [] [] m h = tt
answered_moved lazy app ws [] (two ∷ others) m h = absurd m
answered_moved lazy app ws (one ∷ log) [] m h = absurd m
answered_moved lazy app ws (one ∷ log) (two ∷ others) m h =
    let answer = subst (λ (a : Answer). IsAnswer lazy app ws two.subject a) (sym m.0.answer) h.0 in
    let rest = subst (λ (u : Worlds). AreAnswered lazy app u others) (sym (behind_moved app one two ws m.0)) h.1 in (
      subst (λ (s : LogSubject). IsAnswer lazy app ws s one.answer) (sym m.0.subject) answer,
      answered_moved lazy app (λ w. after_entry w app one (ws w)) log others m.1 rest,
    )

left_moved : (w : ℕ → Bool) (app : Application) (log others : List LogEntry) (t : PlainState) → AreMoved log others → after_log w app log t ≡ after_log w app others t
left_moved w app [] [] t m = refl
left_moved w app [] (two ∷ others) t m = absurd m
left_moved w app (one ∷ log) [] t m = absurd m
left_moved w app (one ∷ log) (two ∷ others) t m =
    left_moved w app log others (after_entry w app one t) m.1
    ∙ ap (after_log w app others) (λ i. left_of w app (m.0.subject i) (m.0.answer i) t)

pub none_moved : (log others : List LogEntry) → AreMoved log others → NoneFailed others → NoneFailed log
none_moved [] [] m none = tt
none_moved [] (two ∷ others) m none = absurd m
none_moved (one ∷ log) [] m none = absurd m
none_moved (one ∷ log) (two ∷ others) m none = (ap is_failure m.0.answer ∙ none.0, none_moved log others m.1 none.1)

-- ---- input in any pieces

module _ (lazy : Bool) (app : Application) (sessions : List Session) (c : ℕ) where
  joined : (piece : List ℕ) (pieces : List (List ℕ)) (log : List LogEntry) → IsHeard (application_hearing app sessions) (events_of c (piece ∷ pieces)) log
      → IsHeardAlike (application_hearing app sessions) no_connections 0 (events_of c ((piece ++ concat pieces) ∷ [])) log
  joined piece [] log heard =
      let whole : piece ≡ piece ++ [] = sym (append-nil piece) in
      record { other = log; heard = subst (λ (p : List ℕ). IsHeard (application_hearing app sessions) (events_of c (p ∷ [])) log) whole heard; alike = refl }
  joined piece (next ∷ pieces) log heard =
      let both = pieces-joined (application_hearing app sessions) reading c piece next (Begin c ∷ []) (pieces_of c pieces ++ Finish c ∷ []) no_connections 0 log heard in
      let all = joined (piece ++ next) pieces both.other both.heard in
      record {
        other = all.other;
        heard =
            subst (λ (p : List ℕ). IsHeard (application_hearing app sessions) (events_of c (p ∷ [])) all.other) (append_assoc piece next (concat pieces)) all.heard;
        alike = all.alike ∙ both.alike;
      }

  joined_some : (pieces : List (List ℕ)) (bytes : List ℕ) (log : List LogEntry) → concat pieces ≡ bytes → (bytes ≡ [] → ⊥)
      → IsHeard (application_hearing app sessions) (events_of c pieces) log → IsHeardAlike (application_hearing app sessions) no_connections 0 (events_of c (bytes ∷ [])) log
  joined_some [] bytes log is some heard = absurd (some (sym is))
  joined_some (piece ∷ pieces) bytes log is some heard =
      subst (λ (b : List ℕ). IsHeardAlike (application_hearing app sessions) no_connections 0 (events_of c (b ∷ [])) log) is (joined piece pieces log heard)

  -- A connection was served. Its log, as if its input had come in one piece.
  pub record IsLinkRun (bytes : List ℕ) (before after : RunSeen) (log : List LogEntry) : Type 0 where
    pub other : List LogEntry
    pub moved : AreMoved other log
    pub served :
        IsRunServed app sessions (events_of c (bytes ∷ []))
        (record { lazy = lazy; early = false; start = before.keeper.state; log = other; finish = after.keeper.state })

  pub link_run : (pieces : List (List ℕ)) (bytes : List ℕ) (before after : RunSeen) (log : List LogEntry) → concat pieces ≡ bytes → (bytes ≡ [] → ⊥)
      → IsServedBy false (answer_spec_of lazy app sessions) (span before after) (events_of c pieces) log
      → IsTrue after.keeper.tells → IsLinkRun bytes before after log
  link_run pieces bytes before after log is some served told =
      let alike = joined_some pieces bytes log is some served.subjects in
      let moved = moved_by alike.other log alike.alike in
      record {
        other = alike.other;
        moved = moved;
        served = record {
          subjects = alike.heard;
          answered = answered_moved lazy app (worlds_of before.keeper.state) alike.other log moved (served.entries.answered told);
          worlds = λ w. served.entries.worlds told w ∙ sym (left_moved w app alike.other log (project_at w before.keeper.state) moved);
          goes_on = served.entries.goes_on told;
          good = served.entries.good told;
        };
      }
