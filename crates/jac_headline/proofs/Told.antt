-- What a replay answered, by the contract of the top call. It ended with status 0, or with status 3
-- because a line of the events is refused, and the contents of its files and its store are known at
-- the end.
use Rattle.std.proofs.Common.{◌≡◌, ◌∙◌, ap, sym, subst, refl, inl, inr, ◌⊎◌, ℕ, false, IsTrue, Result, Ok, Err, Option, Some, None, List, ◌++◌, append-nil}
use Rattle.jac_io.specs.Seen.{SinkSeen}
use Rattle.jac_lang.specs.Syntax.{Application}
use Rattle.jac_keep.specs.KeeperSeen.{KeeperSeen}
use Rattle.jac_app_load.specs.Application.{IsApplication}
use Rattle.jac_events.specs.declared.event.Event.{Event}
use Rattle.jac_hub.specs.Heard.{Connections, no_connections}
use Rattle.jac_route.specs.declared.sessions.Session.{Session}
use Rattle.jac_route.specs.Sessions.{sessions_in}
use Rattle.jac_replies.specs.declared.answer.Ask.{Ask}
use Rattle.jac_serve_events.specs.AnswerSpec.{LogEntry}
use Rattle.jac_serve_events.specs.RunSeen.{run_seen_of, run_seen_with}
use Rattle.jac_viewer_caches.specs.declared.viewer_caches.ViewerEntry.{ViewerEntry}
use Rattle.jac_serve_events.specs.Log.{Brings, audit_lines}
use Rattle.jac_serve_events.specs.Outside.{Span, span, Took}
use Rattle.jac_serve_events.specs.Script.{script_of}
use Rattle.jac_serve_events.specs.Serve.{PutsServed}
use Rattle.jac_serve_events.specs.declared.serve.EventFault.{EventFault}
use Rattle.jac_cli.specs.declared.words.Command.{Command}
use Rattle.jac_cli.specs.declared.words.Command.TheVariants as commands
use Rattle.jac_cli.specs.declared.words.Replay.{Replay}
use Rattle.jac_cli.specs.Words.{command_of}
use Rattle.jac_command_base.specs.declared.exit_reason.ExitReason.{ExitReason}
use Rattle.jac_command_base.specs.declared.exit_reason.ExitReason.TheVariants as exits
use Rattle.jac_command_base.specs.declared.status.Status.{Status}
use Rattle.jac_command_base.specs.declared.status.Status.TheVariants as statuses
use Rattle.jac_command_base.specs.Attached.{IsAttached}
use Rattle.jac_command_base.specs.ExitReason.{event_fault_line, Closes, Finishes}
use Rattle.jac_command_base.specs.Files.{standing_at, IsOpened, HasBadLine}
use Rattle.jac_dispatch.specs.Answered.{answer_spec_of}
use Rattle.jac_dispatch.specs.Log.{Serves}
use Rattle.jac_app.specs.Replay.{EndsReplay}
use Rattle.jac_app.specs.Run.{Ends, Runs}
use Rattle.jac_run_laws.specs.Replayed.{TopRun, IsTopRun, HoldSessions, counts_of}
use Rattle.jac_run_laws.proofs.Replays.{serves, sessions_held, same_command}
use Rattle.jac_run_laws.proofs.SameReplays.{same_bytes, one_sessions}
use Rattle.jac_headline.specs.Headline.{Given, HoldGiven, IsReplayTold, event_fault_text, status_by}

-- What the replay read, and how it answered that.
pub record HasAnswered {L : Type 0} (replay : Replay) (given : Given) (top : TopRun L) : Type 0 where
  pub app : Application
  pub opened : KeeperSeen
  pub log : List LogEntry
  pub text : List ℕ
  pub later : Connections Ask
  pub spelled : IsApplication given.app app
  pub attached : IsAttached replay.db app top.seen.keeper opened
  pub served :
      Serves replay.lazy false app given.sessions opened.state (script_of given.events).events log
      top.seen.keeper.after.state
  pub brought :
      Brings (answer_spec_of replay.lazy app given.sessions) no_connections 0
      (script_of given.events).events log text later
  pub out_took : Took top.seen.out (text ++ event_fault_text (script_of given.events).refused)
  pub audit_took : Took top.seen.audit (audit_lines log)
  pub ended : top.status ≡ status_by (script_of given.events).refused

-- ---- the endings with these statuses

-- Status 0 or status 3.
abbrev pub IsTelling : Status → Type 0
IsTelling status = (status ≡ statuses.Done) ⊎ (status ≡ statuses.LineRefused)

not_read : IsTelling statuses.ReadFault → ⊥
not_read (inl e) = cc
not_read (inr e) = cc

not_long : IsTelling statuses.TooLong → ⊥
not_long (inl e) = cc
not_long (inr e) = cc

not_app : IsTelling statuses.AppRefused → ⊥
not_app (inl e) = cc
not_app (inr e) = cc

not_upgrade : IsTelling statuses.UpgradeRefused → ⊥
not_upgrade (inl e) = cc
not_upgrade (inr e) = cc

not_write : IsTelling statuses.WriteFault → ⊥
not_write (inl e) = cc
not_write (inr e) = cc

not_store : IsTelling statuses.StoreFault → ⊥
not_store (inl e) = cc
not_store (inr e) = cc

not_door : IsTelling statuses.DoorFault → ⊥
not_door (inl e) = cc
not_door (inr e) = cc

not_other : IsTelling statuses.OtherStore → ⊥
not_other (inl e) = cc
not_other (inr e) = cc

not_memory : IsTelling statuses.Memory → ⊥
not_memory (inl e) = cc
not_memory (inr e) = cc

not_usage : IsTelling statuses.Usage → ⊥
not_usage (inl e) = cc
not_usage (inr e) = cc

-- If the run ends with one of these statuses, the last line was written, and the status is the one
-- that belongs to the line.
closed_with : (out : Span SinkSeen) (line put : List ℕ) (status answer : Status) → Closes out line status put answer
    → IsTelling answer → (put ≡ line) × (answer ≡ status)
closed_with out line put status answer (inl h) telling = h
closed_with out line put status answer (inr h) telling = absurd (not_write (subst (λ (s : Status). IsTelling s) h.1 telling))

closes_telling : (out : Span SinkSeen) (line put : List ℕ) (status answer : Status) → Closes out line status put answer
    → IsTelling answer → IsTelling status
closes_telling out line put status answer closes telling =
    subst (λ (s : Status). IsTelling s) (closed_with out line put status answer closes telling).1 telling

-- A file that contains sessions has no bad line.
no_bad_line : {L : Type 0} (top : TopRun L) (name : Option (List ℕ)) (sessions : List Session) (line : ℕ) → IsTrue top.seen.files.after.tells
    → HoldSessions top.seen.files.before.file name sessions → HasBadLine top.seen.files name line → ⊥
no_bad_line top None sessions line told held bad = bad
no_bad_line top (Some name) sessions line told (bytes, file, listed) (other, read, unlisted) =
    let same = same_bytes bytes other (top.seen.files.before.file name) file (read.told told) in
    let wrong : Ok sessions ≡ Err line = sym (subst (λ (b : List ℕ). sessions_in b ≡ Ok sessions) same listed) ∙ unlisted in
    cc

-- ---- the events were answered

module _ {L : Type 0} (replay : Replay) (given : Given) (top : TopRun L) (told : IsReplayTold top) (held : HoldGiven top.seen.files.before.file replay given) (standing : SinkSeen) (served last audit : List ℕ) (out_took : Took top.seen.out (served ++ last)) (audit_took : Took top.seen.audit audit) where
  -- The files contain what was read.
  read_is : (app : Application) (sessions : List Session) (bytes : List ℕ)
      → (opened : IsOpened (standing_at top.seen standing) (commands.Replay replay) app sessions bytes)
      → record { app = opened.application.bytes; sessions = sessions; events = bytes } ≡ given
  read_is app sessions bytes opened =
      let first = same_bytes opened.application.bytes given.app (top.seen.files.before.file replay.app) (opened.application.read.told told.files) held.app_file in
      let second = one_sessions top.seen.files.before.file replay.sessions sessions given.sessions
      (sessions_held top.seen.files replay.sessions sessions told.files opened.sessions_had) held.sessions_held in
      let third = same_bytes bytes given.events (top.seen.files.before.file replay.events) (opened.events_read.told told.files) held.events_file in
      λ i. record { app = first i; sessions = second i; events = third i }

  answered_on : (app : Application) (sessions : List Session) (bytes : List ℕ) (refused : Option EventFault)
      → IsOpened (standing_at top.seen standing) (commands.Replay replay) app sessions bytes
      → (opened : KeeperSeen) → IsAttached replay.db app top.seen.keeper opened
      → (left : List ViewerEntry)
      → PutsServed false (answer_spec_of replay.lazy app sessions)
      (span (run_seen_of opened (counts_of top).before) (run_seen_with top.seen.keeper.after (counts_of top).after left)) (script_of bytes) served audit
      → (script_of bytes).refused ≡ refused → last ≡ event_fault_text refused → top.status ≡ status_by refused
      → HasAnswered replay given top
  answered_on app sessions bytes refused files opened attached left lines stops line status =
      let all : (script_of bytes).events ≡ lines.events =
      lines.parts ∙ ap (λ (l : List Event). lines.events ++ l) (lines.ended refl) ∙ append-nil lines.events in
      let brings : Brings (answer_spec_of replay.lazy app sessions) no_connections 0 (script_of bytes).events lines.log served lines.later =
      subst (λ (l : List Event). Brings (answer_spec_of replay.lazy app sessions) no_connections 0 l lines.log served lines.later)
      (sym all) lines.out_text in
      let last_is : last ≡ event_fault_text (script_of bytes).refused = line ∙ ap event_fault_text (sym stops) in
      let answered : HasAnswered replay (record { app = files.application.bytes; sessions = sessions; events = bytes }) top =
      record {
        app = app;
        opened = opened;
        log = lines.log;
        text = served;
        later = lines.later;
        spelled = files.application.spelled;
        attached = attached;
        served =
            serves replay.lazy false app sessions
            (span (run_seen_of opened (counts_of top).before) (run_seen_with top.seen.keeper.after (counts_of top).after left))
            (script_of bytes).events lines.log lines.served told.keeper;
        brought = brings;
        out_took = subst (λ (l : List ℕ). Took top.seen.out (served ++ l)) last_is out_took;
        audit_took = subst (λ (l : List ℕ). Took top.seen.audit l) lines.audit_text audit_took;
        ended = status ∙ ap status_by (sym stops);
      } in
      subst (λ (g : Given). HasAnswered replay g top) (read_is app sessions bytes files) answered

  -- All events were answered.
  replay_done : EndsReplay (standing_at top.seen standing) (counts_of top) (commands.Replay replay) (Ok tt) served audit
      → last ≡ event_fault_text None → top.status ≡ statuses.Done → HasAnswered replay given top
  replay_done (inl early) line status = absurd early.0
  replay_done (inr serving) line status =
      let on = serving.ends.1 in
      answered_on serving.app serving.sessions serving.events None serving.opened on.opened on.attached on.left on.ends.1 on.ends.0 line status

  -- The events before a refused line were answered.
  replay_stopped : (event_fault : EventFault) → EndsReplay (standing_at top.seen standing) (counts_of top) (commands.Replay replay) (Err (exits.LineRefused event_fault)) served audit
      → last ≡ event_fault_line event_fault → top.status ≡ statuses.LineRefused → HasAnswered replay given top
  replay_stopped event_fault (inl early) line status = absurd early.0.0
  replay_stopped event_fault (inr serving) line status =
      let on = serving.ends.1 in
      answered_on serving.app serving.sessions serving.events (Some event_fault) serving.opened on.opened on.attached on.left on.ends.1 on.ends.0 line status

  -- No line of the sessions is refused.
  replay_unlisted : (n : ℕ) → EndsReplay (standing_at top.seen standing) (counts_of top) (commands.Replay replay) (Err (exits.SessionsRefused n)) served audit
      → HasAnswered replay given top
  replay_unlisted n (inl early) = absurd (no_bad_line top replay.sessions given.sessions n told.files held.sessions_held early.0.0.1)
  replay_unlisted n (inr serving) = absurd serving.ends.1.ends

module _ {L : Type 0} (words : List (List ℕ)) (replay : Replay) (given : Given) (top : TopRun L) (is_replay : command_of words ≡ Some (commands.Replay replay)) (told : IsReplayTold top) (held : HoldGiven top.seen.files.before.file replay given) (out audit : List ℕ) (out_took : Took top.seen.out out) (audit_took : Took top.seen.audit audit) where
  answered_so : (command : Command) (ended : Result (Unit {0}) ExitReason) (standing : SinkSeen) (served last : List ℕ)
      → command ≡ commands.Replay replay
      → Ends top.line (standing_at top.seen standing) top.door (counts_of top) command ended served audit
      → Finishes (span standing top.seen.out.after) command ended last top.status
      → out ≡ served ++ last → HasAnswered replay given top
  answered_so command (Ok tt) standing served last same ends finishes text =
      let here = subst (λ (c : Command). Ends top.line (standing_at top.seen standing) top.door (counts_of top) c (Ok tt) served audit) same ends in
      replay_done replay given top told held standing served last audit (subst (λ (l : List ℕ). Took top.seen.out l) text out_took) audit_took
      here.0 finishes.0 finishes.1
  answered_so command (Err (exits.LineRefused event_fault)) standing served last same ends finishes text =
      let here = subst (λ (c : Command). Ends top.line (standing_at top.seen standing) top.door (counts_of top) c (Err (exits.LineRefused event_fault)) served audit) same ends in
      let with = closed_with (span standing top.seen.out.after) (event_fault_line event_fault) last statuses.LineRefused top.status finishes told.status in
      replay_stopped replay given top told held standing served last audit (subst (λ (l : List ℕ). Took top.seen.out l) text out_took) audit_took
      event_fault here.0 with.0 with.1
  answered_so command (Err (exits.SessionsRefused n)) standing served last same ends finishes text =
      let here = subst (λ (c : Command). Ends top.line (standing_at top.seen standing) top.door (counts_of top) c (Err (exits.SessionsRefused n)) served audit) same ends in
      replay_unlisted replay given top told held standing served last audit (subst (λ (l : List ℕ). Took top.seen.out l) text out_took) audit_took
      n here.0
  answered_so command (Err (exits.ReadFault role)) standing served last same ends finishes text =
      absurd (not_read (closes_telling (span standing top.seen.out.after) _ last statuses.ReadFault top.status finishes told.status))
  answered_so command (Err (exits.TooLong role)) standing served last same ends finishes text =
      absurd (not_long (closes_telling (span standing top.seen.out.after) _ last statuses.TooLong top.status finishes told.status))
  answered_so command (Err (exits.AppRefused line)) standing served last same ends finishes text =
      absurd (not_app (closes_telling (span standing top.seen.out.after) _ last statuses.AppRefused top.status finishes told.status))
  answered_so command (Err (exits.NewRefused line)) standing served last same ends finishes text =
      absurd (not_app (closes_telling (span standing top.seen.out.after) _ last statuses.AppRefused top.status finishes told.status))
  answered_so command (Err (exits.UpgradeRefused line)) standing served last same ends finishes text =
      absurd (not_upgrade (closes_telling (span standing top.seen.out.after) _ last statuses.UpgradeRefused top.status finishes told.status))
  answered_so command (Err exits.WriteFault) standing served last same ends finishes text =
      absurd (not_write (closes_telling (span standing top.seen.out.after) _ last statuses.WriteFault top.status finishes told.status))
  answered_so command (Err exits.StoreFault) standing served last same ends finishes text =
      absurd (not_store (closes_telling (span standing top.seen.out.after) _ last statuses.StoreFault top.status finishes told.status))
  answered_so command (Err exits.DoorFault) standing served last same ends finishes text =
      absurd (not_door (closes_telling (span standing top.seen.out.after) _ last statuses.DoorFault top.status finishes told.status))
  answered_so command (Err (exits.OtherStore stored wanted)) standing served last same ends finishes text =
      absurd (not_other (closes_telling (span standing top.seen.out.after) _ last statuses.OtherStore top.status finishes told.status))
  answered_so command (Err exits.Memory) standing served last same ends finishes text =
      absurd (not_memory (closes_telling (span standing top.seen.out.after) _ last statuses.Memory top.status finishes told.status))

  answered_ran : Runs top.line top.seen top.door (counts_of top) words top.status out audit → HasAnswered replay given top
  answered_ran (inl r) =
      answered_so r.command r.ended r.standing r.served r.last (same_command r.command (commands.Replay replay) (sym r.is_command ∙ is_replay)) r.ends r.finishes r.out_text
  answered_ran (inr (inl r)) = absurd (not_usage (closes_telling top.seen.out _ out statuses.Usage top.status r.closes told.status))
  answered_ran (inr (inr r)) = absurd (not_memory (closes_telling top.seen.out _ out statuses.Memory top.status r.closes told.status))

pub has_answered : {L : Type 0} (words : List (List ℕ)) (replay : Replay) (given : Given) (top : TopRun L) → IsTopRun words top
    → command_of words ≡ Some (commands.Replay replay) → HoldGiven top.seen.files.before.file replay given → IsReplayTold top → HasAnswered replay given top
has_answered words replay given top ran is_replay held told =
    answered_ran words replay given top is_replay told held ran.ran.out ran.ran.audit ran.ran.out_took ran.ran.audit_took ran.ran.holds
