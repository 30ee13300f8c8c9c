-- What a replay answered, by the contract of the top call.
use Rattle.std.proofs.Common.{◌≡◌, ◌∙◌, ap, sym, subst, refl, inl, inr, ℕ, Bool, false, IsTrue, Result, Ok, Err, Option, Some, None, List, ◌++◌, append-nil}
use Rattle.jac_io.specs.Seen.{FilesSeen, SinkSeen}
use Rattle.jac_lang.specs.Syntax.{Application}
use Rattle.jac_events.specs.declared.event.Event.{Event}
use Rattle.jac_hub.specs.Heard.{no_connections}
use Rattle.jac_route.specs.declared.sessions.Session.{Session}
use Rattle.jac_serve_events.specs.AnswerSpec.{LogEntry}
use Rattle.jac_serve_events.specs.RunSeen.{RunSeen, run_seen_of, run_seen_with}
use Rattle.jac_serve_events.specs.Log.{Brings}
use Rattle.jac_serve_events.specs.Outside.{Span, span, Took}
use Rattle.jac_serve_events.specs.Script.{script_of}
use Rattle.jac_serve_events.specs.Serve.{IsServed as IsServedBy}
use Rattle.jac_cli.specs.declared.words.Command.{Command}
use Rattle.jac_cli.specs.declared.words.Command.TheVariants as commands
use Rattle.jac_cli.specs.declared.words.Replay.{Replay}
use Rattle.jac_cli.specs.Words.{command_of}
use Rattle.jac_command_base.specs.declared.exit_reason.ExitReason.{ExitReason}
use Rattle.jac_command_base.specs.declared.status.Status.{Status}
use Rattle.jac_command_base.specs.declared.status.Status.TheVariants as statuses
use Rattle.jac_dispatch.specs.Answered.{answer_spec_of}
use Rattle.jac_command_base.specs.ExitReason.{status_of, Finishes}
use Rattle.jac_command_base.specs.Files.{standing_at, HasSessions, IsOpened, sinks_of}
use Rattle.jac_dispatch.specs.Log.{Serves}
use Rattle.jac_app.specs.Held.{held_of}
use Rattle.jac_app.specs.Replay.{IsServedOn, IsServing, EndsReplay}
use Rattle.jac_app.specs.Run.{Ends, Runs}
use Rattle.jac_command_base.proofs.DoneLemmas.{not_done, no_usage, no_memory, closes_not_done}
use Rattle.jac_run_laws.specs.Replayed.{TopRun, IsTopRun, IsToldToEnd, HoldSessions, HasReplayed, counts_of}

-- What the contract of the top call says of the events that an application was served.
pub serves : (lazy early : Bool) (app : Application) (sessions : List Session) (k : Span RunSeen) (events : List Event) (log : List LogEntry)
    → IsServedBy early (answer_spec_of lazy app sessions) k events log → IsTrue k.after.keeper.tells
    → Serves lazy early app sessions k.before.keeper.state events log k.after.keeper.state
serves lazy early app sessions k events log served told = record {
  subjects = served.subjects;
  answered = served.entries.answered told;
  worlds = served.entries.worlds told;
  goes_on = served.entries.goes_on told;
  good = served.entries.good told;
}

pub same_command : (one two : Command) → Some one ≡ Some two → one ≡ two
same_command one two same = cc

-- ---- what was read

pub sessions_held : (files : Span FilesSeen) (name : Option (List ℕ)) (sessions : List Session) → IsTrue files.after.tells
    → HasSessions files name sessions → HoldSessions files.before.file name sessions
sessions_held files None sessions told had = had
sessions_held files (Some name) sessions told (bytes, read, listed) = (bytes, read.told told, listed)

-- ---- the events were served

-- `standing` is the output when the steps ended.
module _ {L : Type 0} (replay : Replay) (top : TopRun L) (standing : SinkSeen) (told : IsToldToEnd top) (out audit : List ℕ) (out_took : Took top.seen.out out) (audit_took : Took top.seen.audit audit) where
  replayed_on : (app : Application) (sessions : List Session) (bytes : List ℕ) → IsOpened (standing_at top.seen standing) (commands.Replay replay) app sessions bytes
      → IsServedOn (commands.Replay replay) app sessions (held_of top.seen (counts_of top)) (script_of bytes) (Ok tt)
      (sinks_of (standing_at top.seen standing)) out audit
      → HasReplayed replay top
  replayed_on app sessions bytes opened on =
      let lines = on.ends.1 in
      let all : (script_of bytes).events ≡ lines.events =
      lines.parts ∙ ap (λ (l : List Event). lines.events ++ l) (lines.ended refl) ∙ append-nil lines.events in
      let brings : Brings (answer_spec_of replay.lazy app sessions) no_connections 0 (script_of bytes).events lines.log out lines.later =
      subst (λ (l : List Event). Brings (answer_spec_of replay.lazy app sessions) no_connections 0 l lines.log out lines.later)
      (sym all) lines.out_text in
      record {
        app = app;
        sessions = sessions;
        events = (script_of bytes).events;
        run = record { lazy = replay.lazy; early = false; start = on.opened.state; log = lines.log; finish = top.seen.keeper.after.state };
        out = out;
        audit = audit;
        held = record {
          app_bytes = opened.application.bytes;
          event_bytes = bytes;
          app_file = opened.application.read.told told.files;
          spelled = opened.application.spelled;
          sessions_held = sessions_held top.seen.files replay.sessions sessions told.files opened.sessions_had;
          events_file = opened.events_read.told told.files;
          events_are = refl;
          no_event_fault = on.ends.0;
        };
        replayed = record {
          opened = on.opened;
          attached = on.attached;
          told = lines.served.entries.told told.keeper;
          start = refl;
          finish = refl;
          lazy = refl;
          whole = refl;
          served =
              serves replay.lazy false app sessions
              (span (run_seen_of on.opened (counts_of top).before) (run_seen_with top.seen.keeper.after (counts_of top).after on.left))
              (script_of bytes).events lines.log lines.served told.keeper;
          brought = (lines.later, brings);
          audit_is = lines.audit_text;
          out_took = out_took;
          audit_took = audit_took;
        };
        few = record { left = on.left; few = lines.served.entries.few };
      }

  replayed_by : IsServing (standing_at top.seen standing) (counts_of top) (commands.Replay replay) (Ok tt) out audit → HasReplayed replay top
  replayed_by serving = replayed_on serving.app serving.sessions serving.events serving.opened serving.ends.1

  replayed_ends : EndsReplay (standing_at top.seen standing) (counts_of top) (commands.Replay replay) (Ok tt) out audit → HasReplayed replay top
  replayed_ends (inl early) = absurd early.0
  replayed_ends (inr serving) = replayed_by serving

module _ {L : Type 0} (words : List (List ℕ)) (replay : Replay) (top : TopRun L) (is_replay : command_of words ≡ Some (commands.Replay replay)) (told : IsToldToEnd top) (out audit : List ℕ) (out_took : Took top.seen.out out) (audit_took : Took top.seen.audit audit) where
  replayed_so : (command : Command) (ended : Result (Unit {0}) ExitReason) (standing : SinkSeen) (served last : List ℕ)
      → command ≡ commands.Replay replay
      → Ends top.line (standing_at top.seen standing) top.door (counts_of top) command ended served audit
      → Finishes (span standing top.seen.out.after) command ended last top.status
      → out ≡ served ++ last → HasReplayed replay top
  replayed_so command (Ok tt) standing served last same ends finishes text =
      let all : out ≡ served = text ∙ ap (λ (l : List ℕ). served ++ l) finishes.0 ∙ append-nil served in
      let here = subst (λ (c : Command). Ends top.line (standing_at top.seen standing) top.door (counts_of top) c (Ok tt) served audit) same ends in
      replayed_ends replay top standing told served audit (subst (λ (l : List ℕ). Took top.seen.out l) all out_took) audit_took here.0
  replayed_so command (Err exit_reason) standing served last same ends finishes text =
      absurd (closes_not_done (span standing top.seen.out.after) _ last (status_of exit_reason) top.status (not_done exit_reason) finishes told.done)

  replayed_ran : Runs top.line top.seen top.door (counts_of top) words top.status out audit → HasReplayed replay top
  replayed_ran (inl r) =
      replayed_so r.command r.ended r.standing r.served r.last (same_command r.command (commands.Replay replay) (sym r.is_command ∙ is_replay)) r.ends r.finishes r.out_text
  replayed_ran (inr (inl r)) = absurd (closes_not_done top.seen.out _ out statuses.Usage top.status no_usage r.closes told.done)
  replayed_ran (inr (inr r)) = absurd (closes_not_done top.seen.out _ out statuses.Memory top.status no_memory r.closes told.done)

pub has_replayed : {L : Type 0} (words : List (List ℕ)) (replay : Replay) (top : TopRun L) → IsTopRun words top
    → command_of words ≡ Some (commands.Replay replay) → IsToldToEnd top → HasReplayed replay top
has_replayed words replay top ran is_replay told =
    replayed_ran words replay top is_replay told ran.ran.out ran.ran.audit ran.ran.out_took ran.ran.audit_took ran.ran.holds
