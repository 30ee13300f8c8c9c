-- How the steps of a replay end.
use Rattle.std.proofs.Common.{◌≡◌, ◌∙◌, ◌≤◌, ◌<◌, ◌^◌, ◌⊎◌, sym, subst, refl, Bool, ℕ, inl, inr, Result, Ok, Err, List, [], append-nil, length, arith}
use Rattle.jac_io.specs.Seen.{FilesSeen, SinkSeen, Aims}
use Rattle.jac_io.specs.declared.sink.Failed.{Failed}
use Rattle.jac_lang.specs.Syntax.{Application}
use Rattle.jac_keep.specs.KeeperSeen.{KeeperSeen}
use Rattle.jac_route.specs.declared.sessions.Session.{Session}
use Rattle.jac_cli.specs.declared.words.Command.{Command}
use Rattle.jac_cli.specs.declared.words.Command.TheVariants as commands
use Rattle.jac_cli.specs.declared.words.Replay.{Replay}
use Rattle.jac_command_base.specs.declared.exit_reason.ExitReason.{ExitReason}
use Rattle.jac_command_base.specs.declared.exit_reason.ExitReason.TheVariants as exits
use Rattle.jac_serve_events.specs.declared.serve.ReplayError.{ReplayError}
use Rattle.jac_serve_events.specs.declared.serve.ReplayError.TheVariants as stops
use Rattle.jac_serve_events.specs.Script.{Script, script_of}
use Rattle.jac_dispatch.specs.Answered.{answer_spec_of}
use Rattle.jac_serve_events.specs.RunSeen.{RunCounts, RunSeen, run_seen_of, keepers}
use Rattle.jac_serve_events.specs.Outside.{Span, span, Sinks, sinks, WentAimed, WentWith}
use Rattle.jac_serve_events.specs.AnswerSpec.{AnswerSpec}
use Rattle.jac_serve_events.specs.Serve.{ServesAs}
use Rattle.jac_cli.specs.Commands.{audit_of, db_of, lazy_of}
use Rattle.jac_command_base.specs.Files.{Sight, sinks_of, IsOpened, IsAimed}
use Rattle.jac_command_base.specs.ExitReason.{exit_reason_of}
use Rattle.jac_command_base.specs.Attached.{AttachesAs}
use Rattle.jac_command_base.specs.Early.{IsEndedEarly}
use Rattle.jac_command_base.specs.Startup.{sight_of, AreFilesRead, EndsAim, HasBegun, IsBarred, IsHalted, IsStoppedAiming}
use Rattle.jac_app.specs.Held.{held_of, leaving, opened_on}
use Rattle.jac_app.specs.Replay.{EndsServed, EndsServedLeaving, IsServedOn, EndsAttaching, EndsServing, EndsReplay}
use Rattle.jac_serve_events.proofs.OutsideLemmas.{Lasts-none, Took-none, FailsWithin, fails_behind, Went-none}
use Rattle.jac_serve_events.proofs.ProgressLemmas.{puts_torn_within}
use Rattle.jac_command_base.proofs.ExitReasonLemmas.{is_attached, went_aimed, WentAimed-on}
use Rattle.jac_command_base.proofs.StartupLemmas.{application_read, ended_early, idle_behind, memory_early}

-- If a store wasn't attached, a replay ends.
pub attach_ends : (command : Command) (app : Application) (sessions : List Session) (k : Span RunSeen) (script : Script) (exit_reason : ExitReason) (s : Sinks)
    → AttachesAs (db_of command) app (keepers k) (Err exit_reason) → k.after.splits ≡ k.before.splits
    → EndsAttaching command app sessions k script (Err exit_reason) s [] []
attach_ends command app sessions k script exits.StoreFault s h unsplit = (h.0, record { unattached = h.1; unsplit = unsplit })
attach_ends command app sessions k script exits.DoorFault s h unsplit = absurd h
attach_ends command app sessions k script (exits.OtherStore stored wanted) s h unsplit = (h.0, h.1, record { unattached = h.2; unsplit = unsplit })
attach_ends command app sessions k script exits.Memory s h unsplit = inl (record { unattached = h; unsplit = unsplit })
attach_ends command app sessions k script (exits.ReadFault role) s h unsplit = absurd h
attach_ends command app sessions k script (exits.TooLong role) s h unsplit = absurd h
attach_ends command app sessions k script (exits.AppRefused line) s h unsplit = absurd h
attach_ends command app sessions k script (exits.NewRefused line) s h unsplit = absurd h
attach_ends command app sessions k script (exits.UpgradeRefused line) s h unsplit = absurd h
attach_ends command app sessions k script (exits.LineRefused event_fault) s h unsplit = absurd h
attach_ends command app sessions k script (exits.SessionsRefused line) s h unsplit = absurd h
attach_ends command app sessions k script exits.WriteFault s h unsplit = absurd h

-- The events were served on the store. The dispatcher is lazy if the command says so.
module _ (command : Command) (app : Application) (sessions : List Session) (before opened : KeeperSeen) (counts : RunCounts) (after : RunSeen) (events : List ℕ)
    (attaches : AttachesAs (db_of command) app (span before opened) (Ok tt)) (stays : after.keeper.store ≡ opened.store) (lazy : Bool) (same : lazy ≡ lazy_of command) where
  on : (result : Result (Unit {0}) ExitReason) (s : Sinks) (o a : List ℕ)
      → EndsServedLeaving (answer_spec_of lazy app sessions) (span (run_seen_of opened counts) after) (script_of events) result s o a
      → IsServedOn command app sessions (span (run_seen_of before counts) after) (script_of events) result s o a
  on result s o a ends = record {
    opened = opened;
    attached = is_attached (db_of command) app before opened after.keeper attaches stays;
    left = ends.0;
    ends = subst (λ (is : Bool). EndsServed (answer_spec_of is app sessions) (leaving (span (run_seen_of opened counts) after) ends.0) (script_of events) result s o a) same ends.1;
  }

  pub served_on : (result : Result (Unit {0}) ExitReason) (s : Sinks) (o a : List ℕ)
      → EndsServedLeaving (answer_spec_of lazy app sessions) (span (run_seen_of opened counts) after) (script_of events) result s o a
      → EndsAttaching command app sessions (span (run_seen_of before counts) after) (script_of events) result s o a
  served_on (Ok done) s o a h = on (Ok done) s o a h
  served_on (Err (exits.LineRefused event_fault)) s o a h = on (Err (exits.LineRefused event_fault)) s o a h
  served_on (Err exits.WriteFault) s o a h = on (Err exits.WriteFault) s o a h
  served_on (Err exits.Memory) s o a h = inr (on (Err exits.Memory) s o a h)
  served_on (Err exits.DoorFault) s o a h = absurd h.1
  served_on (Err exits.StoreFault) s o a h = absurd h.1
  served_on (Err (exits.OtherStore stored wanted)) s o a h = absurd h.1
  served_on (Err (exits.ReadFault role)) s o a h = absurd h.1
  served_on (Err (exits.TooLong role)) s o a h = absurd h.1
  served_on (Err (exits.AppRefused text)) s o a h = absurd h.1
  served_on (Err (exits.NewRefused text)) s o a h = absurd h.1
  served_on (Err (exits.UpgradeRefused text)) s o a h = absurd h.1
  served_on (Err (exits.SessionsRefused n)) s o a h = absurd h.1

-- Serving the events stopped early.
pub served_stopped : (x : AnswerSpec) (k : Span RunSeen) (events : List ℕ) (stopped : ReplayError) (s : Sinks) (o a : List ℕ)
    → ServesAs x k events (Err stopped) s o a → EndsServed x k (script_of events) (Err (exit_reason_of stopped)) s o a
served_stopped x k events (stops.Refused event_fault) s o a h = h
served_stopped x k events stops.Write s o a h = h
served_stopped x k events stops.Memory s o a h = h

-- The last steps end a replay.
pub served_ends : (seen : Sight) (counts : Span RunCounts) (command : Command) (app : Application) (sessions : List Session) (events out audit : List ℕ) (result : Result (Unit {0}) ExitReason)
    → IsOpened seen command app sessions events → EndsServing (sinks_of seen) command app sessions (held_of seen counts) (script_of events) result out audit
    → EndsReplay seen counts command result out audit
served_ends seen counts command app sessions events out audit result opened h =
    inr (record { app = app; sessions = sessions; events = events; opened = opened; ends = h })

-- What was torn after the aim was torn in the whole.
served_within : (x : AnswerSpec) (k : Span RunSeen) (script : Script) (all part : Sinks) (result : Result (Unit {0}) ExitReason) (o a : List ℕ) → FailsWithin all part
    → EndsServed x k script result part o a → EndsServed x k script result all o a
served_within x k script all part (Ok done) o a within h = h
served_within x k script all part (Err (exits.LineRefused event_fault)) o a within h = h
served_within x k script all part (Err exits.WriteFault) o a within h = puts_torn_within x k script all part o a within h
served_within x k script all part (Err exits.Memory) o a within h = h
served_within x k script all part (Err exits.DoorFault) o a within h = absurd h
served_within x k script all part (Err exits.StoreFault) o a within h = absurd h
served_within x k script all part (Err (exits.OtherStore stored wanted)) o a within h = absurd h
served_within x k script all part (Err (exits.ReadFault role)) o a within h = absurd h
served_within x k script all part (Err (exits.TooLong role)) o a within h = absurd h
served_within x k script all part (Err (exits.AppRefused text)) o a within h = absurd h
served_within x k script all part (Err (exits.NewRefused text)) o a within h = absurd h
served_within x k script all part (Err (exits.UpgradeRefused text)) o a within h = absurd h
served_within x k script all part (Err (exits.SessionsRefused n)) o a within h = absurd h

on_within : (command : Command) (app : Application) (sessions : List Session) (k : Span RunSeen) (script : Script) (all part : Sinks) (result : Result (Unit {0}) ExitReason) (o a : List ℕ) → FailsWithin all part
    → IsServedOn command app sessions k script result part o a → IsServedOn command app sessions k script result all o a
on_within command app sessions k script all part result o a within h = record {
  opened = h.opened;
  attached = h.attached;
  left = h.left;
  ends = served_within (answer_spec_of (lazy_of command) app sessions) (opened_on h.opened k h.left) script all part result o a within h.ends;
}

-- The aim and what follows it.
pub serving_behind : (all part : Sinks) (command : Command) (app : Application) (sessions : List Session) (k : Span RunSeen) (script : Script) (result : Result (Unit {0}) ExitReason) (o a : List ℕ)
    → FailsWithin all part → IsAimed (audit_of command) all.audit → EndsAttaching command app sessions k script result part o a
    → EndsServing all command app sessions k script result o a
serving_behind all part command app sessions k script (Ok done) o a within aimed h = (aimed, on_within command app sessions k script all part (Ok done) o a within h)
serving_behind all part command app sessions k script (Err exits.WriteFault) o a within aimed h =
    inr (aimed, on_within command app sessions k script all part (Err exits.WriteFault) o a within h)
serving_behind all part command app sessions k script (Err exits.Memory) o a within aimed (inl h) = (aimed, inl h)
serving_behind all part command app sessions k script (Err exits.Memory) o a within aimed (inr h) =
    (aimed, inr (on_within command app sessions k script all part (Err exits.Memory) o a within h))
serving_behind all part command app sessions k script (Err (exits.LineRefused event_fault)) o a within aimed h =
    (aimed, on_within command app sessions k script all part (Err (exits.LineRefused event_fault)) o a within h)
serving_behind all part command app sessions k script (Err exits.StoreFault) o a within aimed h = (aimed, h)
serving_behind all part command app sessions k script (Err (exits.OtherStore stored wanted)) o a within aimed h = (aimed, h)
serving_behind all part command app sessions k script (Err exits.DoorFault) o a within aimed h = absurd h.ends
serving_behind all part command app sessions k script (Err (exits.ReadFault role)) o a within aimed h = absurd h.ends
serving_behind all part command app sessions k script (Err (exits.TooLong role)) o a within aimed h = absurd h.ends
serving_behind all part command app sessions k script (Err (exits.AppRefused text)) o a within aimed h = absurd h.ends
serving_behind all part command app sessions k script (Err (exits.NewRefused text)) o a within aimed h = absurd h.ends
serving_behind all part command app sessions k script (Err (exits.UpgradeRefused text)) o a within aimed h = absurd h.ends
serving_behind all part command app sessions k script (Err (exits.SessionsRefused n)) o a within aimed h = absurd h.ends

-- The audit couldn't be aimed.
pub aim_failed : (out audit_before audit_after : SinkSeen) (command : Command) (failed : Failed) (app : Application) (sessions : List Session) (k : RunSeen) (script : Script)
    → Aims audit_before audit_after (audit_of command) (Err failed)
    → WentAimed (sinks out out audit_before audit_after) (EndsServing (sinks out out audit_before audit_after) command app sessions (span k k) script (Err exits.WriteFault))
aim_failed out audit_before audit_after command failed app sessions k script aims = record {
  out = [];
  audit = [];
  out_lasts = Lasts-none out;
  audit_later = aims.later;
  out_took = Took-none out;
  audit_took = λ told. aims.same_held told ∙ sym (append-nil audit_before.held);
  holds = inl (aims.rose, record { idle = record { no_out = refl; no_audit = refl; unaimed = aims.err; still = refl }; unsplit = refl });
}

-- The files of a replay were read.
pub replay_opened : (files : Span FilesSeen) (out audit : Span SinkSeen) (keeper : Span KeeperSeen) (replay : Replay) (app : Application) (sessions : List Session) (events : List ℕ)
    → AreFilesRead (commands.Replay replay) files app sessions events → IsOpened (sight_of files out audit keeper) (commands.Replay replay) app sessions events
replay_opened files out audit keeper replay app sessions events read = record {
  application = application_read (commands.Replay replay) files out audit keeper app sessions events read;
  sessions_had = read.sessions_had;
  events_read = read.events_had;
}

-- The first events were served, and only a prefix of the last audit line was put.
pub few_events : (files : Span FilesSeen) (replay : Replay) (app : Application) (sessions : List Session) (events : List ℕ)
    → AreFilesRead (commands.Replay replay) files app sessions events → length events < 2 ^ 32
few_events files replay app sessions events read =
    let short : length events ≤ 16777216 = read.events_had.short in
    omega (arith, short)

-- A replay that ended when it began.
module _ (files : Span FilesSeen) (out audit later : SinkSeen) (before after : KeeperSeen) (counts : RunCounts) (replay : Replay) where
  replay_idle : (exit_reason : ExitReason) → IsEndedEarly (sight_of files (span out out) (span audit later) (span before after)) (commands.Replay replay) (Err exit_reason) [] [] → later ≡ audit
      → WentAimed (sinks out out audit later) (EndsReplay (sight_of files (span out out) (span audit later) (span before after)) (span counts counts) (commands.Replay replay) (Err exit_reason))
  replay_idle exit_reason early uncalled = idle_behind out audit later _ uncalled (inl (early, refl))

  module _ (app : Application) (sessions : List Session) (events : List ℕ) (read : AreFilesRead (commands.Replay replay) files app sessions events) where
    replay_unaimed : (failed : Failed) → Aims audit later replay.audit (Err failed)
        → WentAimed (sinks out out audit later) (EndsReplay (sight_of files (span out out) (span audit later) (span before before)) (span counts counts) (commands.Replay replay) (Err exits.WriteFault))
    replay_unaimed failed aims =
        let seen = sight_of files (span out out) (span audit later) (span before before) in
        WentAimed-on (sinks out out audit later) _ _
        (λ o a h.
        served_ends seen (span counts counts) (commands.Replay replay) app sessions events o a (Err exits.WriteFault)
        (replay_opened files (span out out) (span audit later) (span before before) replay app sessions events read) h)
        (aim_failed out audit later (commands.Replay replay) failed app sessions (run_seen_of before counts) (script_of events) aims)

    replay_barred : (exit_reason : ExitReason) → Aims audit later replay.audit (Ok tt) → AttachesAs replay.db app (span before after) (Err exit_reason)
        → WentAimed (sinks out out audit later) (EndsReplay (sight_of files (span out out) (span audit later) (span before after)) (span counts counts) (commands.Replay replay) (Err exit_reason))
    replay_barred exit_reason aims attaches =
        let command = commands.Replay replay in
        let seen = sight_of files (span out out) (span audit later) (span before after) in
        let k = span (run_seen_of before counts) (run_seen_of after counts) in
        went_aimed out out audit later later replay.audit tt aims _ _
        (λ is_aimed o a h.
        served_ends seen (span counts counts) command app sessions events o a (Err exit_reason)
        (replay_opened files (span out out) (span audit later) (span before after) replay app sessions events read)
        (serving_behind (sinks out out audit later) (sinks out out later later) command app sessions k (script_of events) (Err exit_reason) o a
        (fails_behind out out out audit later later (omega arith) aims.later) is_aimed h))
        (Went-none out later (EndsAttaching command app sessions k (script_of events) (Err exit_reason) (sinks out out later later))
        (attach_ends command app sessions k (script_of events) exit_reason (sinks out out later later) attaches refl))

    replay_stopped : (exit_reason : ExitReason) → after ≡ before → EndsAim replay.audit (span audit later) (Err exit_reason)
        → WentAimed (sinks out out audit later) (EndsReplay (sight_of files (span out out) (span audit later) (span before after)) (span counts counts) (commands.Replay replay) (Err exit_reason))
    replay_stopped exit_reason still (inl (failed, is, aims)) =
        subst (λ (e : ExitReason). WentAimed (sinks out out audit later) (EndsReplay (sight_of files (span out out) (span audit later) (span before after)) (span counts counts) (commands.Replay replay) (Err e))) (sym is)
        (subst (λ (k : KeeperSeen). WentAimed (sinks out out audit later) (EndsReplay (sight_of files (span out out) (span audit later) (span before k)) (span counts counts) (commands.Replay replay) (Err exits.WriteFault))) (sym still)
        (replay_unaimed failed aims))
    replay_stopped exit_reason still (inr (is, uncalled)) =
        subst (λ (e : ExitReason). WentAimed (sinks out out audit later) (EndsReplay (sight_of files (span out out) (span audit later) (span before after)) (span counts counts) (commands.Replay replay) (Err e))) (sym is)
        (replay_idle exits.Memory (memory_early (commands.Replay replay) files (span out out) (span audit later) (span before after) uncalled still) uncalled)

    replay_behind : (exit_reason : ExitReason) → IsStoppedAiming (commands.Replay replay) (span audit later) (span before after) exit_reason ⊎ IsBarred (commands.Replay replay) app (span audit later) (span before after) exit_reason
        → WentAimed (sinks out out audit later) (EndsReplay (sight_of files (span out out) (span audit later) (span before after)) (span counts counts) (commands.Replay replay) (Err exit_reason))
    replay_behind exit_reason (inr barred) = replay_barred exit_reason barred.aims barred.attaches
    replay_behind exit_reason (inl stopped) = replay_stopped exit_reason stopped.still stopped.aims

  pub replay_halted : (exit_reason : ExitReason) → IsHalted (commands.Replay replay) files (span audit later) (span before after) exit_reason
      → WentAimed (sinks out out audit later) (EndsReplay (sight_of files (span out out) (span audit later) (span before after)) (span counts counts) (commands.Replay replay) (Err exit_reason))
  replay_halted exit_reason (inl early) = replay_idle exit_reason (ended_early (commands.Replay replay) files (span out out) (span audit later) (span before after) exit_reason early) early.uncalled
  replay_halted exit_reason (inr behind) = replay_behind behind.app behind.sessions behind.events behind.read exit_reason behind.halts

-- A replay that began, and then served its events.
pub replay_served : (files : Span FilesSeen) (out_before out_after audit aimed later : SinkSeen) (before opened after : KeeperSeen) (counts more : RunCounts) (replay : Replay)
    (app : Application) (sessions : List Session) (events : List ℕ) (result : Result (Unit {0}) ExitReason)
    → HasBegun (commands.Replay replay) files (span audit aimed) (span before opened) app sessions events → after.store ≡ opened.store
    → WentWith (sinks out_before out_after aimed later) (EndsServedLeaving (answer_spec_of replay.lazy app sessions) (span (run_seen_of opened counts) (run_seen_of after more)) (script_of events) result)
    → WentAimed (sinks out_before out_after audit later)
    (EndsReplay (sight_of files (span out_before out_after) (span audit later) (span before after)) (span counts more) (commands.Replay replay) result)
replay_served files out_before out_after audit aimed later before opened after counts more replay app sessions events result begun stays went =
    let command = commands.Replay replay in
    let seen = sight_of files (span out_before out_after) (span audit later) (span before after) in
    let k = span (run_seen_of before counts) (run_seen_of after more) in
    went_aimed out_before out_after audit aimed later replay.audit tt begun.aims _ _
    (λ is_aimed o a h.
    served_ends seen (span counts more) command app sessions events o a result
    (replay_opened files (span out_before out_after) (span audit later) (span before after) replay app sessions events begun.read)
    (serving_behind (sinks out_before out_after audit later) (sinks out_before out_after aimed later) command app sessions k (script_of events) result o a
    (fails_behind out_before out_before out_after audit aimed later (omega arith) begun.aims.later) is_aimed
    (served_on command app sessions before opened counts (run_seen_of after more) events begun.attaches stays replay.lazy refl result (sinks out_before out_after aimed later) o a h)))
    went
