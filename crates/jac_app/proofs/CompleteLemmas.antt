-- If nothing is missing and nothing fails, everything is done.
use Rattle.std.proofs.Common.{Bool, true, false, is_none, ◌≡◌, ◌∙◌, ap, sym, subst, refl, ℕ, ◌≤◌, ◌<◌, ◌⊎◌, inl, inr, is_some, IsTrue, IsSomeAnd, Result, Ok, Err, Option, Some, None, List, length, arith}
use Rattle.jac_io.specs.Faults.{Rose}
use Rattle.jac_io.specs.Seen.{FilesSeen, SinkSeen}
use Rattle.jac_io.specs.Linked.{LinkSeen, DoorSeen}
use Rattle.jac_lang.specs.Syntax.{Application}
use Rattle.jac_route.specs.Sessions.{sessions_in}
use Rattle.jac_cli.specs.declared.words.Command.{Command}
use Rattle.jac_cli.specs.declared.words.Command.TheVariants as commands
use Rattle.jac_command_base.specs.declared.exit_reason.ExitReason.{ExitReason}
use Rattle.jac_command_base.specs.declared.exit_reason.ExitReason.TheVariants as exits
use Rattle.jac_cli.specs.declared.role.Role.{Role}
use Rattle.jac_cli.specs.declared.role.Role.TheVariants as roles
use Rattle.jac_app.specs.declared.summary.Summary.{Summary}
use Rattle.jac_command_base.specs.declared.status.Status.{Status}
use Rattle.jac_command_base.specs.declared.status.Status.TheVariants as statuses
use Rattle.jac_serve_events.specs.RunSeen.{RunCounts}
use Rattle.jac_serve_events.specs.Script.{script_of}
use Rattle.jac_app_load.specs.Application.{IsApplication}
use Rattle.jac_app_load.specs.Refusal.{IsRefusedBy}
use Rattle.jac_keep.specs.KeeperSeen.{KeeperSeen}
use Rattle.jac_upgrade.specs.Extends.{models_lack}
use Rattle.jac_upgrade.specs.declared.fault.UpgradeFault.{UpgradeFault}
use Rattle.jac_admin.specs.Upgrade.{lack_line, upgraded_line, IsStoreUnmoved, IsKept, EndsReshaping, EndsMoving, EndsUpgrade}
use Rattle.jac_admin.specs.Explain.{asker_in, EndsExplained, EndsExplaining, EndsExplain}
use Rattle.jac_command_base.specs.Attached.{AttachesAs}
use Rattle.jac_serve_events.specs.Outside.{Span, span, AWriteFailed}
use Rattle.jac_cli.specs.Words.{command_of}
use Rattle.jac_cli.specs.Commands.{file_of, name_of, name_or_empty, limit_of}
use Rattle.jac_demo.specs.Calendar.{calendar_text}
use Rattle.jac_command_base.specs.Files.{Sight, sinks_of, standing_at, IsUnopened, IsRead, IsLong, HasApplication, HasNext, HasBadLine, IsReached}
use Rattle.jac_command_base.specs.ExitReason.{Finishes, status_of, PutsText}
use Rattle.jac_command_base.specs.Early.{EndsOpening}
use Rattle.jac_app.specs.Held.{held_of}
use Rattle.jac_app.specs.Replay.{EndsReplay}
use Rattle.jac_app.specs.Server.{EndsServer}
use Rattle.jac_app.specs.Check.{EndsCheck, checked_text}
use Rattle.jac_world.specs.World.{shown_by as shown_labels}
use Rattle.jac_admin.specs.Dump.{EndsDump, EndsDumping}
use Rattle.jac_app.specs.Demo.{EndsDemo, EndsCounting, EndsTallying, PutsSummary, summary_line}
use Rattle.jac_app.specs.Run.{Ends, Runs, IsCompleted, CanHaveSessions, CanOpen, CanReplay, CanServe, CanCheck, CanDemo, CanDump, CanExplain, CanUpgrade, Extends}
use Rattle.jac_calendar_laws.proofs.CalendarOpens.{calendar, calendar_is}
use Rattle.jac_app.proofs.CauseLemmas.{same_exit_reason, none_there}
use Rattle.jac_app.proofs.ServerLemmas.{a_connection_failed}
use Rattle.jac_serve_events.proofs.ProgressLemmas.{puts_torn_failed}
use Rattle.jac_app_load.proofs.OpeningLemmas.{some_same}
use Rattle.jac_serve_events.proofs.OutsideLemmas.{Rose-widen, failed_later}

-- The bytes that were read from a file are those that it has.
same_bytes : (seen : Sight) (command : Command) (role : Role) (there bytes : List ℕ)
    → IsTrue seen.files.after.tells → seen.files.before.file (name_of command role) ≡ Some there → IsRead seen command role bytes → bytes ≡ there
same_bytes seen command role there bytes told file read = some_same _ _ (sym (read.told told) ∙ file)

not_long : (seen : Sight) (command : Command) (role : Role) (there : List ℕ)
    → IsTrue seen.files.after.tells → seen.files.before.file (name_of command role) ≡ Some there → length there ≤ limit_of role → IsLong seen command role → ⊥
not_long seen command role there told file short long =
    let more : limit_of role < length there = subst (λ (o : Option (List ℕ)). IsSomeAnd o (λ bytes. limit_of role < length bytes)) file (long told) in
    omega arith

-- If sessions can be read, no line of theirs is refused.
no_bad_line : (files : Span FilesSeen) (name : Option (List ℕ)) (line : ℕ) → IsTrue files.after.tells → CanHaveSessions files.before name → HasBadLine files name line → ⊥
no_bad_line files None line told can bad = bad
no_bad_line files (Some name) line told can bad =
    let same = some_same _ _ (sym (bad.1.told told) ∙ can.2) in
    let ok = sym can.4 ∙ ap sessions_in (sym same) ∙ bad.2 in
    cc

-- Their file isn't too long either.
not_long_named : (files : Span FilesSeen) (name : Option (List ℕ)) → IsTrue (is_some name) → CanHaveSessions files.before name
    → IsSomeAnd (files.before.file (name_or_empty name)) (λ bytes. 1048576 < length bytes) → ⊥
not_long_named files None is can long = cc
not_long_named files (Some name) is can long =
    let more : 1048576 < length can.0 = subst (λ (o : Option (List ℕ)). IsSomeAnd o (λ bytes. 1048576 < length bytes)) can.2 long in
    omega (arith, more, can.3)

-- If an application can be opened, only a lack of memory ends the opening.
module _ (seen : Sight) (command : Command) (app : Application) (can : CanOpen seen command app) where
  no_opening_fault : (exit_reason : ExitReason) → EndsOpening seen command exit_reason
      → ((role : Role) → IsReached seen command role → IsLong seen command role → ⊥) → ((line : ℕ) → HasBadLine seen.files (file_of command roles.Sessions) line → ⊥)
      → (IsTrue (is_some (file_of command roles.New)) → (bytes line : List ℕ) → IsRead seen command roles.New bytes → IsRefusedBy bytes line → ⊥)
      → status_of exit_reason ≡ statuses.Memory
  no_opening_fault (exits.ReadFault role) h long bad next = absurd (can.no_read_fault h.1)
  no_opening_fault (exits.TooLong role) h long bad next = absurd (long role h.0 h.1)
  no_opening_fault (exits.SessionsRefused line) h long bad next = absurd (bad line h.1)
  no_opening_fault (exits.AppRefused line) h long bad next =
      let same = same_bytes seen command roles.App can.bytes h.0 can.told can.file h.1 in
      absurd (h.2.none app (subst (λ (b : List ℕ). IsApplication b app) (sym same) can.application))
  no_opening_fault (exits.NewRefused line) h long bad next = absurd (next h.0.1 h.1.0 line h.1.1 h.1.2)
  no_opening_fault (exits.UpgradeRefused line) h long bad next = absurd h
  no_opening_fault exits.Memory h long bad next = refl
  no_opening_fault (exits.LineRefused event_fault) h long bad next = absurd h
  no_opening_fault exits.WriteFault h long bad next = absurd h
  no_opening_fault exits.StoreFault h long bad next = absurd h
  no_opening_fault exits.DoorFault h long bad next = absurd h
  no_opening_fault (exits.OtherStore stored wanted) h long bad next = absurd h

  app_not_long : IsLong seen command roles.App → ⊥
  app_not_long long = not_long seen command roles.App can.bytes can.told can.file can.application.1.short long

-- What fails up to this state of `out` fails in the whole run.
standing_fault : (seen : Sight) (standing : SinkSeen) → standing.faults ≤ seen.out.after.faults → AWriteFailed (sinks_of (standing_at seen standing)) → AWriteFailed (sinks_of seen)
standing_fault seen standing later failed = failed_later (sinks_of seen) (sinks_of (standing_at seen standing)) (omega arith) (omega arith) later (omega arith) failed

abbrev can_open_standing : (seen : Sight) (standing : SinkSeen) → standing.faults ≤ seen.out.after.faults → (command : Command) (app : Application)
    → CanOpen seen command app → CanOpen (standing_at seen standing) command app
can_open_standing seen standing later command app can = record {
  bytes = can.bytes;
  told = can.told;
  file = can.file;
  application = can.application;
  no_read_fault = can.no_read_fault;
  no_write_fault = λ failed. can.no_write_fault (standing_fault seen standing later failed);
}

-- If no put of a command fails, its status is `Done`, `Memory` or that of an end of its steps.
module _ {L : Type 0} (line : L → LinkSeen) (seen : Sight) (door : Span (DoorSeen L)) (counts : Span RunCounts) (words : List (List ℕ)) (command : Command) (is_command : command_of words ≡ Some command)
    (no_write_fault : AWriteFailed (sinks_of seen) → ⊥) (Is : Status → Type 0)
    (done : (standing : SinkSeen) → standing.faults ≤ seen.out.after.faults
    → (out audit : List ℕ) (finished : Unit {0}) → Ends line (standing_at seen standing) door counts command (Ok finished) out audit → Is statuses.Done) (memory : Is statuses.Memory)
    (ends : (standing : SinkSeen) → standing.faults ≤ seen.out.after.faults
    → (out audit : List ℕ) (exit_reason : ExitReason) → Ends line (standing_at seen standing) door counts command (Err exit_reason) out audit → Is (status_of exit_reason)) where
  finished_so : (standing : SinkSeen) → seen.out.before.faults ≤ standing.faults → standing.faults ≤ seen.out.after.faults
      → (out audit : List ℕ) (ended : Result (Unit {0}) ExitReason) (last : List ℕ) (answer : Status)
      → Ends line (standing_at seen standing) door counts command ended out audit → Finishes (span standing seen.out.after) command ended last answer → Is answer
  finished_so standing earlier later out audit (Ok finished) last answer ended h = subst Is (sym h.1) (done standing later out audit finished ended)
  finished_so standing earlier later out audit (Err exit_reason) last answer ended (inl h) = subst Is (sym h.1) (ends standing later out audit exit_reason ended)
  finished_so standing earlier later out audit (Err exit_reason) last answer ended (inr h) = absurd (no_write_fault (inl (Rose-widen _ _ _ _ earlier (omega arith) h.2)))

  ran_so : (answer : Status) (out audit : List ℕ) → Runs line seen door counts words answer out audit → Is answer
  ran_so answer out audit (inl r) =
      let same : r.command ≡ command = some_same _ _ (sym r.is_command ∙ is_command) in
      finished_so r.standing r.earlier r.later r.served audit r.ended r.last answer
      (subst (λ (c : Command). Ends line (standing_at seen r.standing) door counts c r.ended r.served audit) same r.ends)
      (subst (λ (c : Command). Finishes (span r.standing seen.out.after) c r.ended r.last answer) same r.finishes)
  ran_so answer out audit (inr (inl r)) = let none = sym r.no_command ∙ is_command in cc
  ran_so answer out audit (inr (inr r)) = elim r.closes [ inl h ↦ subst Is (sym h.1) memory | inr h ↦ absurd (no_write_fault (inl h.2)) ]

-- If no put fails, a text is put.
no_text_fault : (sink : Span SinkSeen) → (Rose sink.before.faults sink.after.faults → ⊥) → (text put : List ℕ) (exit_reason : ExitReason) → PutsText sink text (Err exit_reason) put → ⊥
no_text_fault sink none text put exits.WriteFault h = none h.1
no_text_fault sink none text put exits.Memory h = h
no_text_fault sink none text put exits.StoreFault h = h
no_text_fault sink none text put (exits.OtherStore stored wanted) h = h
no_text_fault sink none text put (exits.ReadFault role) h = h
no_text_fault sink none text put (exits.TooLong role) h = h
no_text_fault sink none text put (exits.AppRefused line) h = h
no_text_fault sink none text put (exits.NewRefused line) h = h
no_text_fault sink none text put (exits.UpgradeRefused line) h = h
no_text_fault sink none text put exits.DoorFault h = h
no_text_fault sink none text put (exits.LineRefused event_fault) h = h
no_text_fault sink none text put (exits.SessionsRefused line) h = h

-- A replay that has all that it needs ends early only if memory runs out or the store refuses.
module _ {L : Type 0} (line : L → LinkSeen) (seen : Sight) (door : Span (DoorSeen L)) (counts : Span RunCounts) (words : List (List ℕ)) (can : CanReplay seen words) where
  abbrev its : Command
  its = commands.Replay can.replay

  no_long : (role : Role) → IsReached seen its role → IsLong seen its role → ⊥
  no_long roles.App reached long = app_not_long seen its can.app can.opens long
  no_long roles.New reached long = none_there reached.1
  no_long roles.Sessions reached long = not_long_named seen.files can.replay.sessions reached.1 can.sessions_file (long can.opens.told)
  no_long roles.Events reached long = not_long seen its roles.Events can.events can.opens.told can.events_file can.short long

  no_exit_reason : (out audit : List ℕ) (exit_reason : ExitReason) → EndsReplay seen counts its (Err exit_reason) out audit → IsCompleted (status_of exit_reason)
  no_exit_reason out audit exit_reason (inl h) =
      inr (inl (no_opening_fault seen its can.app can.opens exit_reason h.0.0 no_long (λ line bad. no_bad_line seen.files can.replay.sessions line can.opens.told can.sessions_file bad) (λ there bytes line. absurd (none_there there))))
  no_exit_reason out audit exits.WriteFault (inr h) = elim h.ends [
    | inl unaimed ↦ absurd (can.opens.no_write_fault (inr unaimed.0))
    | inr behind ↦ absurd (can.opens.no_write_fault (puts_torn_failed _ _ _ (sinks_of seen) out audit behind.1.ends))
  ]
  no_exit_reason out audit exits.Memory (inr h) = inr (inl refl)
  no_exit_reason out audit exits.StoreFault (inr h) = inr (inr (inl refl))
  no_exit_reason out audit exits.DoorFault (inr h) = absurd h.ends.1.ends
  no_exit_reason out audit (exits.OtherStore stored wanted) (inr h) = inr (inr (inr refl))
  no_exit_reason out audit (exits.LineRefused event_fault) (inr h) =
      let same = same_bytes seen its roles.Events can.events h.events can.opens.told can.events_file h.opened.events_read in
      let none = sym can.forms ∙ ap (λ (b : List ℕ). (script_of b).refused) (sym same) ∙ h.ends.1.ends.0 in
      cc
  no_exit_reason out audit (exits.ReadFault role) (inr h) = absurd h.ends.1.ends
  no_exit_reason out audit (exits.TooLong role) (inr h) = absurd h.ends.1.ends
  no_exit_reason out audit (exits.AppRefused line) (inr h) = absurd h.ends.1.ends
  no_exit_reason out audit (exits.NewRefused line) (inr h) = absurd h.ends.1.ends
  no_exit_reason out audit (exits.UpgradeRefused line) (inr h) = absurd h.ends.1.ends
  no_exit_reason out audit (exits.SessionsRefused line) (inr h) = absurd h.ends.1.ends

abbrev replay_standing : (seen : Sight) (standing : SinkSeen) → standing.faults ≤ seen.out.after.faults → (words : List (List ℕ)) → CanReplay seen words → CanReplay (standing_at seen standing) words
replay_standing seen standing later words can = record {
  replay = can.replay;
  app = can.app;
  events = can.events;
  is_command = can.is_command;
  sessions_file = can.sessions_file;
  events_file = can.events_file;
  short = can.short;
  forms = can.forms;
  opens = can_open_standing seen standing later _ _ can.opens;
}

-- If nothing is missing and no read or put fails, everything is served, unless memory runs out or
-- the store refuses.
pub is_served : {L : Type 0} (line : L → LinkSeen) (seen : Sight) (door : Span (DoorSeen L)) (counts : Span RunCounts) (words : List (List ℕ)) (can : CanReplay seen words)
    → (answer : Status) (out audit : List ℕ) → Runs line seen door counts words answer out audit → IsCompleted answer
is_served line seen door counts words can =
    ran_so line seen door counts words (commands.Replay can.replay) can.is_command can.opens.no_write_fault IsCompleted (λ standing later out audit finished ended. inl refl) (inr (inl refl))
    (λ standing later out audit exit_reason ends. no_exit_reason line (standing_at seen standing) door counts words (replay_standing seen standing later words can) out audit exit_reason ends.0)

-- The same for a check.
module _ {L : Type 0} (line : L → LinkSeen) (seen : Sight) (door : Span (DoorSeen L)) (counts : Span RunCounts) (words : List (List ℕ)) (can : CanCheck seen words) where
  abbrev checked : Command
  checked = commands.Check can.name

  check_long : (role : Role) → IsReached seen checked role → IsLong seen checked role → ⊥
  check_long roles.App reached long = app_not_long seen checked can.app can.opens long
  check_long roles.New reached long = none_there reached.1
  check_long roles.Sessions reached long = none_there reached.1
  check_long roles.Events reached long = none_there reached.2

  no_check_exit_reason : (out audit : List ℕ) (exit_reason : ExitReason) → EndsCheck seen checked (Err exit_reason) out audit → status_of exit_reason ≡ statuses.Memory
  no_check_exit_reason out audit exit_reason (inl h) = no_opening_fault seen checked can.app can.opens exit_reason h.0 check_long (λ line bad. absurd bad) (λ there bytes line. absurd (none_there there))
  no_check_exit_reason out audit exit_reason (inr h) = absurd (no_text_fault seen.out (λ rose. can.opens.no_write_fault (inl rose)) (checked_text h.app) out exit_reason h.text)

abbrev check_standing : (seen : Sight) (standing : SinkSeen) → standing.faults ≤ seen.out.after.faults → (words : List (List ℕ)) → CanCheck seen words → CanCheck (standing_at seen standing) words
check_standing seen standing later words can = record {
  name = can.name;
  app = can.app;
  is_command = can.is_command;
  opens = can_open_standing seen standing later _ _ can.opens;
}

-- If the application is there and no read or put fails, it is checked, unless memory runs out.
pub is_checked : {L : Type 0} (line : L → LinkSeen) (seen : Sight) (door : Span (DoorSeen L)) (counts : Span RunCounts) (words : List (List ℕ)) (can : CanCheck seen words)
    → (answer : Status) (out audit : List ℕ) → Runs line seen door counts words answer out audit → (answer ≡ statuses.Done) ⊎ (answer ≡ statuses.Memory)
is_checked line seen door counts words can =
    ran_so line seen door counts words (commands.Check can.name) can.is_command can.opens.no_write_fault (λ status. (status ≡ statuses.Done) ⊎ (status ≡ statuses.Memory)) (λ standing later out audit finished ended. inl refl) (inr refl)
    (λ standing later out audit exit_reason ends. inr (no_check_exit_reason line (standing_at seen standing) door counts words (check_standing seen standing later words can) out audit exit_reason ends.0))

-- The same for a demo.
module _ {L : Type 0} (line : L → LinkSeen) (seen : Sight) (door : Span (DoorSeen L)) (counts : Span RunCounts) (words : List (List ℕ)) (can : CanDemo seen words) where
  abbrev shown : Command
  shown = commands.Demo can.count

  not_opened : (exit_reason : ExitReason) → IsUnopened calendar_text exit_reason → IsCompleted (status_of exit_reason)
  not_opened exit_reason (inl h) = absurd (h.2.none calendar calendar_is)
  not_opened exit_reason (inr memory) = inr (inl (ap status_of memory))

  not_tallied : (app : Application) (audit : List ℕ) (exit_reason : ExitReason)
      → (◌≡◌ {A = Result Summary ExitReason} (Err exit_reason) (Err exits.WriteFault) → Rose seen.audit.before.faults seen.audit.after.faults)
      → EndsTallying app (held_of seen counts) can.count (Err exit_reason) audit → IsCompleted (status_of exit_reason)
  not_tallied app audit exits.WriteFault rose h = absurd (can.no_write_fault (inr (rose refl)))
  not_tallied app audit exits.Memory rose h = inr (inl refl)
  not_tallied app audit exits.StoreFault rose h = inr (inr (inl refl))
  not_tallied app audit (exits.OtherStore stored wanted) rose h = inr (inr (inr refl))
  not_tallied app audit (exits.ReadFault role) rose h = absurd h
  not_tallied app audit (exits.TooLong role) rose h = absurd h
  not_tallied app audit (exits.AppRefused line) rose h = absurd h
  not_tallied app audit (exits.NewRefused line) rose h = absurd h
  not_tallied app audit (exits.UpgradeRefused line) rose h = absurd h
  not_tallied app audit exits.DoorFault rose h = absurd h
  not_tallied app audit (exits.LineRefused event_fault) rose h = absurd h
  not_tallied app audit (exits.SessionsRefused line) rose h = absurd h

  not_told : (app : Application) (ended : Result Summary ExitReason) (out audit : List ℕ) (exit_reason : ExitReason)
      → (ended ≡ Err exits.WriteFault → Rose seen.audit.before.faults seen.audit.after.faults)
      → EndsTallying app (held_of seen counts) can.count ended audit → PutsSummary seen.out ended (Err exit_reason) out → IsCompleted (status_of exit_reason)
  not_told app (Ok summary) out audit exit_reason rose ends told =
      absurd (no_text_fault seen.out (λ torn. can.no_write_fault (inl torn)) (summary_line summary) out exit_reason told)
  not_told app (Err fault) out audit exit_reason rose ends told =
      subst (λ (e : ExitReason). IsCompleted (status_of e)) (sym (same_exit_reason exit_reason fault told.0)) (not_tallied app audit fault rose ends)

  not_counted : (app : Application) (out audit : List ℕ) (exit_reason : ExitReason) → EndsCounting (sinks_of seen) app (held_of seen counts) can.count (Err exit_reason) out audit → IsCompleted (status_of exit_reason)
  not_counted app out audit exit_reason (inl h) = absurd (can.no_write_fault (inr h.rose))
  not_counted app out audit exit_reason (inr h) = not_told app h.1.ended out audit exit_reason h.1.rose h.1.ends h.1.told

  no_demo_exit_reason : (out audit : List ℕ) (exit_reason : ExitReason) → EndsDemo (sinks_of seen) (held_of seen counts) can.count (Err exit_reason) out audit → IsCompleted (status_of exit_reason)
  no_demo_exit_reason out audit exit_reason (inl h) = not_opened exit_reason h.0
  no_demo_exit_reason out audit exit_reason (inr h) = not_counted h.app out audit exit_reason h.ends

abbrev demo_standing : (seen : Sight) (standing : SinkSeen) → standing.faults ≤ seen.out.after.faults → (words : List (List ℕ)) → CanDemo seen words → CanDemo (standing_at seen standing) words
demo_standing seen standing later words can = record {
  count = can.count;
  is_command = can.is_command;
  no_write_fault = λ failed. can.no_write_fault (standing_fault seen standing later failed);
}

-- If no put fails, all requests are answered, unless memory runs out or the store refuses.
pub is_shown : {L : Type 0} (line : L → LinkSeen) (seen : Sight) (door : Span (DoorSeen L)) (counts : Span RunCounts) (words : List (List ℕ)) (can : CanDemo seen words)
    → (answer : Status) (out audit : List ℕ) → Runs line seen door counts words answer out audit → IsCompleted answer
is_shown line seen door counts words can =
    ran_so line seen door counts words (commands.Demo can.count) can.is_command can.no_write_fault IsCompleted (λ standing later out audit finished ended. inl refl) (inr (inl refl))
    (λ standing later out audit exit_reason ends. no_demo_exit_reason line (standing_at seen standing) door counts words (demo_standing seen standing later words can) out audit exit_reason ends.0)

-- The same for a dump.
module _ {L : Type 0} (line : L → LinkSeen) (seen : Sight) (door : Span (DoorSeen L)) (counts : Span RunCounts) (words : List (List ℕ)) (can : CanDump seen words) where
  abbrev dumped : Command
  dumped = commands.Dump can.dumping

  dump_long : (role : Role) → IsReached seen dumped role → IsLong seen dumped role → ⊥
  dump_long roles.App reached long = app_not_long seen dumped can.app can.opens long
  dump_long roles.New reached long = none_there reached.1
  dump_long roles.Sessions reached long = none_there reached.1
  dump_long roles.Events reached long = none_there reached.2

  not_dumped : (app : Application) (w : ℕ → Bool) (put : List ℕ) (exit_reason : ExitReason)
      → EndsDumping can.dumping.db app w seen.out seen.keeper (Err exit_reason) put → IsCompleted (status_of exit_reason)
  not_dumped app w put exits.WriteFault h = absurd (can.opens.no_write_fault (inl h.ends.puts.1))
  not_dumped app w put exits.Memory h = inr (inl refl)
  not_dumped app w put exits.StoreFault h = inr (inr (inl refl))
  not_dumped app w put (exits.OtherStore stored wanted) h = inr (inr (inr refl))
  not_dumped app w put (exits.ReadFault role) h = absurd h.ends.puts
  not_dumped app w put (exits.TooLong role) h = absurd h.ends.puts
  not_dumped app w put (exits.AppRefused line) h = absurd h.ends.puts
  not_dumped app w put (exits.NewRefused line) h = absurd h.ends.puts
  not_dumped app w put (exits.UpgradeRefused line) h = absurd h.ends.puts
  not_dumped app w put exits.DoorFault h = absurd h.ends.puts
  not_dumped app w put (exits.LineRefused event_fault) h = absurd h.ends.puts
  not_dumped app w put (exits.SessionsRefused line) h = absurd h.ends.puts

  no_dump_exit_reason : (out audit : List ℕ) (exit_reason : ExitReason) → EndsDump seen dumped (Err exit_reason) out audit → IsCompleted (status_of exit_reason)
  no_dump_exit_reason out audit exit_reason (inl h) = inr (inl (no_opening_fault seen dumped can.app can.opens exit_reason h.0 dump_long (λ line bad. absurd bad) (λ there bytes line. absurd (none_there there))))
  no_dump_exit_reason out audit exit_reason (inr h) = not_dumped h.app (shown_labels can.dumping.labels) out exit_reason h.ends

abbrev dump_standing : (seen : Sight) (standing : SinkSeen) → standing.faults ≤ seen.out.after.faults → (words : List (List ℕ)) → CanDump seen words → CanDump (standing_at seen standing) words
dump_standing seen standing later words can = record {
  dumping = can.dumping;
  app = can.app;
  is_command = can.is_command;
  opens = can_open_standing seen standing later _ _ can.opens;
}

-- If the application is there and no read or put fails, the store is dumped, unless memory runs out
-- or the store refuses.
pub is_dumped : {L : Type 0} (line : L → LinkSeen) (seen : Sight) (door : Span (DoorSeen L)) (counts : Span RunCounts) (words : List (List ℕ)) (can : CanDump seen words)
    → (answer : Status) (out audit : List ℕ) → Runs line seen door counts words answer out audit → IsCompleted answer
is_dumped line seen door counts words can =
    ran_so line seen door counts words (commands.Dump can.dumping) can.is_command can.opens.no_write_fault IsCompleted (λ standing later out audit finished ended. inl refl) (inr (inl refl))
    (λ standing later out audit exit_reason ends. no_dump_exit_reason line (standing_at seen standing) door counts words (dump_standing seen standing later words can) out audit exit_reason ends.0)

-- If a store can't be attached, the status is one of these.
not_attached : (db : Option (List ℕ)) (app : Application) (k : Span KeeperSeen) (exit_reason : ExitReason) → AttachesAs db app k (Err exit_reason) → IsCompleted (status_of exit_reason)
not_attached db app k exits.StoreFault h = inr (inr (inl refl))
not_attached db app k (exits.OtherStore stored wanted) h = inr (inr (inr refl))
not_attached db app k exits.Memory h = inr (inl refl)
not_attached db app k (exits.ReadFault role) h = absurd h
not_attached db app k (exits.TooLong role) h = absurd h
not_attached db app k (exits.AppRefused line) h = absurd h
not_attached db app k (exits.NewRefused line) h = absurd h
not_attached db app k (exits.UpgradeRefused line) h = absurd h
not_attached db app k exits.DoorFault h = absurd h
not_attached db app k exits.WriteFault h = absurd h
not_attached db app k (exits.LineRefused event_fault) h = absurd h
not_attached db app k (exits.SessionsRefused line) h = absurd h

completed_so : (exit_reason cause : ExitReason) → ◌≡◌ {A = Result (Unit {0}) ExitReason} (Err exit_reason) (Err cause) → IsCompleted (status_of cause) → IsCompleted (status_of exit_reason)
completed_so exit_reason cause same h = subst (λ (e : ExitReason). IsCompleted (status_of e)) (sym (same_exit_reason exit_reason cause same)) h

not_moved_from : (db : Option (List ℕ)) (app : Application) (k : Span KeeperSeen) (put : List ℕ) (exit_reason : ExitReason) → IsStoreUnmoved db app k (Err exit_reason) put → IsCompleted (status_of exit_reason)
not_moved_from db app k put exit_reason h = completed_so exit_reason h.exit_reason h.ended (not_attached db app k h.exit_reason h.attaches)

-- So it is if the store was kept as it was.
kept_so : (k : Span KeeperSeen) (put : List ℕ) (exit_reason : ExitReason) → IsKept k (Err exit_reason) put → IsCompleted (status_of exit_reason)
kept_so k put exit_reason h = elim h.ended [
  | inl e ↦ completed_so exit_reason exits.StoreFault e.0 (inr (inr (inl refl)))
  | inr e ↦ completed_so exit_reason exits.Memory e (inr (inl refl))
]

-- The same for a `why`.
module _ {L : Type 0} (line : L → LinkSeen) (seen : Sight) (door : Span (DoorSeen L)) (counts : Span RunCounts) (words : List (List ℕ)) (can : CanExplain seen words) where
  abbrev explained : Command
  explained = commands.Why can.explaining

  explain_long : (role : Role) → IsReached seen explained role → IsLong seen explained role → ⊥
  explain_long roles.App reached long = app_not_long seen explained can.app can.opens long
  explain_long roles.New reached long = none_there reached.1
  explain_long roles.Sessions reached long = none_there reached.1
  explain_long roles.Events reached long = none_there reached.2

  not_explained : (app : Application) (viewer : Option ℕ) (k : Span KeeperSeen) (put : List ℕ) (exit_reason : ExitReason) → EndsExplained app viewer seen.out k (Err exit_reason) put → IsCompleted (status_of exit_reason)
  not_explained app viewer k put exit_reason (inl h) = absurd (no_text_fault seen.out (λ rose. can.opens.no_write_fault (inl rose)) h.text put exit_reason h.puts)
  not_explained app viewer k put exit_reason (inr h) = kept_so k put exit_reason h

  not_explaining : (app : Application) (viewer : Option ℕ) (put : List ℕ) (exit_reason : ExitReason)
      → EndsExplaining can.explaining.db app viewer seen.out seen.keeper (Err exit_reason) put → IsCompleted (status_of exit_reason)
  not_explaining app viewer put exit_reason (inl h) = not_moved_from can.explaining.db app seen.keeper put exit_reason h
  not_explaining app viewer put exit_reason (inr h) = not_explained app viewer (span h.opened seen.keeper.after) put exit_reason h.ends

  no_explain_exit_reason : (out audit : List ℕ) (exit_reason : ExitReason) → EndsExplain seen explained (Err exit_reason) out audit → IsCompleted (status_of exit_reason)
  no_explain_exit_reason out audit exit_reason (inl h) =
      inr (inl (no_opening_fault seen explained can.app can.opens exit_reason h.0 explain_long (λ line bad. absurd bad) (λ there bytes line. absurd (none_there there))))
  no_explain_exit_reason out audit exit_reason (inr h) = not_explaining h.app (asker_in explained h.app) out exit_reason h.ends

abbrev explain_standing : (seen : Sight) (standing : SinkSeen) → standing.faults ≤ seen.out.after.faults → (words : List (List ℕ)) → CanExplain seen words → CanExplain (standing_at seen standing) words
explain_standing seen standing later words can = record {
  explaining = can.explaining;
  app = can.app;
  is_command = can.is_command;
  opens = can_open_standing seen standing later _ _ can.opens;
}

-- If the application is there and no read or put fails, the explanation is put, unless memory runs
-- out or the store refuses.
pub is_explained : {L : Type 0} (line : L → LinkSeen) (seen : Sight) (door : Span (DoorSeen L)) (counts : Span RunCounts) (words : List (List ℕ)) (can : CanExplain seen words)
    → (answer : Status) (out audit : List ℕ) → Runs line seen door counts words answer out audit → IsCompleted answer
is_explained line seen door counts words can =
    ran_so line seen door counts words (commands.Why can.explaining) can.is_command can.opens.no_write_fault IsCompleted (λ standing later out audit finished ended. inl refl) (inr (inl refl))
    (λ standing later out audit exit_reason ends. no_explain_exit_reason line (standing_at seen standing) door counts words (explain_standing seen standing later words can) out audit exit_reason ends.0)

-- The same for an upgrade.
module _ {L : Type 0} (line : L → LinkSeen) (seen : Sight) (door : Span (DoorSeen L)) (counts : Span RunCounts) (words : List (List ℕ)) (can : CanUpgrade seen words) where
  abbrev moving : Command
  moving = commands.Upgrade can.upgrading

  upgrade_long : (role : Role) → IsReached seen moving role → IsLong seen moving role → ⊥
  upgrade_long roles.App reached long = app_not_long seen moving can.old can.opens long
  upgrade_long roles.New reached long = not_long seen moving roles.New can.next_bytes can.opens.told can.next_file can.next_application.1.short long
  upgrade_long roles.Sessions reached long = none_there reached.1
  upgrade_long roles.Events reached long = none_there reached.2

  next_spelled : (bytes line : List ℕ) → IsRead seen moving roles.New bytes → IsRefusedBy bytes line → ⊥
  next_spelled bytes line read refused =
      let same = same_bytes seen moving roles.New can.next_bytes bytes can.opens.told can.next_file read in
      refused.none can.new (subst (λ (b : List ℕ). IsApplication b can.new) (sym same) can.next_application)

  no_upgrade_opening : (exit_reason : ExitReason) → EndsOpening seen moving exit_reason → status_of exit_reason ≡ statuses.Memory
  no_upgrade_opening exit_reason h = no_opening_fault seen moving can.old can.opens exit_reason h upgrade_long (λ n bad. absurd bad) (λ there bytes line. next_spelled bytes line)

  -- The application that is read from each file is the one that the file spells.
  found : (extends : Bool) → Extends seen words can extends → (old new : Application) → HasApplication seen moving old → HasNext seen moving new
      → is_none (models_lack 0 old.models new.models) ≡ extends
  found extends finds old new had next =
      let same = same_bytes seen moving roles.App can.opens.bytes had.bytes can.opens.told can.opens.file had.read in
      let next_same = same_bytes seen moving roles.New can.next_bytes next.bytes can.opens.told can.next_file next.read in
      finds old new (subst (λ (b : List ℕ). IsApplication b old) same had.spelled) (subst (λ (b : List ℕ). IsApplication b new) next_same next.spelled)

  not_reshaped : (old new : Application) (k : Span KeeperSeen) (put : List ℕ) (exit_reason : ExitReason) → EndsReshaping old new seen.out k (Err exit_reason) put → IsCompleted (status_of exit_reason)
  not_reshaped old new k put exit_reason (inl h) =
      absurd (no_text_fault seen.out (λ rose. can.opens.no_write_fault (inl rose)) (upgraded_line h.count) put exit_reason h.puts)
  not_reshaped old new k put exit_reason (inr h) = kept_so k put exit_reason h

  not_moved : (old new : Application) (put : List ℕ) (exit_reason : ExitReason)
      → EndsMoving (Some can.upgrading.db) old new seen.out seen.keeper (Err exit_reason) put → IsCompleted (status_of exit_reason)
  not_moved old new put exit_reason (inl h) = not_moved_from (Some can.upgrading.db) old seen.keeper put exit_reason h
  not_moved old new put exit_reason (inr h) = not_reshaped old new (span h.opened seen.keeper.after) put exit_reason h.ends

  no_lack : (lack : Option UpgradeFault) (fault : UpgradeFault) → lack ≡ Some fault → is_none lack ≡ true → ⊥
  no_lack lack fault lacks none = cc

  no_extension : (lack : Option UpgradeFault) → lack ≡ None → is_none lack ≡ false → ⊥
  no_extension lack none some = cc

  no_upgrade_exit_reason : Extends seen words can true → (out audit : List ℕ) (exit_reason : ExitReason) → EndsUpgrade seen moving (Err exit_reason) out audit → IsCompleted (status_of exit_reason)
  no_upgrade_exit_reason finds out audit exit_reason (inl h) = inr (inl (no_upgrade_opening exit_reason h.0))
  no_upgrade_exit_reason finds out audit exit_reason (inr h) = elim h.ends [
    | inl lacking ↦ absurd (no_lack (models_lack 0 h.old.models h.new.models) lacking.fault lacking.lacks (found true finds h.old h.new h.application h.next))
    | inr moved ↦ not_moved h.old h.new out exit_reason moved.1
  ]

  refused_so : (exit_reason : ExitReason) (line : List ℕ) → (◌≡◌ {A = Result (Unit {0}) ExitReason} (Err exit_reason) (Err (exits.UpgradeRefused line))) ⊎ (◌≡◌ {A = Result (Unit {0}) ExitReason} (Err exit_reason) (Err exits.Memory))
      → (status_of exit_reason ≡ statuses.UpgradeRefused) ⊎ (status_of exit_reason ≡ statuses.Memory)
  refused_so exit_reason line (inl told) = inl (ap status_of (same_exit_reason exit_reason (exits.UpgradeRefused line) told))
  refused_so exit_reason line (inr memory) = inr (ap status_of (same_exit_reason exit_reason exits.Memory memory))

  no_refusal_exit_reason : Extends seen words can false → (out audit : List ℕ) (exit_reason : ExitReason) → EndsUpgrade seen moving (Err exit_reason) out audit
      → (status_of exit_reason ≡ statuses.UpgradeRefused) ⊎ (status_of exit_reason ≡ statuses.Memory)
  no_refusal_exit_reason finds out audit exit_reason (inl h) = inr (no_upgrade_opening exit_reason h.0)
  no_refusal_exit_reason finds out audit exit_reason (inr h) = elim h.ends [
    | inl lacking ↦ refused_so exit_reason (lack_line h.old.models lacking.fault) lacking.told
    | inr moved ↦ absurd (no_extension (models_lack 0 h.old.models h.new.models) moved.0 (found false finds h.old h.new h.application h.next))
  ]

  no_result : (finished : Unit {0}) (line : List ℕ) → (◌≡◌ {A = Result (Unit {0}) ExitReason} (Ok finished) (Err (exits.UpgradeRefused line))) ⊎ (◌≡◌ {A = Result (Unit {0}) ExitReason} (Ok finished) (Err exits.Memory)) → ⊥
  no_result finished line (inl told) = cc
  no_result finished line (inr memory) = cc

  not_done : Extends seen words can false → (out audit : List ℕ) (finished : Unit {0}) → EndsUpgrade seen moving (Ok finished) out audit → ⊥
  not_done finds out audit finished (inl h) = h
  not_done finds out audit finished (inr h) = elim h.ends [
    | inl lacking ↦ no_result finished (lack_line h.old.models lacking.fault) lacking.told
    | inr moved ↦ no_extension (models_lack 0 h.old.models h.new.models) moved.0 (found false finds h.old h.new h.application h.next)
  ]

abbrev upgrade_standing : (seen : Sight) (standing : SinkSeen) → standing.faults ≤ seen.out.after.faults → (words : List (List ℕ)) → CanUpgrade seen words → CanUpgrade (standing_at seen standing) words
upgrade_standing seen standing later words can = record {
  upgrading = can.upgrading;
  old = can.old;
  new = can.new;
  next_bytes = can.next_bytes;
  is_command = can.is_command;
  next_file = can.next_file;
  next_application = can.next_application;
  opens = can_open_standing seen standing later _ _ can.opens;
}

-- If both applications are there, the second extends the first, and no read or put fails, the store
-- is upgraded to the second, unless memory runs out or the store refuses.
pub is_upgraded : {L : Type 0} (line : L → LinkSeen) (seen : Sight) (door : Span (DoorSeen L)) (counts : Span RunCounts) (words : List (List ℕ)) (can : CanUpgrade seen words)
    → Extends seen words can true → (answer : Status) (out audit : List ℕ) → Runs line seen door counts words answer out audit → IsCompleted answer
is_upgraded line seen door counts words can finds =
    ran_so line seen door counts words (commands.Upgrade can.upgrading) can.is_command can.opens.no_write_fault IsCompleted (λ standing later out audit finished ended. inl refl) (inr (inl refl))
    (λ standing later out audit exit_reason ends.
    no_upgrade_exit_reason line (standing_at seen standing) door counts words (upgrade_standing seen standing later words can) finds out audit exit_reason ends.0)

-- If the second doesn't extend the first, it is refused, unless memory runs out.
pub is_refused : {L : Type 0} (line : L → LinkSeen) (seen : Sight) (door : Span (DoorSeen L)) (counts : Span RunCounts) (words : List (List ℕ)) (can : CanUpgrade seen words)
    → Extends seen words can false → (answer : Status) (out audit : List ℕ) → Runs line seen door counts words answer out audit
    → (answer ≡ statuses.UpgradeRefused) ⊎ (answer ≡ statuses.Memory)
is_refused line seen door counts words can finds =
    ran_so line seen door counts words (commands.Upgrade can.upgrading) can.is_command can.opens.no_write_fault (λ status. (status ≡ statuses.UpgradeRefused) ⊎ (status ≡ statuses.Memory))
    (λ standing later out audit finished ended.
    absurd (not_done line (standing_at seen standing) door counts words (upgrade_standing seen standing later words can) finds out audit finished ended.0)) (inr refl)
    (λ standing later out audit exit_reason ends.
    no_refusal_exit_reason line (standing_at seen standing) door counts words (upgrade_standing seen standing later words can) finds out audit exit_reason ends.0)

-- The same for serving a door.
module _ {L : Type 0} (line : L → LinkSeen) (seen : Sight) (door : Span (DoorSeen L)) (counts : Span RunCounts) (words : List (List ℕ)) (can : CanServe seen door words) where
  abbrev listening : Command
  listening = commands.Serve can.serving

  serve_long : (role : Role) → IsReached seen listening role → IsLong seen listening role → ⊥
  serve_long roles.App reached long = app_not_long seen listening can.app can.opens long
  serve_long roles.New reached long = none_there reached.1
  serve_long roles.Sessions reached long = not_long_named seen.files can.serving.sessions reached.1 can.sessions_file (long can.opens.told)
  serve_long roles.Events reached long = none_there reached.2

  no_serve_exit_reason : (out audit : List ℕ) (exit_reason : ExitReason) → EndsServer line seen door counts can.serving (Err exit_reason) out audit → IsCompleted (status_of exit_reason)
  no_serve_exit_reason out audit exit_reason (inl h) =
      inr (inl (no_opening_fault seen listening can.app can.opens exit_reason h.0.0 serve_long (λ n bad. no_bad_line seen.files can.serving.sessions n can.opens.told can.sessions_file bad) (λ there bytes line. absurd (none_there there))))
  no_serve_exit_reason out audit exits.WriteFault (inr h) = elim h.ends [
    | inl unaimed ↦ absurd (can.opens.no_write_fault (inr unaimed.0))
    | inr behind ↦ absurd (can.opens.no_write_fault (a_connection_failed line _ (sinks_of seen) _ _ _ out audit behind.1.ends.ends))
  ]
  no_serve_exit_reason out audit exits.DoorFault (inr h) = absurd (can.no_door_fault h.ends.1.ends.0)
  no_serve_exit_reason out audit exits.Memory (inr h) = inr (inl refl)
  no_serve_exit_reason out audit exits.StoreFault (inr h) = inr (inr (inl refl))
  no_serve_exit_reason out audit (exits.OtherStore stored wanted) (inr h) = inr (inr (inr refl))
  no_serve_exit_reason out audit (exits.ReadFault role) (inr h) = absurd h.ends.1.ends.ends
  no_serve_exit_reason out audit (exits.TooLong role) (inr h) = absurd h.ends.1.ends.ends
  no_serve_exit_reason out audit (exits.AppRefused text) (inr h) = absurd h.ends.1.ends.ends
  no_serve_exit_reason out audit (exits.NewRefused text) (inr h) = absurd h.ends.1.ends.ends
  no_serve_exit_reason out audit (exits.UpgradeRefused text) (inr h) = absurd h.ends.1.ends.ends
  no_serve_exit_reason out audit (exits.LineRefused event_fault) (inr h) = absurd h.ends.1.ends.ends
  no_serve_exit_reason out audit (exits.SessionsRefused n) (inr h) = absurd h.ends.1.ends.ends

abbrev serve_standing : {L : Type 0} (seen : Sight) (standing : SinkSeen) → standing.faults ≤ seen.out.after.faults → (door : Span (DoorSeen L)) (words : List (List ℕ))
    → CanServe seen door words → CanServe (standing_at seen standing) door words
serve_standing seen standing later door words can = record {
  serving = can.serving;
  app = can.app;
  is_command = can.is_command;
  sessions_file = can.sessions_file;
  no_door_fault = can.no_door_fault;
  opens = can_open_standing seen standing later _ _ can.opens;
}

-- If nothing is missing and no read, put or call of the door fails, the door is served, unless
-- memory runs out or the store refuses.
pub is_listened : {L : Type 0} (line : L → LinkSeen) (seen : Sight) (door : Span (DoorSeen L)) (counts : Span RunCounts) (words : List (List ℕ)) (can : CanServe seen door words)
    → (answer : Status) (out audit : List ℕ) → Runs line seen door counts words answer out audit → IsCompleted answer
is_listened line seen door counts words can =
    ran_so line seen door counts words (commands.Serve can.serving) can.is_command can.opens.no_write_fault IsCompleted (λ standing later out audit finished ended. inl refl) (inr (inl refl))
    (λ standing later out audit exit_reason ends. no_serve_exit_reason line (standing_at seen standing) door counts words (serve_standing seen standing later door words can) out audit exit_reason ends)
