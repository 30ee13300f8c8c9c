-- How a command that works on a store begins.
use Rattle.std.proofs.Common.{◌≡◌, ◌∙◌, ap, sym, subst, refl, ℕ, ◌≤◌, inl, inr, is_some, IsTrue, Result, Ok, Err, Option, Some, None, List, [], append-nil, arith}
use Rattle.jac_io.specs.Seen.{FilesLast, FilesSeen, SinkSeen, Aims}
use Rattle.jac_io.specs.declared.sink.Failed.{Failed}
use Rattle.jac_lang.specs.Syntax.{Application}
use Rattle.jac_keep.specs.KeeperSeen.{KeeperSeen}
use Rattle.jac_route.specs.declared.sessions.Session.{Session}
use Rattle.jac_cli.specs.declared.words.Command.{Command}
use Rattle.jac_cli.specs.declared.role.Role.TheVariants as roles
use Rattle.jac_cli.specs.Commands.{db_of, file_of, name_of, name_or_empty}
use Rattle.jac_serve_events.specs.RunSeen.{IsStill}
use Rattle.jac_serve_events.specs.Outside.{Span, span, sinks, WentAimed}
use Rattle.jac_serve_events.proofs.OutsideLemmas.{Lasts-none, Took-none}
use Rattle.jac_command_base.specs.declared.exit_reason.ExitReason.{ExitReason}
use Rattle.jac_command_base.specs.declared.exit_reason.ExitReason.TheVariants as exits
use Rattle.jac_command_base.specs.Attached.{AttachesAs}
use Rattle.jac_command_base.specs.Early.{EndsOpening, IsEndedEarly}
use Rattle.jac_command_base.specs.Files.{Sight, HasApplication, HasSessions, IsAppless, IsIdle, IsSpelledIn, IsUnread}
use Rattle.jac_command_base.specs.Startup.{sight_of, AreFilesRead, BeginsAs, EndsAim, EndsAiming, HasEvents, IsEventless, IsHaltedEarly}
use Rattle.jac_command_base.proofs.ExitReasonLemmas.{IsWithin, read_within, unopened_ends, unread_ends}

-- What is seen of files between two reads is within what is seen over all of them.
pub within_between : (a b c d : FilesSeen) → FilesLast a b → FilesLast b c → FilesLast c d → IsWithin (span a d) (span b c)
within_between a b c d first second third = record {
  earlier = first.later;
  later = third.later;
  told = λ told. third.told told;
  same_file = λ told. first.same_file (second.told (third.told told));
}

pub files_last : (a : FilesSeen) → FilesLast a a
files_last a = record { later = omega arith; told = λ told. told; same_file = λ told. refl }

pub files_then : (a b c : FilesSeen) → FilesLast a b → FilesLast b c → FilesLast a c
files_then a b c one two = record {
  later = omega (arith, one.later, two.later);
  told = λ told. one.told (two.told told);
  same_file = λ told. two.same_file told ∙ one.same_file (two.told told);
}

-- A file that gives no application ends the steps.
pub appless_ends : (seen : Sight) (command : Command) (part : Span FilesSeen) (exit_reason : ExitReason) → IsWithin seen.files part
    → IsAppless part (name_of command roles.App) exit_reason → EndsOpening seen command exit_reason
appless_ends seen command part exit_reason within (inl h) = unread_ends seen command roles.App part exit_reason tt within h
appless_ends seen command part exit_reason within (inr h) =
    unopened_ends seen command h.0 exit_reason (read_within seen.files part within (name_of command roles.App) roles.App h.0 h.1) h.2

-- A file that gave an application between two moments of a run gave it in the run.
pub spelled_within : (files part : Span FilesSeen) → IsWithin files part → (name : List ℕ) (app : Application) → IsSpelledIn part name app → IsSpelledIn files name app
spelled_within files part within name app h = record { bytes = h.bytes; read = read_within files part within name roles.App h.bytes h.read; spelled = h.spelled }

pub spelled_application : (seen : Sight) (command : Command) (app : Application) → IsSpelledIn seen.files (name_of command roles.App) app → HasApplication seen command app
spelled_application seen command app h = record { bytes = h.bytes; read = h.read; spelled = h.spelled }

-- Events that couldn't be read end the steps.
eventless_named : (seen : Sight) (command : Command) (part : Span FilesSeen) (exit_reason : ExitReason) (name : Option (List ℕ)) → file_of command roles.Events ≡ name
    → (app : Application) × HasApplication seen command app → (sessions : List Session) × HasSessions seen.files (file_of command roles.Sessions) sessions
    → IsWithin seen.files part → IsEventless part name exit_reason → EndsOpening seen command exit_reason
eventless_named seen command part exit_reason None is opened had within h = absurd h
eventless_named seen command part exit_reason (Some name) is opened had within h =
    unread_ends seen command roles.Events part exit_reason
    (opened, had, subst (λ (o : Option (List ℕ)). IsTrue (is_some o)) (sym is) refl)
    within
    (subst (λ (o : Option (List ℕ)). IsUnread part (name_or_empty o) roles.Events exit_reason) (sym is) h)

pub eventless_ends : (seen : Sight) (command : Command) (part : Span FilesSeen) (exit_reason : ExitReason)
    → (app : Application) × HasApplication seen command app → (sessions : List Session) × HasSessions seen.files (file_of command roles.Sessions) sessions
    → IsWithin seen.files part → IsEventless part (file_of command roles.Events) exit_reason → EndsOpening seen command exit_reason
eventless_ends seen command part exit_reason opened had within h = eventless_named seen command part exit_reason (file_of command roles.Events) refl opened had within h

-- Events that were read between two moments of a run were read in the run.
pub events_within : (files part : Span FilesSeen) → IsWithin files part → (name : Option (List ℕ)) (events : List ℕ) → HasEvents part name events → HasEvents files name events
events_within files part within None events h = h
events_within files part within (Some name) events h = read_within files part within name roles.Events events h

-- The audit couldn't be aimed.
pub aim_refused : (name : Option (List ℕ)) (audit : Span SinkSeen) (failed : Failed) → Aims audit.before audit.after name (Err failed) → EndsAim name audit (Err exits.WriteFault)
aim_refused name audit failed aims = inl (failed, refl, aims)

-- After the audit was aimed, the store was attached, or it wasn't.
pub begins : (command : Command) (app : Application) (audit : Span SinkSeen) (keeper : Span KeeperSeen) (result : Result (Unit {0}) ExitReason)
    → EndsAiming command audit (Ok tt) → AttachesAs (db_of command) app keeper result → BeginsAs command app audit keeper result
begins command app audit keeper (Ok done) aims attaches = record { aims = aims; attaches = attaches }
begins command app audit keeper (Err exit_reason) aims attaches = inr (record { aims = aims; attaches = attaches })

-- Nothing was put, and the audit wasn't called.
pub idle_behind : (out audit later : SinkSeen) (P : List ℕ → List ℕ → Type 0) → later ≡ audit → P [] [] → WentAimed (sinks out out audit later) P
idle_behind out audit later P uncalled h = record {
  out = [];
  audit = [];
  out_lasts = Lasts-none out;
  audit_later = subst (λ (s : SinkSeen). audit.faults ≤ s.faults) (sym uncalled) (omega arith);
  out_took = Took-none out;
  audit_took = λ told. ap (λ (s : SinkSeen). s.held) uncalled ∙ sym (append-nil audit.held);
  holds = h;
}

-- The keeper wasn't called either.
pub idle_with : (audit : Span SinkSeen) (keeper : Span KeeperSeen) → IsStill audit → IsStill keeper → IsIdle audit keeper [] []
idle_with audit keeper uncalled still = record { no_out = refl; no_audit = refl; unaimed = λ told. ap (λ (s : SinkSeen). s.aims) uncalled; still = still }

-- The command ended before the audit was aimed.
pub ended_early : (command : Command) (files : Span FilesSeen) (out audit : Span SinkSeen) (keeper : Span KeeperSeen) (exit_reason : ExitReason)
    → IsHaltedEarly command files audit keeper exit_reason → IsEndedEarly (sight_of files out audit keeper) command (Err exit_reason) [] []
ended_early command files out audit keeper exit_reason h = (h.ends out audit keeper, idle_with audit keeper h.uncalled h.still)

-- The same, because memory ran out.
pub memory_early : (command : Command) (files : Span FilesSeen) (out audit : Span SinkSeen) (keeper : Span KeeperSeen)
    → IsStill audit → IsStill keeper → IsEndedEarly (sight_of files out audit keeper) command (Err exits.Memory) [] []
memory_early command files out audit keeper uncalled still = (tt, idle_with audit keeper uncalled still)

-- The application's file spells the application.
pub application_read : (command : Command) (files : Span FilesSeen) (out audit : Span SinkSeen) (keeper : Span KeeperSeen) (app : Application) (sessions : List Session) (events : List ℕ)
    → AreFilesRead command files app sessions events → HasApplication (sight_of files out audit keeper) command app
application_read command files out audit keeper app sessions events h = spelled_application (sight_of files out audit keeper) command app h.application
