-- The cause of each status of a run.
use Rattle.std.proofs.Common.{Bool, false, is_some, IsTrue, arith, ◌≡◌, ◌≤◌, sym, subst, refl, ℕ, ◌∙◌, ◌⊎◌, inl, inr, Result, Ok, Err, Option, Some, None, List}
use Rattle.jac_io.specs.Linked.{LinkSeen, DoorSeen}
use Rattle.jac_io.specs.Seen.{SinkSeen}
use Rattle.jac_lang.specs.Syntax.{Application}
use Rattle.jac_route.specs.declared.sessions.Session.{Session}
use Rattle.jac_cli.specs.declared.words.Command.{Command}
use Rattle.jac_cli.specs.declared.words.Command.TheVariants as commands
use Rattle.jac_cli.specs.declared.words.ServeArgs.{ServeArgs}
use Rattle.jac_command_base.specs.declared.exit_reason.ExitReason.{ExitReason}
use Rattle.jac_command_base.specs.declared.exit_reason.ExitReason.TheVariants as exits
use Rattle.jac_cli.specs.declared.role.Role.TheVariants as roles
use Rattle.jac_command_base.specs.declared.status.Status.{Status}
use Rattle.jac_command_base.specs.declared.status.Status.TheVariants as statuses
use Rattle.jac_serve_events.specs.RunSeen.{RunCounts}
use Rattle.jac_serve_events.specs.Script.{script_of}
use Rattle.jac_serve_events.specs.Outside.{Span, span, AWriteFailed}
use Rattle.jac_cli.specs.Words.{command_of}
use Rattle.jac_cli.specs.Commands.{file_of, db_of}
use Rattle.jac_cli.specs.declared.words.UpgradeArgs.{UpgradeArgs}
use Rattle.jac_io.specs.Faults.{Rose}
use Rattle.jac_keep.specs.KeeperSeen.{KeeperSeen}
use Rattle.jac_admin.specs.Upgrade.{lack_line, upgraded_line, IsLacking, IsKept, EndsReshaping, EndsMoving, EndsUpgrading}
use Rattle.jac_admin.specs.Explain.{asker_in, EndsExplained, EndsExplaining}
use Rattle.jac_serve_events.proofs.OutsideLemmas.{Rose-widen}
use Rattle.jac_command_base.specs.Files.{Sight, sinks_of, standing_at, IsRead, HasApplication, HasNext, IsOpened, IsUnopened}
use Rattle.jac_command_base.specs.ExitReason.{Closes, Finishes, fault_line, status_of, PutsText}
use Rattle.jac_command_base.specs.Attached.{IsOther, AttachesAs}
use Rattle.jac_app.specs.Held.{held_of}
use Rattle.jac_app.specs.Replay.{EndsServing}
use Rattle.jac_command_base.specs.Early.{EndsOpening}
use Rattle.jac_app.specs.Server.{EndsAimed}
use Rattle.jac_app.specs.Check.{checked_text}
use Rattle.jac_app_load.specs.Application.{IsApplication, schema_text}
use Rattle.jac_app_load.proofs.OpeningLemmas.{some_same}
use Rattle.jac_app.specs.Run.{Ends, Runs, IsSource, Sources, ComesFor, CanAttach, usage_line}
use Rattle.jac_demo.specs.Calendar.{calendar_text}
use Rattle.jac_app.specs.declared.summary.Summary.{Summary}
use Rattle.jac_world.specs.World.{shown_by}
use Rattle.jac_admin.specs.Dump.{EndsDumping}
use Rattle.jac_app.proofs.LaterLemmas.{comes_later}
use Rattle.jac_app.proofs.ServerLemmas.{a_connection_failed}
use Rattle.jac_serve_events.proofs.ProgressLemmas.{puts_torn_failed}
use Rattle.jac_app.specs.Demo.{EndsCounting, EndsTallying, PutsSummary, summary_line}

pub same_exit_reason : (x y : ExitReason) → ◌≡◌ {A = Result (Unit {0}) ExitReason} (Err x) (Err y) → x ≡ y
same_exit_reason x y e = cc

pub none_there : IsTrue false → ⊥
none_there is = cc

module _ {L : Type 0} (line : L → LinkSeen) (seen : Sight) (door : Span (DoorSeen L)) (counts : Span RunCounts) (words : List (List ℕ)) where
  -- The line of a status was put, or that put failed.
  cause_of_closing : (sink : Span SinkSeen) → (Rose sink.before.faults sink.after.faults → Rose seen.out.before.faults seen.out.after.faults)
      → (line : List ℕ) (status : Status) (put : List ℕ) (answer : Status)
      → ComesFor seen door words status → Closes sink line status put answer → ComesFor seen door words answer
  cause_of_closing sink rose line status put answer cause (inl h) = subst (λ (s : Status). ComesFor seen door words s) (sym h.1) cause
  cause_of_closing sink rose line status put answer cause (inr h) = subst (λ (s : Status). ComesFor seen door words s) (sym h.1) (inl (rose h.2))

  cause_of_opening : (command : Command) (exit_reason : ExitReason)
      → ((bytes : List ℕ) → IsRead seen command roles.App bytes → IsSource seen command bytes)
      → (IsTrue (is_some (file_of command roles.New)) → (bytes : List ℕ) → IsRead seen command roles.New bytes → IsSource seen command bytes)
      → command_of words ≡ Some command → EndsOpening seen command exit_reason → ComesFor seen door words (status_of exit_reason)
  cause_of_opening command (exits.ReadFault role) source next is h = h.1
  cause_of_opening command (exits.TooLong role) source next is h = (command, is, (role, h.0, h.1))
  cause_of_opening command (exits.AppRefused line) source next is h = (command, is, (h.0, source h.0 h.1, h.2.none))
  cause_of_opening command (exits.NewRefused line) source next is h = (command, is, (h.1.0, next h.0.1 h.1.0 h.1.1, h.1.2.none))
  cause_of_opening command (exits.UpgradeRefused line) source next is h = absurd h
  cause_of_opening command (exits.SessionsRefused line) source next is h = (command, is, inr (h.0, (line, h.1)))
  cause_of_opening command exits.Memory source next is h = tt
  cause_of_opening command (exits.LineRefused event_fault) source next is h = absurd h
  cause_of_opening command exits.WriteFault source next is h = absurd h
  cause_of_opening command exits.StoreFault source next is h = absurd h
  cause_of_opening command exits.DoorFault source next is h = absurd h
  cause_of_opening command (exits.OtherStore stored wanted) source next is h = absurd h

  -- The cause of an end after the files were read.
  cause_of_serving : (command : Command) (app : Application) (sessions : List Session) (events out audit : List ℕ) (exit_reason : ExitReason)
      → (HasApplication seen command app → Sources seen command app) → command_of words ≡ Some command → IsOpened seen command app sessions events
      → EndsServing (sinks_of seen) command app sessions (held_of seen counts) (script_of events) (Err exit_reason) out audit → ComesFor seen door words (status_of exit_reason)
  cause_of_serving command app sessions events out audit exits.WriteFault source is opened (inl h) = inr h.0
  cause_of_serving command app sessions events out audit exits.WriteFault source is opened (inr h) = puts_torn_failed _ _ _ (sinks_of seen) out audit h.1.ends
  cause_of_serving command app sessions events out audit exits.Memory source is opened h = tt
  cause_of_serving command app sessions events out audit exits.StoreFault source is opened h = h.1.0
  cause_of_serving command app sessions events out audit exits.DoorFault source is opened h = absurd h.1.ends
  cause_of_serving command app sessions events out audit (exits.OtherStore stored wanted) source is opened h =
      (command, is, (app, source opened.application, (stored, subst (λ (text : List ℕ). IsOther seen.keeper stored text) h.1.0 h.1.1)))
  cause_of_serving command app sessions events out audit (exits.LineRefused event_fault) source is opened h =
      (command, is, inl (app, sessions, events, opened, (event_fault, h.1.ends.0)))
  cause_of_serving command app sessions events out audit (exits.ReadFault role) source is opened h = absurd h.1.ends
  cause_of_serving command app sessions events out audit (exits.TooLong role) source is opened h = absurd h.1.ends
  cause_of_serving command app sessions events out audit (exits.AppRefused line) source is opened h = absurd h.1.ends
  cause_of_serving command app sessions events out audit (exits.NewRefused line) source is opened h = absurd h.1.ends
  cause_of_serving command app sessions events out audit (exits.UpgradeRefused line) source is opened h = absurd h.1.ends
  cause_of_serving command app sessions events out audit (exits.SessionsRefused line) source is opened h = absurd h.1.ends

  cause_of_text : (text out : List ℕ) (exit_reason : ExitReason) → PutsText seen.out text (Err exit_reason) out → ComesFor seen door words (status_of exit_reason)
  cause_of_text text out exits.WriteFault h = inl h.1
  cause_of_text text out exits.Memory h = absurd h
  cause_of_text text out exits.StoreFault h = absurd h
  cause_of_text text out exits.DoorFault h = absurd h
  cause_of_text text out (exits.OtherStore stored wanted) h = absurd h
  cause_of_text text out (exits.ReadFault role) h = absurd h
  cause_of_text text out (exits.TooLong role) h = absurd h
  cause_of_text text out (exits.AppRefused line) h = absurd h
  cause_of_text text out (exits.NewRefused line) h = absurd h
  cause_of_text text out (exits.UpgradeRefused line) h = absurd h
  cause_of_text text out (exits.LineRefused event_fault) h = absurd h
  cause_of_text text out (exits.SessionsRefused line) h = absurd h

  -- The causes for which a demo ends.
  cause_of_uncounted : (n : ℕ) (out audit : List ℕ) (exit_reason : ExitReason)
      → command_of words ≡ Some (commands.Demo n) → IsUnopened calendar_text exit_reason → ComesFor seen door words (status_of exit_reason)
  cause_of_uncounted n out audit exit_reason is (inl h) =
      subst (λ (e : ExitReason). ComesFor seen door words (status_of e)) (sym h.1) (commands.Demo n, is, (calendar_text, refl, h.2.none))
  cause_of_uncounted n out audit exit_reason is (inr memory) = subst (λ (e : ExitReason). ComesFor seen door words (status_of e)) (sym memory) tt

  cause_of_tallying : (n : ℕ) (app : Application) (audit : List ℕ) (exit_reason : ExitReason)
      → command_of words ≡ Some (commands.Demo n) → IsApplication calendar_text app
      → (◌≡◌ {A = Result Summary ExitReason} (Err exit_reason) (Err exits.WriteFault) → AWriteFailed (sinks_of seen)) → EndsTallying app (held_of seen counts) n (Err exit_reason) audit
      → ComesFor seen door words (status_of exit_reason)
  cause_of_tallying n app audit exits.WriteFault is calendar rose h = rose refl
  cause_of_tallying n app audit exits.Memory is calendar rose h = tt
  cause_of_tallying n app audit exits.StoreFault is calendar rose h = h.0
  cause_of_tallying n app audit (exits.OtherStore stored wanted) is calendar rose h =
      (commands.Demo n, is, (app, calendar, (stored, subst (λ (text : List ℕ). IsOther seen.keeper stored text) h.0 h.1)))
  cause_of_tallying n app audit (exits.ReadFault role) is calendar rose h = absurd h
  cause_of_tallying n app audit (exits.TooLong role) is calendar rose h = absurd h
  cause_of_tallying n app audit (exits.AppRefused line) is calendar rose h = absurd h
  cause_of_tallying n app audit (exits.NewRefused line) is calendar rose h = absurd h
  cause_of_tallying n app audit (exits.UpgradeRefused line) is calendar rose h = absurd h
  cause_of_tallying n app audit exits.DoorFault is calendar rose h = absurd h
  cause_of_tallying n app audit (exits.LineRefused event_fault) is calendar rose h = absurd h
  cause_of_tallying n app audit (exits.SessionsRefused line) is calendar rose h = absurd h

  cause_of_told : (n : ℕ) (app : Application) (ended : Result Summary ExitReason) (out audit : List ℕ) (exit_reason : ExitReason)
      → command_of words ≡ Some (commands.Demo n) → IsApplication calendar_text app
      → EndsTallying app (held_of seen counts) n ended audit → (ended ≡ Err exits.WriteFault → AWriteFailed (sinks_of seen)) → PutsSummary seen.out ended (Err exit_reason) out
      → ComesFor seen door words (status_of exit_reason)
  cause_of_told n app (Ok summary) out audit exit_reason is calendar ends rose told = cause_of_text (summary_line summary) out exit_reason told
  cause_of_told n app (Err fault) out audit exit_reason is calendar ends rose told =
      subst (λ (e : ExitReason). ComesFor seen door words (status_of e)) (sym (same_exit_reason exit_reason fault told.0)) (cause_of_tallying n app audit fault is calendar rose ends)

  cause_of_counting : (n : ℕ) (app : Application) (out audit : List ℕ) (exit_reason : ExitReason)
      → command_of words ≡ Some (commands.Demo n) → IsApplication calendar_text app → EndsCounting (sinks_of seen) app (held_of seen counts) n (Err exit_reason) out audit → ComesFor seen door words (status_of exit_reason)
  cause_of_counting n app out audit exit_reason is calendar (inl h) =
      subst (λ (e : ExitReason). ComesFor seen door words (status_of e)) (sym (same_exit_reason exit_reason exits.WriteFault h.fault)) (inr h.rose)
  cause_of_counting n app out audit exit_reason is calendar (inr h) =
      cause_of_told n app h.1.ended out audit exit_reason is calendar h.1.ends (λ failed. inr (h.1.rose failed)) h.1.told

  -- The cause of an end after the application was read, for which a store was attached.
  cause_of_dumping : (command : Command) (app : Application) (w : ℕ → Bool) (put : List ℕ) (exit_reason : ExitReason)
      → command_of words ≡ Some command → Sources seen command app → EndsDumping (db_of command) app w seen.out seen.keeper (Err exit_reason) put → ComesFor seen door words (status_of exit_reason)
  cause_of_dumping command app w put exits.WriteFault is source h = inl h.ends.puts.1
  cause_of_dumping command app w put exits.Memory is source h = tt
  cause_of_dumping command app w put exits.StoreFault is source h = h.0
  cause_of_dumping command app w put (exits.OtherStore stored wanted) is source h =
      (command, is, (app, source, (stored, subst (λ (text : List ℕ). IsOther seen.keeper stored text) h.0 h.1)))
  cause_of_dumping command app w put (exits.ReadFault role) is source h = absurd h.ends.puts
  cause_of_dumping command app w put (exits.TooLong role) is source h = absurd h.ends.puts
  cause_of_dumping command app w put (exits.AppRefused line) is source h = absurd h.ends.puts
  cause_of_dumping command app w put (exits.NewRefused line) is source h = absurd h.ends.puts
  cause_of_dumping command app w put (exits.UpgradeRefused line) is source h = absurd h.ends.puts
  cause_of_dumping command app w put exits.DoorFault is source h = absurd h.ends.puts
  cause_of_dumping command app w put (exits.LineRefused event_fault) is source h = absurd h.ends.puts
  cause_of_dumping command app w put (exits.SessionsRefused line) is source h = absurd h.ends.puts

  -- The cause of an end after the audit was aimed, if a door is served.
  cause_of_aimed : (serving : ServeArgs) (app : Application) (sessions : List Session) (out audit : List ℕ) (exit_reason : ExitReason)
      → command_of words ≡ Some (commands.Serve serving) → HasApplication seen (commands.Serve serving) app
      → EndsAimed line (sinks_of seen) app sessions serving door (held_of seen counts) (Err exit_reason) out audit → ComesFor seen door words (status_of exit_reason)
  cause_of_aimed serving app sessions out audit exits.WriteFault is had (inl h) = inr h.0
  cause_of_aimed serving app sessions out audit exits.WriteFault is had (inr h) = a_connection_failed line _ (sinks_of seen) _ _ _ out audit h.1.ends.ends
  cause_of_aimed serving app sessions out audit exits.Memory is had h = tt
  cause_of_aimed serving app sessions out audit exits.StoreFault is had h = h.1.0
  cause_of_aimed serving app sessions out audit exits.DoorFault is had h = h.1.ends.0
  cause_of_aimed serving app sessions out audit (exits.OtherStore stored wanted) is had h =
      (commands.Serve serving, is, (app, had, (stored, subst (λ (text : List ℕ). IsOther seen.keeper stored text) h.1.0 h.1.1)))
  cause_of_aimed serving app sessions out audit (exits.ReadFault role) is had h = absurd h.1.ends.ends
  cause_of_aimed serving app sessions out audit (exits.TooLong role) is had h = absurd h.1.ends.ends
  cause_of_aimed serving app sessions out audit (exits.AppRefused text) is had h = absurd h.1.ends.ends
  cause_of_aimed serving app sessions out audit (exits.NewRefused text) is had h = absurd h.1.ends.ends
  cause_of_aimed serving app sessions out audit (exits.UpgradeRefused text) is had h = absurd h.1.ends.ends
  cause_of_aimed serving app sessions out audit (exits.LineRefused event_fault) is had h = absurd h.1.ends.ends
  cause_of_aimed serving app sessions out audit (exits.SessionsRefused n) is had h = absurd h.1.ends.ends

  -- The causes for which an upgrade ends.
  caused_so : (exit_reason cause : ExitReason) → ◌≡◌ {A = Result (Unit {0}) ExitReason} (Err exit_reason) (Err cause) → ComesFor seen door words (status_of cause) → ComesFor seen door words (status_of exit_reason)
  caused_so exit_reason cause same h = subst (λ (e : ExitReason). ComesFor seen door words (status_of e)) (sym (same_exit_reason exit_reason cause same)) h

  cause_of_attaching : (command : Command) (old : Application) (exit_reason : ExitReason)
      → command_of words ≡ Some command → Sources seen command old → AttachesAs (db_of command) old seen.keeper (Err exit_reason) → ComesFor seen door words (status_of exit_reason)
  cause_of_attaching command old exits.StoreFault is source h = h.0
  cause_of_attaching command old (exits.OtherStore stored wanted) is source h =
      (command, is, (old, source, (stored, subst (λ (text : List ℕ). IsOther seen.keeper stored text) h.0 h.1)))
  cause_of_attaching command old exits.Memory is source h = tt
  cause_of_attaching command old (exits.ReadFault role) is source h = absurd h
  cause_of_attaching command old (exits.TooLong role) is source h = absurd h
  cause_of_attaching command old (exits.AppRefused line) is source h = absurd h
  cause_of_attaching command old (exits.NewRefused line) is source h = absurd h
  cause_of_attaching command old (exits.UpgradeRefused line) is source h = absurd h
  cause_of_attaching command old exits.DoorFault is source h = absurd h
  cause_of_attaching command old exits.WriteFault is source h = absurd h
  cause_of_attaching command old (exits.LineRefused event_fault) is source h = absurd h
  cause_of_attaching command old (exits.SessionsRefused line) is source h = absurd h

  cause_of_kept : (exit_reason : ExitReason) (k : Span KeeperSeen) (put : List ℕ) → (Rose k.before.faults k.after.faults → Rose seen.keeper.before.faults seen.keeper.after.faults)
      → IsKept k (Err exit_reason) put → ComesFor seen door words (status_of exit_reason)
  cause_of_kept exit_reason k put rose h = elim h.ended [ inl e ↦ caused_so exit_reason exits.StoreFault e.0 (rose e.1) | inr e ↦ caused_so exit_reason exits.Memory e tt ]

  cause_of_reshaping : (old new : Application) (k : Span KeeperSeen) (put : List ℕ) (exit_reason : ExitReason)
      → (Rose k.before.faults k.after.faults → Rose seen.keeper.before.faults seen.keeper.after.faults) → EndsReshaping old new seen.out k (Err exit_reason) put → ComesFor seen door words (status_of exit_reason)
  cause_of_reshaping old new k put exit_reason rose (inl h) = cause_of_text (upgraded_line h.count) put exit_reason h.puts
  cause_of_reshaping old new k put exit_reason rose (inr h) = cause_of_kept exit_reason k put rose h

  cause_of_moving : (command : Command) (old new : Application) (put : List ℕ) (exit_reason : ExitReason)
      → command_of words ≡ Some command → Sources seen command old → EndsMoving (db_of command) old new seen.out seen.keeper (Err exit_reason) put → ComesFor seen door words (status_of exit_reason)
  cause_of_moving command old new put exit_reason is source (inl h) = caused_so exit_reason h.exit_reason h.ended (cause_of_attaching command old h.exit_reason is source h.attaches)
  cause_of_moving command old new put exit_reason is source (inr h) =
      cause_of_reshaping old new (span h.opened seen.keeper.after) put exit_reason (λ rose. Rose-widen _ _ _ _ h.attached.0.later (omega arith) rose) h.ends

  -- The causes for which a `why` ends.
  cause_of_explained : (app : Application) (viewer : Option ℕ) (k : Span KeeperSeen) (put : List ℕ) (exit_reason : ExitReason)
      → (Rose k.before.faults k.after.faults → Rose seen.keeper.before.faults seen.keeper.after.faults) → EndsExplained app viewer seen.out k (Err exit_reason) put → ComesFor seen door words (status_of exit_reason)
  cause_of_explained app viewer k put exit_reason rose (inl h) = cause_of_text h.text put exit_reason h.puts
  cause_of_explained app viewer k put exit_reason rose (inr h) = cause_of_kept exit_reason k put rose h

  cause_of_explaining : (command : Command) (app : Application) (viewer : Option ℕ) (put : List ℕ) (exit_reason : ExitReason)
      → command_of words ≡ Some command → Sources seen command app → EndsExplaining (db_of command) app viewer seen.out seen.keeper (Err exit_reason) put → ComesFor seen door words (status_of exit_reason)
  cause_of_explaining command app viewer put exit_reason is source (inl h) = caused_so exit_reason h.exit_reason h.ended (cause_of_attaching command app h.exit_reason is source h.attaches)
  cause_of_explaining command app viewer put exit_reason is source (inr h) =
      cause_of_explained app viewer (span h.opened seen.keeper.after) put exit_reason (λ rose. Rose-widen _ _ _ _ h.attached.0.later (omega arith) rose) h.ends

  cause_of_lacking : (upgrading : UpgradeArgs) (old new : Application) (put : List ℕ) (exit_reason : ExitReason)
      → command_of words ≡ Some (commands.Upgrade upgrading) → HasApplication seen (commands.Upgrade upgrading) old → HasNext seen (commands.Upgrade upgrading) new
      → IsLacking old new seen.keeper (Err exit_reason) put → ComesFor seen door words (status_of exit_reason)
  cause_of_lacking upgrading old new put exit_reason is had next h = elim h.told [
    | inl told ↦ caused_so exit_reason (exits.UpgradeRefused (lack_line old.models h.fault)) told (upgrading, is, (old, had, (new, next, (h.fault, h.lacks))))
    | inr memory ↦ caused_so exit_reason exits.Memory memory tt
  ]

  cause_of_upgrading : (upgrading : UpgradeArgs) (old new : Application) (put : List ℕ) (exit_reason : ExitReason)
      → command_of words ≡ Some (commands.Upgrade upgrading) → HasApplication seen (commands.Upgrade upgrading) old → HasNext seen (commands.Upgrade upgrading) new
      → EndsUpgrading (Some upgrading.db) old new seen.out seen.keeper (Err exit_reason) put → ComesFor seen door words (status_of exit_reason)
  cause_of_upgrading upgrading old new put exit_reason is had next (inl h) = cause_of_lacking upgrading old new put exit_reason is had next h
  cause_of_upgrading upgrading old new put exit_reason is had next (inr h) = cause_of_moving (commands.Upgrade upgrading) old new put exit_reason is had h.1

  cause_of_exit_reason : (command : Command) (out audit : List ℕ) (exit_reason : ExitReason)
      → command_of words ≡ Some command → Ends line seen door counts command (Err exit_reason) out audit → ComesFor seen door words (status_of exit_reason)
  cause_of_exit_reason (commands.Check app) out audit exit_reason is (inl h, uncalled, unsplit) = cause_of_opening (commands.Check app) exit_reason (λ bytes read. read) (λ there bytes read. absurd (none_there there)) is h.0
  cause_of_exit_reason (commands.Check app) out audit exit_reason is (inr h, uncalled, unsplit) = cause_of_text (checked_text h.app) out exit_reason h.text
  cause_of_exit_reason (commands.Replay replay) out audit exit_reason is (inl h, uncalled) = cause_of_opening (commands.Replay replay) exit_reason (λ bytes read. read) (λ there bytes read. absurd (none_there there)) is h.0.0
  cause_of_exit_reason (commands.Replay replay) out audit exit_reason is (inr h, uncalled) =
      cause_of_serving (commands.Replay replay) h.app h.sessions h.events out audit exit_reason (λ had. had) is h.opened h.ends
  cause_of_exit_reason (commands.Serve serving) out audit exit_reason is (inl h) = cause_of_opening (commands.Serve serving) exit_reason (λ bytes read. read) (λ there bytes read. absurd (none_there there)) is h.0.0
  cause_of_exit_reason (commands.Serve serving) out audit exit_reason is (inr h) = cause_of_aimed serving h.app h.sessions out audit exit_reason is h.application h.ends
  cause_of_exit_reason (commands.Demo n) out audit exit_reason is (inl h, uncalled) = cause_of_uncounted n out audit exit_reason is h.0
  cause_of_exit_reason (commands.Demo n) out audit exit_reason is (inr h, uncalled) = cause_of_counting n h.app out audit exit_reason is h.calendar h.ends
  cause_of_exit_reason (commands.Dump dumping) out audit exit_reason is (inl h, uncalled, unsplit) = cause_of_opening (commands.Dump dumping) exit_reason (λ bytes read. read) (λ there bytes read. absurd (none_there there)) is h.0
  cause_of_exit_reason (commands.Dump dumping) out audit exit_reason is (inr h, uncalled, unsplit) =
      cause_of_dumping (commands.Dump dumping) h.app (shown_by dumping.labels) out exit_reason is h.application h.ends
  cause_of_exit_reason (commands.Upgrade upgrading) out audit exit_reason is (inl h, uncalled) =
      cause_of_opening (commands.Upgrade upgrading) exit_reason (λ bytes read. inl read) (λ there bytes read. inr read) is h.0
  cause_of_exit_reason (commands.Why explaining) out audit exit_reason is (inl h, uncalled, unsplit) =
      cause_of_opening (commands.Why explaining) exit_reason (λ bytes read. read) (λ there bytes read. absurd (none_there there)) is h.0
  cause_of_exit_reason (commands.Why explaining) out audit exit_reason is (inr h, uncalled, unsplit) =
      cause_of_explaining (commands.Why explaining) h.app (asker_in (commands.Why explaining) h.app) out exit_reason is h.application h.ends
  cause_of_exit_reason (commands.Upgrade upgrading) out audit exit_reason is (inr h, uncalled) = cause_of_upgrading upgrading h.old h.new out exit_reason is h.application h.next h.ends

-- The cause after the line of the status was put.
module _ {L : Type 0} (line : L → LinkSeen) (seen : Sight) (door : Span (DoorSeen L)) (counts : Span RunCounts) (words : List (List ℕ)) where
  cause_of_finish : (standing : SinkSeen) → seen.out.before.faults ≤ standing.faults → standing.faults ≤ seen.out.after.faults
      → (command : Command) (out audit : List ℕ) (ended : Result (Unit {0}) ExitReason) (last : List ℕ) (answer : Status)
      → command_of words ≡ Some command → Ends line (standing_at seen standing) door counts command ended out audit
      → Finishes (span standing seen.out.after) command ended last answer → ComesFor seen door words answer
  cause_of_finish standing earlier later command out audit (Ok done) last answer is ends h = subst (λ (s : Status). ComesFor seen door words s) (sym h.1) (command, is)
  cause_of_finish standing earlier later command out audit (Err exit_reason) last answer is ends h =
      cause_of_closing line seen door counts words (span standing seen.out.after) (λ rose. Rose-widen _ _ _ _ earlier (omega arith) rose)
      (fault_line command exit_reason) (status_of exit_reason) last answer
      (comes_later (standing_at seen standing) seen.out.after later door words (status_of exit_reason)
      (cause_of_exit_reason line (standing_at seen standing) door counts words command out audit exit_reason is ends)) h

  -- Each status has its cause.
  pub comes_for : (answer : Status) (out audit : List ℕ) → Runs line seen door counts words answer out audit → ComesFor seen door words answer
  comes_for answer out audit (inl r) =
      cause_of_finish r.standing r.earlier r.later r.command r.served audit r.ended r.last answer r.is_command r.ends r.finishes
  comes_for answer out audit (inr (inl r)) =
      cause_of_closing line seen door counts words seen.out (λ rose. rose) usage_line statuses.Usage out answer r.no_command r.closes
  comes_for answer out audit (inr (inr r)) =
      cause_of_closing line seen door counts words seen.out (λ rose. rose) _ statuses.Memory out answer tt r.closes

-- The stored schema is known to differ.
not_other : (stored wanted : List ℕ) (schema : Option (List ℕ)) → schema ≡ Some stored → (schema ≡ None) ⊎ (schema ≡ Some wanted) → ¬ (stored ≡ wanted) → ⊥
not_other stored wanted schema is (inl none) differs = let bad = sym is ∙ none in cc
not_other stored wanted schema is (inr some) differs = differs (some_same _ _ (sym is ∙ some))

-- If the store can be attached, the status isn't one of the store.
pub is_attached_so : {L : Type 0} (seen : Sight) (door : Span (DoorSeen L)) (words : List (List ℕ)) (status : Status) → ComesFor seen door words status
    → CanAttach seen words → ¬ (status ≡ statuses.StoreFault) × ¬ (status ≡ statuses.OtherStore)
is_attached_so seen door words status cause can = (
  λ is. can.no_fault (subst (λ (s : Status). ComesFor seen door words s) is cause),
  λ is.
      let h = subst (λ (s : Status). ComesFor seen door words s) is cause in
      not_other h.2.2.0 (schema_text h.2.0) seen.keeper.before.store.schema (h.2.2.1.told can.told) (can.schema h.0 h.1 h.2.0 h.2.1) h.2.2.1.differs,
)
