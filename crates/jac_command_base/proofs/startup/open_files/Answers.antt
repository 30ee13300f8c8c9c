use Rattle.std.specs.Prelude.{option_to_list}
use Rattle.std.proofs.Common.{List, ℕ, [], ◌∷◌, ◌++◌}
use Rattle.jac_lang.specs.Mirror.{application_of}
use Rattle.jac_cli.specs.declared.role.Role.TheVariants as roles
use Rattle.jac_cli.specs.Commands.{file_of, name_of}
use Rattle.jac_serve_events.specs.Outside.{span}
use Rattle.jac_command_base.specs.Files.{files_of}
use Rattle.jac_command_base.specs.Startup.{command_in, sight_of}
use Rattle.jac_command_base.proofs.AskedLemmas.{asked_in_order, asked_then, asks_all, files_in_order}
use Rattle.jac_command_base.proofs.ExitReasonLemmas.{sessionless_ends, sessions_within}
use Rattle.jac_command_base.proofs.StartupLemmas.{appless_ends, eventless_ends, events_within, files_last, files_then, spelled_application, spelled_within, within_between}
use Rattle.jac_command_base.proofs.startup.open_files.Goals as goal

pub returns-in-Err-clause-asks : goal.returns-in-Err-clause-asks
returns-in-Err-clause-asks g c =
    let command = command_in c.args.opening in
    record {
      front = name_of command roles.App ∷ [];
      rest = option_to_list (file_of command roles.Sessions) ++ option_to_list (file_of command roles.Events);
      parts = files_in_order c.args.opening;
      asked = rw c.app_file.ensures at c.in-Err.ensures.asked;
      all = λ no. cc;
    }

pub returns-in-Err-read_sessions-clause-asks : goal.returns-in-Err-read_sessions-clause-asks
returns-in-Err-read_sessions-clause-asks g c =
    let F = g.F.Files in
    let command = command_in c.args.opening in
    let sessions : List (List ℕ) = option_to_list (file_of command roles.Sessions) in
    record {
      front = name_of command roles.App ∷ sessions;
      rest = option_to_list (file_of command roles.Events);
      parts = files_in_order c.args.opening;
      asked = asked_then (F.seen c.args.files.now).asked (F.seen c.read_app.new.files).asked (F.seen c.read_sessions.new.files).asked (name_of command roles.App ∷ []) sessions
          (rw c.app_file.ensures at c.in-Ok.ensures.asked) (rw c.sessions_file.ensures at c.in-Err-read_sessions.ensures.asked);
      all = λ no. cc;
    }

pub returns-in-Err-read_events-clause-asks : goal.returns-in-Err-read_events-clause-asks
returns-in-Err-read_events-clause-asks g c =
    let F = g.F.Files in
    let a = F.seen c.args.files.now in
    let b = F.seen c.read_app.new.files in
    let d = F.seen c.read_sessions.new.files in
    let e = F.seen c.read_events.new.files in
    asks_all a e (files_of (command_in c.args.opening)) _ (asked_in_order c.args.opening a.asked b.asked d.asked e.asked
    (rw c.app_file.ensures at c.in-Ok.ensures.asked) (rw c.sessions_file.ensures at c.in-Ok-read_sessions.ensures.asked) (rw c.events_file.ensures at c.in-Err-read_events.ensures.asked))

pub returns-clause-asks : goal.returns-clause-asks
returns-clause-asks g c =
    let F = g.F.Files in
    let a = F.seen c.args.files.now in
    let b = F.seen c.read_app.new.files in
    let d = F.seen c.read_sessions.new.files in
    let e = F.seen c.read_events.new.files in
    asks_all a e (files_of (command_in c.args.opening)) _ (asked_in_order c.args.opening a.asked b.asked d.asked e.asked
    (rw c.app_file.ensures at c.in-Ok.ensures.asked) (rw c.sessions_file.ensures at c.in-Ok-read_sessions.ensures.asked) (rw c.events_file.ensures at c.in-Ok-read_events.ensures.asked))

pub returns-in-Err-clause-ends : goal.returns-in-Err-clause-ends
returns-in-Err-clause-ends g c = λ out audit keeper.
    let F = g.F.Files in
    let a = F.seen c.args.files.now in
    let b = F.seen c.read_app.new.files in
    appless_ends (sight_of (span a b) out audit keeper) (command_in c.args.opening) (span a b) c.in-Err.exit_reason
    (within_between a a b b (files_last a) c.in-Err.ensures.lasts (files_last b))
    (rw c.app_file.ensures at c.in-Err.ensures.appless)

pub returns-in-Err-read_sessions-clause-ends : goal.returns-in-Err-read_sessions-clause-ends
returns-in-Err-read_sessions-clause-ends g c = λ out audit keeper.
    let F = g.F.Files in
    let command = command_in c.args.opening in
    let app = application_of c.in-Ok.service in
    let a = F.seen c.args.files.now in
    let b = F.seen c.read_app.new.files in
    let d = F.seen c.read_sessions.new.files in
    let one = c.in-Ok.ensures.lasts in
    let two = c.in-Err-read_sessions.ensures.lasts in
    let seen = sight_of (span a d) out audit keeper in
    sessionless_ends seen command (span b d) c.in-Err-read_sessions.exit_reason (
      app,
      spelled_application seen command app
          (spelled_within (span a d) (span a b) (within_between a a b d (files_last a) one two) (name_of command roles.App) app (rw c.app_file.ensures at c.in-Ok.ensures.spelled)),
    )
    (within_between a b d d one two (files_last d))
    (rw c.sessions_file.ensures at c.in-Err-read_sessions.ensures.sessionless)

pub returns-in-Err-read_events-clause-ends : goal.returns-in-Err-read_events-clause-ends
returns-in-Err-read_events-clause-ends g c = λ out audit keeper.
    let F = g.F.Files in
    let command = command_in c.args.opening in
    let app = application_of c.in-Ok.service in
    let sessions = c.in-Ok-read_sessions.sessions in
    let a = F.seen c.args.files.now in
    let b = F.seen c.read_app.new.files in
    let d = F.seen c.read_sessions.new.files in
    let e = F.seen c.read_events.new.files in
    let one = c.in-Ok.ensures.lasts in
    let two = c.in-Ok-read_sessions.ensures.lasts in
    let three = c.in-Err-read_events.ensures.lasts in
    let seen = sight_of (span a e) out audit keeper in
    eventless_ends seen command (span d e) c.in-Err-read_events.exit_reason (
      app,
      spelled_application seen command app
          (spelled_within (span a e) (span a b) (within_between a a b e (files_last a) one (files_then b d e two three)) (name_of command roles.App) app
          (rw c.app_file.ensures at c.in-Ok.ensures.spelled)),
    ) (
      sessions,
      sessions_within (span a e) (span b d) (within_between a b d e one two three) (file_of command roles.Sessions) sessions (rw c.sessions_file.ensures at c.in-Ok-read_sessions.ensures.had),
    )
    (within_between a d e e (files_then a b d one two) three (files_last e))
    (rw c.events_file.ensures at c.in-Err-read_events.ensures.eventless)

pub returns-clause-read : goal.returns-clause-read
returns-clause-read g c =
    let F = g.F.Files in
    let command = command_in c.args.opening in
    let app = application_of c.in-Ok.service in
    let sessions = c.in-Ok-read_sessions.sessions in
    let events = c.in-Ok-read_events.events in
    let a = F.seen c.args.files.now in
    let b = F.seen c.read_app.new.files in
    let d = F.seen c.read_sessions.new.files in
    let e = F.seen c.read_events.new.files in
    let one = c.in-Ok.ensures.lasts in
    let two = c.in-Ok-read_sessions.ensures.lasts in
    let three = c.in-Ok-read_events.ensures.lasts in
    record {
      application = spelled_within (span a e) (span a b) (within_between a a b e (files_last a) one (files_then b d e two three)) (name_of command roles.App) app
          (rw c.app_file.ensures at c.in-Ok.ensures.spelled);
      sessions_had = sessions_within (span a e) (span b d) (within_between a b d e one two three) (file_of command roles.Sessions) sessions
          (rw c.sessions_file.ensures at c.in-Ok-read_sessions.ensures.had);
      events_had = events_within (span a e) (span d e) (within_between a d e e (files_then a b d one two) three (files_last e)) (file_of command roles.Events) events
          (rw c.events_file.ensures at c.in-Ok-read_events.ensures.had);
    }
