-- What a serve answered, by the contract of the top call, and two serves.
use Rattle.std.proofs.Common.{◌≡◌, ◌∙◌, ap, sym, subst, refl, inl, inr, ℕ, Bool, Result, Ok, Err, Option, Some, None, List, ◌++◌, append-nil, map}
use Rattle.jac_io.specs.Seen.{SinkSeen}
use Rattle.jac_world.specs.World.{shown_by}
use Rattle.jac_lang.specs.Syntax.{Application}
use Rattle.jac_rows.specs.Project.{project_at}
use Rattle.jac_rows.specs.declared.state.State.{State}
use Rattle.jac_app_load.specs.Application.{IsApplication}
use Rattle.jac_app_text_laws.proofs.OneSpelled.{one_spelled}
use Rattle.jac_route.specs.declared.sessions.Session.{Session}
use Rattle.jac_connections.specs.Door.{LinkVisit, AreVisited, open_visits}
use Rattle.jac_serve_events.specs.RunSeen.{RunSeen, run_seen_of, run_seen_with}
use Rattle.jac_serve_events.specs.Outside.{span, Took}
use Rattle.jac_cli.specs.declared.words.Command.{Command}
use Rattle.jac_cli.specs.declared.words.Command.TheVariants as commands
use Rattle.jac_cli.specs.declared.words.ServeArgs.{ServeArgs}
use Rattle.jac_cli.specs.Words.{command_of}
use Rattle.jac_command_base.specs.declared.exit_reason.ExitReason.{ExitReason}
use Rattle.jac_command_base.specs.declared.status.Status.TheVariants as statuses
use Rattle.jac_command_base.specs.ExitReason.{status_of, Finishes}
use Rattle.jac_command_base.specs.Files.{standing_at, sinks_of}
use Rattle.jac_dispatch.specs.Answered.{answer_spec_of}
use Rattle.jac_app.specs.Held.{held_of}
use Rattle.jac_app.specs.Server.{IsServedAt, IsServer, EndsServer}
use Rattle.jac_app.specs.Run.{Ends, Runs}
use Rattle.jac_noninterference.specs.TwoRuns.{LookSame, NoneFailed}
use Rattle.jac_run_laws.specs.Replayed.{TopRun, IsTopRun, IsToldToEnd, HoldSessions, TellsNoFailure, TellsPage, HaveSmallLabels, counts_of}
use Rattle.jac_run_laws.specs.Doors.{HoldServing, HasServed, AreTakenAlike, HoldSameMore}
use Rattle.jac_command_base.proofs.DoneLemmas.{not_done, no_usage, no_memory, closes_not_done}
use Rattle.jac_run_laws.proofs.Replays.{same_command, sessions_held}
use Rattle.jac_run_laws.proofs.SameReplays.{AreSameFiles, same_bytes, one_sessions}
use Rattle.jac_run_laws.proofs.AuditLines.{none_failed, looks_same, labels_by_text}
use Rattle.jac_run_laws.proofs.DoorLinks.{AreLinksAlike, links_agree, links_hold}

all_returned : {L : Type 0} (visits : List (LinkVisit L)) (last : Option (LinkVisit L)) → last ≡ None → visits ++ open_visits last ≡ visits
all_returned visits last none = ap (λ o. visits ++ open_visits o) none ∙ append-nil visits

-- `standing` is the output when the steps ended.
module _ {L : Type 0} (serving : ServeArgs) (top : TopRun L) (standing : SinkSeen) (told : IsToldToEnd top) (out audit : List ℕ) (audit_took : Took top.seen.audit audit) where
  door_served : (app : Application) (sessions : List Session) (files : HoldServing top.seen.files.before.file serving app sessions)
      → IsServedAt top.line app sessions serving top.door (held_of top.seen (counts_of top)) (Ok tt) (sinks_of (standing_at top.seen standing)) out audit
      → HasServed serving top
  door_served app sessions files on =
      let links = on.ends.ends.1 in
      let all : links.visits ++ open_visits links.last ≡ links.visits = all_returned links.visits links.last links.ended.0 in
      record {
        app = app;
        sessions = sessions;
        start = on.opened.state;
        visits = links.visits;
        log = links.log;
        audit = audit;
        held = files;
        door_served = record {
          opened = on.opened;
          left = on.left;
          attached = on.attached;
          starts = refl;
          came = λ tells. subst (λ (vs : List (LinkVisit L)). top.door.before.coming ≡ map (λ (v : LinkVisit L). v.came) vs ++ top.door.after.coming) all (links.came tells);
          returned = links.returned;
          visited =
              subst
              (λ (vs : List (LinkVisit L)). AreVisited top.line (answer_spec_of serving.lazy app sessions) 1 0
              (run_seen_of on.opened (counts_of top).before) vs links.log audit (run_seen_with top.seen.keeper.after (counts_of top).after on.left))
              all links.visited;
          audit_is = links.audit_text;
          audit_took = audit_took;
        };
      }

  server_served : IsServer top.line (standing_at top.seen standing) top.door (counts_of top) serving (Ok tt) out audit → HasServed serving top
  server_served s =
      door_served s.app s.sessions
      (record {
        app_bytes = s.application.bytes;
        app_file = s.application.read.told told.files;
        spelled = s.application.spelled;
        sessions_held = sessions_held top.seen.files serving.sessions s.sessions told.files s.sessions_had;
      })
      s.ends.1

  ends_served : EndsServer top.line (standing_at top.seen standing) top.door (counts_of top) serving (Ok tt) out audit → HasServed serving top
  ends_served (inl early) = absurd early.0
  ends_served (inr s) = server_served s

module _ {L : Type 0} (words : List (List ℕ)) (serving : ServeArgs) (top : TopRun L) (is_serve : command_of words ≡ Some (commands.Serve serving)) (told : IsToldToEnd top) (out audit : List ℕ) (audit_took : Took top.seen.audit audit) where
  served_so : (command : Command) (ended : Result (Unit {0}) ExitReason) (standing : SinkSeen) (served last : List ℕ)
      → command ≡ commands.Serve serving
      → Ends top.line (standing_at top.seen standing) top.door (counts_of top) command ended served audit
      → Finishes (span standing top.seen.out.after) command ended last top.status → HasServed serving top
  served_so command (Ok tt) standing served last same ends finishes =
      ends_served serving top standing told served audit audit_took
      (subst (λ (c : Command). Ends top.line (standing_at top.seen standing) top.door (counts_of top) c (Ok tt) served audit) same ends)
  served_so command (Err exit_reason) standing served last same ends finishes =
      absurd (closes_not_done (span standing top.seen.out.after) _ last (status_of exit_reason) top.status (not_done exit_reason) finishes told.done)

  served_ran : Runs top.line top.seen top.door (counts_of top) words top.status out audit → HasServed serving top
  served_ran (inl r) = served_so r.command r.ended r.standing r.served r.last (same_command r.command (commands.Serve serving) (sym r.is_command ∙ is_serve)) r.ends r.finishes
  served_ran (inr (inl r)) = absurd (closes_not_done top.seen.out _ out statuses.Usage top.status no_usage r.closes told.done)
  served_ran (inr (inr r)) = absurd (closes_not_done top.seen.out _ out statuses.Memory top.status no_memory r.closes told.done)

pub has_served : {L : Type 0} (words : List (List ℕ)) (serving : ServeArgs) (top : TopRun L) → IsTopRun words top
    → command_of words ≡ Some (commands.Serve serving) → IsToldToEnd top → HasServed serving top
has_served words serving top ran is_serve told =
    served_ran words serving top is_serve told ran.ran.out ran.ran.audit ran.ran.audit_took ran.ran.holds

-- ---- two serves

one_application : (file other : List ℕ → Option (List ℕ)) (serving : ServeArgs) (app app' : Application) (sessions sessions' : List Session) → AreSameFiles file other
    → HoldServing file serving app sessions → HoldServing other serving app' sessions' → app ≡ app'
one_application file other serving app app' sessions sessions' same held held' =
    let text = same_bytes held.app_bytes held'.app_bytes (file serving.app) held.app_file (same serving.app ∙ held'.app_file) in
    one_spelled held'.app_bytes app app' (subst (λ (b : List ℕ). IsApplication b app) text held.spelled) held'.spelled

same_sessions : (file other : List ℕ → Option (List ℕ)) (serving : ServeArgs) (app app' : Application) (sessions sessions' : List Session) → AreSameFiles file other
    → HoldServing file serving app sessions → HoldServing other serving app' sessions' → sessions ≡ sessions'
same_sessions file other serving app app' sessions sessions' same held held' =
    let path : file ≡ other = λ i name. same name i in
    one_sessions file serving.sessions sessions sessions' held.sessions_held
    (subst (λ (f : List ℕ → Option (List ℕ)). HoldSessions f serving.sessions sessions') (sym path) held'.sessions_held)

module _ {L M : Type 0} (serving : ServeArgs) (one : TopRun L) (two : TopRun M) (first : HasServed serving one) (second : HasServed serving two) (files : AreSameFiles one.seen.files.before.file two.seen.files.before.file) where
  abbrev opened : RunSeen
  opened = run_seen_of first.door_served.opened (counts_of one).before

  abbrev opened' : RunSeen
  opened' = run_seen_of second.door_served.opened (counts_of two).before

  abbrev left : RunSeen
  left = run_seen_with one.seen.keeper.after (counts_of one).after first.door_served.left

  abbrev left' : RunSeen
  left' = run_seen_with two.seen.keeper.after (counts_of two).after second.door_served.left

  -- The second serve served the application and the sessions of the first.
  there : AreVisited two.line (answer_spec_of serving.lazy first.app first.sessions) 1 0 opened' second.visits second.log second.audit left'
  there =
      let app = one_application one.seen.files.before.file two.seen.files.before.file serving first.app second.app first.sessions second.sessions files first.held second.held in
      let sessions = same_sessions one.seen.files.before.file two.seen.files.before.file serving first.app second.app first.sessions second.sessions files first.held second.held in
      let visited =
      subst
      (λ (a : Application). AreVisited two.line (answer_spec_of serving.lazy a second.sessions) 1 0 opened' second.visits second.log second.audit left')
      (sym app) second.door_served.visited in
      subst
      (λ (z : List Session). AreVisited two.line (answer_spec_of serving.lazy first.app z) 1 0 opened' second.visits second.log second.audit left')
      (sym sessions) visited

  still : (w : ℕ → Bool) → LookSame w first.start second.start → LookSame w first.door_served.opened.state second.door_served.opened.state
  still w look = sym (ap (λ (x : State). project_at w x) first.door_served.starts) ∙ look ∙ ap (λ (x : State). project_at w x) second.door_served.starts

  pub serves_alike : IsToldToEnd one → IsToldToEnd two → AreTakenAlike one.line two.line first.visits second.visits → NoneFailed first.log → NoneFailed second.log
      → AreLinksAlike first.start second.start left left' first.log second.log
  serves_alike told told' taken none none' =
      links_agree one.line two.line serving.lazy first.app first.sessions first.start second.start 1 0 0 opened opened' left left'
      first.visits second.visits first.log second.log first.audit second.audit first.door_served.visited there told.keeper told'.keeper taken none none' still

  pub serve_bytes_agree : IsToldToEnd one → IsToldToEnd two → AreTakenAlike one.line two.line first.visits second.visits → first.audit ≡ second.audit → TellsNoFailure first.audit
      → ((labels : List ℕ) → TellsPage first.audit labels → LookSame (shown_by labels) first.start second.start)
      → HaveSmallLabels first.log → HaveSmallLabels second.log → HoldSameMore one.line two.line first.visits second.visits
  serve_bytes_agree told told' taken same quiet look small small' =
      let lines = first.door_served.audit_is in
      let lines' = second.door_served.audit_is in
      let none = none_failed first.log (subst TellsNoFailure lines quiet) in
      let none' = none_failed second.log (subst TellsNoFailure (same ∙ lines') quiet) in
      let labels = labels_by_text 1 first.log second.log (sym lines ∙ same ∙ lines') small small' in
      let looks = looks_same first.start second.start first.log (λ labels tells. look labels (subst (λ (a : List ℕ). TellsPage a labels) (sym lines) tells)) in
      links_hold one.line two.line serving.lazy first.app first.sessions first.start second.start 1 0 0 opened opened' left left'
      first.visits second.visits first.log second.log first.audit second.audit first.door_served.visited there told.keeper told'.keeper taken none none' labels looks still
