-- How the steps of `serve` end.
use Rattle.std.proofs.Common.{◌≡◌, ◌∙◌, ◌⊎◌, ap, sym, subst, refl, Bool, ℕ, inl, inr, IsTrue, Result, Ok, Err, Option, List, [], ◌++◌, append-nil, map, arith}
use Rattle.jac_io.specs.Linked.{LinkSeen, DoorSeen, DoorLasts, Listens}
use Rattle.jac_io.specs.Seen.{FilesSeen, SinkSeen, Aims}
use Rattle.jac_io.specs.declared.sink.Failed.{Failed}
use Rattle.jac_lang.specs.Syntax.{Application}
use Rattle.jac_keep.specs.KeeperSeen.{KeeperSeen}
use Rattle.jac_route.specs.declared.sessions.Session.{Session}
use Rattle.jac_cli.specs.declared.words.Command.TheVariants as commands
use Rattle.jac_cli.specs.declared.words.ServeArgs.{ServeArgs}
use Rattle.jac_connections.specs.declared.door.DoorHalt.{DoorHalt}
use Rattle.jac_connections.specs.declared.door.DoorHalt.TheVariants as halts
use Rattle.jac_connections.specs.declared.door.Tally.{Tally}
use Rattle.jac_command_base.specs.declared.exit_reason.ExitReason.{ExitReason}
use Rattle.jac_command_base.specs.declared.exit_reason.ExitReason.TheVariants as exits
use Rattle.jac_dispatch.specs.Answered.{answer_spec_of}
use Rattle.jac_serve_events.specs.Outside.{Span, span, Sinks, sinks, IsPut, WentWith, WentTo, WentAimed, HasFaulted, AWriteFailed}
use Rattle.jac_command_base.specs.Files.{Sight, sinks_of, HasApplication, HasSessions, IsAimed}
use Rattle.jac_command_base.specs.Attached.{AttachesAs}
use Rattle.jac_command_base.specs.Early.{IsEndedEarly}
use Rattle.jac_command_base.specs.Startup.{sight_of, AreFilesRead, EndsAim, HasBegun, IsBarred, IsHalted, IsStoppedAiming}
use Rattle.jac_connections.specs.Door.{LinkVisit, open_visits, IsEnding, AreHandedBack, AreAllHandedBack, AreReturned, AreLinksServed}
use Rattle.jac_serve_events.specs.AnswerSpec.{AnswerSpec, LogEntry}
use Rattle.jac_serve_events.specs.RunSeen.{RunCounts, RunSeen, run_seen_of, keepers}
use Rattle.jac_app.specs.Held.{held_of, opened_on}
use Rattle.jac_app.specs.Server.{served_line, exit_reason_of_halt, EndsConnections, IsListenedAt, EndsDoor, EndsDoorLeaving, IsServedAt, EndsAttached, EndsAimed, EndsServer}
use Rattle.jac_serve_events.proofs.OutsideLemmas.{Lasts-none, Took-none, Rose-widen, FailsWithin, fails_behind, Went-none}
use Rattle.jac_command_base.proofs.ExitReasonLemmas.{is_attached, went_aimed, WentAimed-on}
use Rattle.jac_command_base.proofs.StartupLemmas.{application_read, ended_early, idle_behind, memory_early}

module _ {L : Type 0} (line : L → LinkSeen) (x : AnswerSpec) where
  -- The connections were served, and their number was put.
  pub served_told : (most : ℕ) (door : Span (DoorSeen L)) (k : Span RunSeen) (out_before out_after audit_before audit_after : SinkSeen) (tally : Tally) (put done : Unit {0})
      → WentTo (span audit_before audit_after) (AreLinksServed line x most door k (Ok tally)) → IsPut {E = Failed} (span out_before out_after) (served_line tally) (Ok put)
      → WentWith (sinks out_before out_after audit_before audit_after) (EndsConnections line x most door k (Ok done))
  served_told most door k out_before out_after audit_before audit_after tally put done went told = record {
    out = told.put;
    audit = went.put;
    out_lasts = told.lasts;
    audit_lasts = went.lasts;
    out_took = told.took;
    audit_took = went.took;
    holds = (tally, went.holds, told.is_put);
  }

  -- The put of their number failed.
  pub served_torn : (most : ℕ) (door : Span (DoorSeen L)) (k : Span RunSeen) (out_before out_after audit_before audit_after : SinkSeen) (tally : Tally) (failed : Failed)
      → WentTo (span audit_before audit_after) (AreLinksServed line x most door k (Ok tally)) → IsPut {E = Failed} (span out_before out_after) (served_line tally) (Err failed)
      → WentWith (sinks out_before out_after audit_before audit_after) (EndsConnections line x most door k (Err exits.WriteFault))
  served_torn most door k out_before out_after audit_before audit_after tally failed went told = record {
    out = told.put;
    audit = went.put;
    out_lasts = told.lasts;
    audit_lasts = went.lasts;
    out_took = told.took;
    audit_took = went.took;
    holds = inr (tally, went.holds, told.is_put, told.rose);
  }

  halted_as : (most : ℕ) (door : Span (DoorSeen L)) (k : Span RunSeen) (halt : DoorHalt) (s : Sinks) (audit : List ℕ)
      → (◌≡◌ {A = Result Tally DoorHalt} (Err halt) (Err halts.Write) → HasFaulted s.audit) → AreLinksServed line x most door k (Err halt) audit
      → EndsConnections line x most door k (Err (exit_reason_of_halt halt)) s [] audit
  halted_as most door k halts.Door s audit rose h = (h, refl)
  halted_as most door k halts.Write s audit rose h = inl (h, refl, rose refl)
  halted_as most door k halts.Memory s audit rose h = (h, refl)

  -- Serving them ended early.
  pub served_part : (most : ℕ) (door : Span (DoorSeen L)) (k : Span RunSeen) (out audit_before audit_after : SinkSeen) (halt : DoorHalt)
      → (◌≡◌ {A = Result Tally DoorHalt} (Err halt) (Err halts.Write) → HasFaulted (span audit_before audit_after))
      → WentTo (span audit_before audit_after) (AreLinksServed line x most door k (Err halt))
      → WentWith (sinks out out audit_before audit_after) (EndsConnections line x most door k (Err (exit_reason_of_halt halt)))
  served_part most door k out audit_before audit_after halt rose went = record {
    out = [];
    audit = went.put;
    out_lasts = Lasts-none out;
    audit_lasts = went.lasts;
    out_took = Took-none out;
    audit_took = went.took;
    holds = halted_as most door k halt (sinks out out audit_before audit_after) went.put rose went.holds;
  }

  -- A write failed.
  pub a_connection_failed : (s : Sinks) (most : ℕ) (door : Span (DoorSeen L)) (k : Span RunSeen) (out audit : List ℕ)
      → EndsConnections line x most door k (Err exits.WriteFault) s out audit → AWriteFailed s
  a_connection_failed s most door k out audit (inl h) = inr h.2
  a_connection_failed s most door k out audit (inr h) = inl h.3

-- The steps around the connections.
module _ {L : Type 0} (line : L → LinkSeen) (app : Application) (sessions : List Session) where
  -- ---- after the door listens

  module _ (da db dc : DoorSeen L) (serving : ServeArgs) (done : Unit {0}) (heard : Listens da db serving.port (Ok done)) (lasts : DoorLasts db dc) (same_port : IsTrue dc.tells → dc.port ≡ db.port) where
    exit_reason_from : (most : ℕ) (visits : List (LinkVisit L)) (last : Option (LinkVisit L)) (log : List LogEntry) (result : Result Tally DoorHalt)
        → IsEnding most (span db dc) visits last log result → IsEnding most (span da dc) visits last log result
    exit_reason_from most visits last log (Ok tally) h = h
    exit_reason_from most visits last log (Err halts.Door) h = (h.0, Rose-widen da.faults db.faults dc.faults dc.faults heard.lasts.later (omega arith) h.1)
    exit_reason_from most visits last log (Err halts.Write) h = h
    exit_reason_from most visits last log (Err halts.Memory) h = h

    handed_from : (visits : List (LinkVisit L)) → AreHandedBack (span db dc) visits → AreHandedBack (span da dc) visits
    handed_from visits h = λ told. h told ∙ ap (λ (l : List L). l ++ map (λ (visit : LinkVisit L). visit.gone) visits) (heard.same_returned (lasts.told told))

    all_handed_from : (visits : List (LinkVisit L)) (last : Option (LinkVisit L)) → AreAllHandedBack (span db dc) visits last → AreAllHandedBack (span da dc) visits last
    all_handed_from visits last (inl h) = inl (handed_from (visits ++ open_visits last) h)
    all_handed_from visits last (inr (h, rose)) = inr (handed_from visits h, Rose-widen da.faults db.faults dc.faults dc.faults heard.lasts.later (omega arith) rose)

    returned_from : (visits : List (LinkVisit L)) (last : Option (LinkVisit L)) (result : Result Tally DoorHalt)
        → AreReturned (span db dc) visits last result → AreReturned (span da dc) visits last result
    returned_from visits last (Ok tally) h = handed_from visits h
    returned_from visits last (Err halts.Door) h = handed_from visits h
    returned_from visits last (Err halts.Write) h = all_handed_from visits last h
    returned_from visits last (Err halts.Memory) h = all_handed_from visits last h

    links_from : (x : AnswerSpec) (most : ℕ) (k : Span RunSeen) (result : Result Tally DoorHalt) (audit : List ℕ)
        → AreLinksServed line x most (span db dc) k result audit → AreLinksServed line x most (span da dc) k result audit
    links_from x most k result audit s = record {
      visits = s.visits;
      last = s.last;
      log = s.log;
      came = λ told. sym (heard.same_coming (lasts.told told)) ∙ s.came told;
      returned = returned_from s.visits s.last result s.returned;
      visited = s.visited;
      whole = s.whole;
      entries = s.entries;
      audit_text = s.audit_text;
      ended = exit_reason_from most s.visits s.last s.log result s.ended;
    }

    connections_from : (x : AnswerSpec) (most : ℕ) (k : Span RunSeen) (result : Result (Unit {0}) ExitReason) (s : Sinks) (out audit : List ℕ)
        → EndsConnections line x most (span db dc) k result s out audit → EndsConnections line x most (span da dc) k result s out audit
    connections_from x most k (Ok done) s out audit h = (h.0, links_from x most k (Ok h.0) audit h.1, h.2)
    connections_from x most k (Err exits.WriteFault) s out audit (inl h) = inl (links_from x most k (Err halts.Write) audit h.0, h.1, h.2)
    connections_from x most k (Err exits.WriteFault) s out audit (inr h) = inr (h.0, links_from x most k (Ok h.0) audit h.1, h.2, h.3)
    connections_from x most k (Err exits.DoorFault) s out audit h = (links_from x most k (Err halts.Door) audit h.0, h.1)
    connections_from x most k (Err exits.Memory) s out audit h = (links_from x most k (Err halts.Memory) audit h.0, h.1)
    connections_from x most k (Err exits.StoreFault) s out audit h = absurd h
    connections_from x most k (Err (exits.OtherStore stored wanted)) s out audit h = absurd h
    connections_from x most k (Err (exits.ReadFault role)) s out audit h = absurd h
    connections_from x most k (Err (exits.TooLong role)) s out audit h = absurd h
    connections_from x most k (Err (exits.AppRefused text)) s out audit h = absurd h
    connections_from x most k (Err (exits.NewRefused text)) s out audit h = absurd h
    connections_from x most k (Err (exits.UpgradeRefused text)) s out audit h = absurd h
    connections_from x most k (Err (exits.LineRefused event_fault)) s out audit h = absurd h
    connections_from x most k (Err (exits.SessionsRefused n)) s out audit h = absurd h

    -- The dispatcher is lazy if the command says so.
    module _ (lazy : Bool) (same : lazy ≡ serving.lazy) where
      listened : (k : Span RunSeen) (result : Result (Unit {0}) ExitReason) (s : Sinks) (out audit : List ℕ)
          → EndsConnections line (answer_spec_of lazy app sessions) serving.count (span db dc) k result s out audit → IsListenedAt line app sessions serving (span da dc) k result s out audit
      listened k result s out audit h = record {
        listens = λ told. same_port told ∙ heard.ok (lasts.told told);
        ends = subst (λ (is : Bool). EndsConnections line (answer_spec_of is app sessions) serving.count (span da dc) k result s out audit) same
            (connections_from (answer_spec_of lazy app sessions) serving.count k result s out audit h);
      }

      -- The door listened at the port, and the connections were served.
      pub door_ends : (k : Span RunSeen) (result : Result (Unit {0}) ExitReason) (s : Sinks) (out audit : List ℕ)
          → EndsConnections line (answer_spec_of lazy app sessions) serving.count (span db dc) k result s out audit → EndsDoor line app sessions serving (span da dc) k result s out audit
      door_ends k (Ok done) s out audit h = listened k (Ok done) s out audit h
      door_ends k (Err exits.DoorFault) s out audit h =
          let is = listened k (Err exits.DoorFault) s out audit h in
          (is.ends.0.ended.1, inr is)
      door_ends k (Err exits.WriteFault) s out audit h = listened k (Err exits.WriteFault) s out audit h
      door_ends k (Err exits.Memory) s out audit h = listened k (Err exits.Memory) s out audit h
      door_ends k (Err exits.StoreFault) s out audit h = absurd h
      door_ends k (Err (exits.OtherStore stored wanted)) s out audit h = absurd h
      door_ends k (Err (exits.ReadFault role)) s out audit h = absurd h
      door_ends k (Err (exits.TooLong role)) s out audit h = absurd h
      door_ends k (Err (exits.AppRefused text)) s out audit h = absurd h
      door_ends k (Err (exits.NewRefused text)) s out audit h = absurd h
      door_ends k (Err (exits.UpgradeRefused text)) s out audit h = absurd h
      door_ends k (Err (exits.LineRefused event_fault)) s out audit h = absurd h
      door_ends k (Err (exits.SessionsRefused n)) s out audit h = absurd h

  -- The door didn't listen.
  pub unheard_ends : (da db : DoorSeen L) (serving : ServeArgs) (k : RunSeen) (failed : Failed) (s : Sinks) → Listens da db serving.port (Err failed)
      → EndsDoor line app sessions serving (span da db) (span k k) (Err exits.DoorFault) s [] []
  unheard_ends da db serving k failed s listens = (
    listens.rose,
    inl (record { same_port = listens.err; same_coming = listens.same_coming; same_returned = listens.same_returned; still = refl; no_out = refl; no_audit = refl }),
  )

  -- ---- after the store is attached

  module _ (serving : ServeArgs) (door : Span (DoorSeen L)) (before opened : KeeperSeen) (counts : RunCounts) (after : RunSeen)
      (attaches : AttachesAs serving.db app (span before opened) (Ok tt)) (stays : after.keeper.store ≡ opened.store) where
    served_on : (result : Result (Unit {0}) ExitReason) (s : Sinks) (out audit : List ℕ) → EndsDoorLeaving line app sessions serving door (span (run_seen_of opened counts) after) result s out audit
        → IsServedAt line app sessions serving door (span (run_seen_of before counts) after) result s out audit
    served_on result s out audit ends = record { opened = opened; attached = is_attached serving.db app before opened after.keeper attaches stays; left = ends.0; ends = ends.1 }

    -- The store was attached, and the door was served.
    pub attached_ends : (result : Result (Unit {0}) ExitReason) (s : Sinks) (out audit : List ℕ) → EndsDoorLeaving line app sessions serving door (span (run_seen_of opened counts) after) result s out audit
        → EndsAttached line app sessions serving door (span (run_seen_of before counts) after) result s out audit
    attached_ends (Ok done) s out audit h = served_on (Ok done) s out audit h
    attached_ends (Err exits.DoorFault) s out audit h = served_on (Err exits.DoorFault) s out audit h
    attached_ends (Err exits.WriteFault) s out audit h = served_on (Err exits.WriteFault) s out audit h
    attached_ends (Err exits.Memory) s out audit h = inr (served_on (Err exits.Memory) s out audit h)
    attached_ends (Err exits.StoreFault) s out audit h = absurd h.1.ends
    attached_ends (Err (exits.OtherStore stored wanted)) s out audit h = absurd h.1.ends
    attached_ends (Err (exits.ReadFault role)) s out audit h = absurd h.1.ends
    attached_ends (Err (exits.TooLong role)) s out audit h = absurd h.1.ends
    attached_ends (Err (exits.AppRefused text)) s out audit h = absurd h.1.ends
    attached_ends (Err (exits.NewRefused text)) s out audit h = absurd h.1.ends
    attached_ends (Err (exits.UpgradeRefused text)) s out audit h = absurd h.1.ends
    attached_ends (Err (exits.LineRefused event_fault)) s out audit h = absurd h.1.ends
    attached_ends (Err (exits.SessionsRefused n)) s out audit h = absurd h.1.ends

  -- The store wasn't attached.
  pub unattached_ends : (serving : ServeArgs) (door : DoorSeen L) (k : Span RunSeen) (exit_reason : ExitReason) (s : Sinks) → AttachesAs serving.db app (keepers k) (Err exit_reason) → k.after.splits ≡ k.before.splits
      → EndsAttached line app sessions serving (span door door) k (Err exit_reason) s [] []
  unattached_ends serving door k exits.StoreFault s h unsplit = (h.0, record { unstarted = record { unattached = h.1; unsplit = unsplit }; uncalled = refl })
  unattached_ends serving door k (exits.OtherStore stored wanted) s h unsplit = (h.0, h.1, record { unstarted = record { unattached = h.2; unsplit = unsplit }; uncalled = refl })
  unattached_ends serving door k exits.Memory s h unsplit = inl (record { unstarted = record { unattached = h; unsplit = unsplit }; uncalled = refl })
  unattached_ends serving door k exits.DoorFault s h unsplit = absurd h
  unattached_ends serving door k exits.WriteFault s h unsplit = absurd h
  unattached_ends serving door k (exits.ReadFault role) s h unsplit = absurd h
  unattached_ends serving door k (exits.TooLong role) s h unsplit = absurd h
  unattached_ends serving door k (exits.AppRefused text) s h unsplit = absurd h
  unattached_ends serving door k (exits.NewRefused text) s h unsplit = absurd h
  unattached_ends serving door k (exits.UpgradeRefused text) s h unsplit = absurd h
  unattached_ends serving door k (exits.LineRefused event_fault) s h unsplit = absurd h
  unattached_ends serving door k (exits.SessionsRefused n) s h unsplit = absurd h

  -- ---- after the audit is aimed

  -- What failed after the aim failed in the whole.
  module _ (serving : ServeArgs) (door : Span (DoorSeen L)) (all part : Sinks) (within : FailsWithin all part) where
    connections_within : (x : AnswerSpec) (most : ℕ) (k : Span RunSeen) (result : Result (Unit {0}) ExitReason) (out audit : List ℕ)
        → EndsConnections line x most door k result part out audit → EndsConnections line x most door k result all out audit
    connections_within x most k (Ok done) out audit h = h
    connections_within x most k (Err exits.WriteFault) out audit (inl h) = inl (h.0, h.1, within.audit h.2)
    connections_within x most k (Err exits.WriteFault) out audit (inr h) = inr (h.0, h.1, h.2, within.out h.3)
    connections_within x most k (Err exits.DoorFault) out audit h = h
    connections_within x most k (Err exits.Memory) out audit h = h
    connections_within x most k (Err exits.StoreFault) out audit h = absurd h
    connections_within x most k (Err (exits.OtherStore stored wanted)) out audit h = absurd h
    connections_within x most k (Err (exits.ReadFault role)) out audit h = absurd h
    connections_within x most k (Err (exits.TooLong role)) out audit h = absurd h
    connections_within x most k (Err (exits.AppRefused text)) out audit h = absurd h
    connections_within x most k (Err (exits.NewRefused text)) out audit h = absurd h
    connections_within x most k (Err (exits.UpgradeRefused text)) out audit h = absurd h
    connections_within x most k (Err (exits.SessionsRefused n)) out audit h = absurd h
    connections_within x most k (Err (exits.LineRefused event_fault)) out audit h = absurd h

    listened_within : (k : Span RunSeen) (result : Result (Unit {0}) ExitReason) (out audit : List ℕ)
        → IsListenedAt line app sessions serving door k result part out audit → IsListenedAt line app sessions serving door k result all out audit
    listened_within k result out audit h = record {
      listens = h.listens;
      ends = connections_within (answer_spec_of serving.lazy app sessions) serving.count k result out audit h.ends;
    }

    door_within : (k : Span RunSeen) (result : Result (Unit {0}) ExitReason) (out audit : List ℕ)
        → EndsDoor line app sessions serving door k result part out audit → EndsDoor line app sessions serving door k result all out audit
    door_within k (Ok done) out audit h = listened_within k (Ok done) out audit h
    door_within k (Err exits.DoorFault) out audit (rose, inl h) = (rose, inl h)
    door_within k (Err exits.DoorFault) out audit (rose, inr h) = (rose, inr (listened_within k (Err exits.DoorFault) out audit h))
    door_within k (Err exits.WriteFault) out audit h = listened_within k (Err exits.WriteFault) out audit h
    door_within k (Err exits.Memory) out audit h = listened_within k (Err exits.Memory) out audit h
    door_within k (Err exits.StoreFault) out audit h = absurd h.ends
    door_within k (Err (exits.OtherStore stored wanted)) out audit h = absurd h.ends
    door_within k (Err (exits.ReadFault role)) out audit h = absurd h.ends
    door_within k (Err (exits.TooLong role)) out audit h = absurd h.ends
    door_within k (Err (exits.AppRefused text)) out audit h = absurd h.ends
    door_within k (Err (exits.NewRefused text)) out audit h = absurd h.ends
    door_within k (Err (exits.UpgradeRefused text)) out audit h = absurd h.ends
    door_within k (Err (exits.SessionsRefused n)) out audit h = absurd h.ends
    door_within k (Err (exits.LineRefused event_fault)) out audit h = absurd h.ends

    at_within : (k : Span RunSeen) (result : Result (Unit {0}) ExitReason) (out audit : List ℕ)
        → IsServedAt line app sessions serving door k result part out audit → IsServedAt line app sessions serving door k result all out audit
    at_within k result out audit h = record {
      opened = h.opened;
      attached = h.attached;
      left = h.left;
      ends = door_within (opened_on h.opened k h.left) result out audit h.ends;
    }

    -- The audit was aimed, and what follows it.
    pub aimed_ends : (k : Span RunSeen) (result : Result (Unit {0}) ExitReason) (out audit : List ℕ) → IsAimed serving.audit all.audit
        → EndsAttached line app sessions serving door k result part out audit → EndsAimed line all app sessions serving door k result out audit
    aimed_ends k (Ok done) out audit aimed h = (aimed, at_within k (Ok done) out audit h)
    aimed_ends k (Err exits.WriteFault) out audit aimed h = inr (aimed, at_within k (Err exits.WriteFault) out audit h)
    aimed_ends k (Err exits.DoorFault) out audit aimed h = (aimed, at_within k (Err exits.DoorFault) out audit h)
    aimed_ends k (Err exits.Memory) out audit aimed (inl h) = (aimed, inl h)
    aimed_ends k (Err exits.Memory) out audit aimed (inr h) = (aimed, inr (at_within k (Err exits.Memory) out audit h))
    aimed_ends k (Err exits.StoreFault) out audit aimed h = (aimed, h)
    aimed_ends k (Err (exits.OtherStore stored wanted)) out audit aimed h = (aimed, h)
    aimed_ends k (Err (exits.ReadFault role)) out audit aimed h = absurd h.ends.ends
    aimed_ends k (Err (exits.TooLong role)) out audit aimed h = absurd h.ends.ends
    aimed_ends k (Err (exits.AppRefused text)) out audit aimed h = absurd h.ends.ends
    aimed_ends k (Err (exits.NewRefused text)) out audit aimed h = absurd h.ends.ends
    aimed_ends k (Err (exits.UpgradeRefused text)) out audit aimed h = absurd h.ends.ends
    aimed_ends k (Err (exits.SessionsRefused n)) out audit aimed h = absurd h.ends.ends
    aimed_ends k (Err (exits.LineRefused event_fault)) out audit aimed h = absurd h.ends.ends

  -- The audit couldn't be aimed.
  pub unaimed_ends : (out audit_before audit_after : SinkSeen) (serving : ServeArgs) (door : DoorSeen L) (k : RunSeen) (failed : Failed) → Aims audit_before audit_after serving.audit (Err failed)
      → WentAimed (sinks out out audit_before audit_after) (EndsAimed line (sinks out out audit_before audit_after) app sessions serving (span door door) (span k k) (Err exits.WriteFault))
  unaimed_ends out audit_before audit_after serving door k failed aims = record {
    out = [];
    audit = [];
    out_lasts = Lasts-none out;
    audit_later = aims.later;
    out_took = Took-none out;
    audit_took = λ told. aims.same_held told ∙ sym (append-nil audit_before.held);
    holds = inl (aims.rose, record { idle = record { no_out = refl; no_audit = refl; unaimed = aims.err; still = refl }; unsplit = refl }, refl);
  }

-- The last steps end the command.
pub server_ends : {L : Type 0} (line : L → LinkSeen) (seen : Sight) (door : Span (DoorSeen L)) (counts : Span RunCounts) (serving : ServeArgs) (app : Application) (sessions : List Session) (out audit : List ℕ)
    (result : Result (Unit {0}) ExitReason)
    → HasApplication seen (commands.Serve serving) app → HasSessions seen.files serving.sessions sessions
    → EndsAimed line (sinks_of seen) app sessions serving door (held_of seen counts) result out audit → EndsServer line seen door counts serving result out audit
server_ends line seen door counts serving app sessions out audit result application had h =
    inr (record { app = app; sessions = sessions; application = application; sessions_had = had; ends = h })

-- A `serve` that ended when it began.
module _ {L : Type 0} (line : L → LinkSeen) (files : Span FilesSeen) (out audit later : SinkSeen) (before after : KeeperSeen) (door : DoorSeen L) (counts : RunCounts) (serving : ServeArgs) where
  server_idle : (exit_reason : ExitReason) → IsEndedEarly (sight_of files (span out out) (span audit later) (span before after)) (commands.Serve serving) (Err exit_reason) [] [] → later ≡ audit
      → WentAimed (sinks out out audit later) (EndsServer line (sight_of files (span out out) (span audit later) (span before after)) (span door door) (span counts counts) serving (Err exit_reason))
  server_idle exit_reason early uncalled = idle_behind out audit later _ uncalled (inl (early, refl, refl))

  module _ (app : Application) (sessions : List Session) (events : List ℕ) (read : AreFilesRead (commands.Serve serving) files app sessions events) where
    server_unaimed : (failed : Failed) → Aims audit later serving.audit (Err failed)
        → WentAimed (sinks out out audit later)
        (EndsServer line (sight_of files (span out out) (span audit later) (span before before)) (span door door) (span counts counts) serving (Err exits.WriteFault))
    server_unaimed failed aims =
        let seen = sight_of files (span out out) (span audit later) (span before before) in
        WentAimed-on (sinks out out audit later) _ _
        (λ o a h.
        server_ends line seen (span door door) (span counts counts) serving app sessions o a (Err exits.WriteFault)
        (application_read (commands.Serve serving) files (span out out) (span audit later) (span before before) app sessions events read) read.sessions_had h)
        (unaimed_ends line app sessions out audit later serving door (run_seen_of before counts) failed aims)

    server_barred : (exit_reason : ExitReason) → Aims audit later serving.audit (Ok tt) → AttachesAs serving.db app (span before after) (Err exit_reason)
        → WentAimed (sinks out out audit later) (EndsServer line (sight_of files (span out out) (span audit later) (span before after)) (span door door) (span counts counts) serving (Err exit_reason))
    server_barred exit_reason aims attaches =
        let seen = sight_of files (span out out) (span audit later) (span before after) in
        let k = span (run_seen_of before counts) (run_seen_of after counts) in
        went_aimed out out audit later later serving.audit tt aims _ _
        (λ is_aimed o a h.
        server_ends line seen (span door door) (span counts counts) serving app sessions o a (Err exit_reason)
        (application_read (commands.Serve serving) files (span out out) (span audit later) (span before after) app sessions events read) read.sessions_had
        (aimed_ends line app sessions serving (span door door) (sinks out out audit later) (sinks out out later later)
        (fails_behind out out out audit later later (omega arith) aims.later) k (Err exit_reason) o a is_aimed h))
        (Went-none out later (EndsAttached line app sessions serving (span door door) k (Err exit_reason) (sinks out out later later))
        (unattached_ends line app sessions serving door k exit_reason (sinks out out later later) attaches refl))

    server_stopped : (exit_reason : ExitReason) → after ≡ before → EndsAim serving.audit (span audit later) (Err exit_reason)
        → WentAimed (sinks out out audit later) (EndsServer line (sight_of files (span out out) (span audit later) (span before after)) (span door door) (span counts counts) serving (Err exit_reason))
    server_stopped exit_reason still (inl (failed, is, aims)) =
        subst (λ (e : ExitReason). WentAimed (sinks out out audit later) (EndsServer line (sight_of files (span out out) (span audit later) (span before after)) (span door door) (span counts counts) serving (Err e))) (sym is)
        (subst (λ (k : KeeperSeen). WentAimed (sinks out out audit later)
        (EndsServer line (sight_of files (span out out) (span audit later) (span before k)) (span door door) (span counts counts) serving (Err exits.WriteFault))) (sym still)
        (server_unaimed failed aims))
    server_stopped exit_reason still (inr (is, uncalled)) =
        subst (λ (e : ExitReason). WentAimed (sinks out out audit later) (EndsServer line (sight_of files (span out out) (span audit later) (span before after)) (span door door) (span counts counts) serving (Err e))) (sym is)
        (server_idle exits.Memory (memory_early (commands.Serve serving) files (span out out) (span audit later) (span before after) uncalled still) uncalled)

    server_behind : (exit_reason : ExitReason) → IsStoppedAiming (commands.Serve serving) (span audit later) (span before after) exit_reason ⊎ IsBarred (commands.Serve serving) app (span audit later) (span before after) exit_reason
        → WentAimed (sinks out out audit later) (EndsServer line (sight_of files (span out out) (span audit later) (span before after)) (span door door) (span counts counts) serving (Err exit_reason))
    server_behind exit_reason (inr barred) = server_barred exit_reason barred.aims barred.attaches
    server_behind exit_reason (inl stopped) = server_stopped exit_reason stopped.still stopped.aims

  pub server_halted : (exit_reason : ExitReason) → IsHalted (commands.Serve serving) files (span audit later) (span before after) exit_reason
      → WentAimed (sinks out out audit later) (EndsServer line (sight_of files (span out out) (span audit later) (span before after)) (span door door) (span counts counts) serving (Err exit_reason))
  server_halted exit_reason (inl early) = server_idle exit_reason (ended_early (commands.Serve serving) files (span out out) (span audit later) (span before after) exit_reason early) early.uncalled
  server_halted exit_reason (inr behind) = server_behind behind.app behind.sessions behind.events behind.read exit_reason behind.halts

-- A `serve` that began, and then served its door.
pub server_served : {L : Type 0} (line : L → LinkSeen) (files : Span FilesSeen) (out_before out_after audit aimed later : SinkSeen) (before opened after : KeeperSeen) (door : Span (DoorSeen L))
    (counts more : RunCounts) (serving : ServeArgs) (app : Application) (sessions : List Session) (events : List ℕ) (result : Result (Unit {0}) ExitReason)
    → HasBegun (commands.Serve serving) files (span audit aimed) (span before opened) app sessions events → after.store ≡ opened.store
    → WentWith (sinks out_before out_after aimed later) (EndsDoorLeaving line app sessions serving door (span (run_seen_of opened counts) (run_seen_of after more)) result)
    → WentAimed (sinks out_before out_after audit later)
    (EndsServer line (sight_of files (span out_before out_after) (span audit later) (span before after)) door (span counts more) serving result)
server_served line files out_before out_after audit aimed later before opened after door counts more serving app sessions events result begun stays went =
    let seen = sight_of files (span out_before out_after) (span audit later) (span before after) in
    let k = span (run_seen_of before counts) (run_seen_of after more) in
    went_aimed out_before out_after audit aimed later serving.audit tt begun.aims _ _
    (λ is_aimed o a h.
    server_ends line seen door (span counts more) serving app sessions o a result
    (application_read (commands.Serve serving) files (span out_before out_after) (span audit later) (span before after) app sessions events begun.read) begun.read.sessions_had
    (aimed_ends line app sessions serving door (sinks out_before out_after audit later) (sinks out_before out_after aimed later)
    (fails_behind out_before out_before out_after audit aimed later (omega arith) begun.aims.later) k result o a is_aimed
    (attached_ends line app sessions serving door before opened counts (run_seen_of after more) begun.attaches stays result (sinks out_before out_after aimed later) o a h)))
    went
