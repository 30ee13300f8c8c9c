-- What `serve` writes, and why it ends.
use Rattle.std.specs.Prelude.{◌≡◌, ◌⊎◌, ℕ, IsTrue, Result, Ok, Err, Some, List, [], ◌++◌, codes, decimal}
use Rattle.jac_io.specs.Faults.{Rose}
use Rattle.jac_io.specs.Linked.{LinkSeen, DoorSeen}
use Rattle.jac_lang.specs.Syntax.{Application}
use Rattle.jac_keep.specs.KeeperSeen.{KeeperSeen}
use Rattle.jac_route.specs.declared.sessions.Session.{Session}
use Rattle.jac_cli.specs.declared.words.Command.TheVariants as commands
use Rattle.jac_cli.specs.declared.words.ServeArgs.{ServeArgs}
use Rattle.jac_connections.specs.declared.door.DoorHalt.{DoorHalt}
use Rattle.jac_connections.specs.declared.door.DoorHalt.TheVariants as halts
use Rattle.jac_connections.specs.declared.door.Tally.{Tally}
use Rattle.jac_command_base.specs.declared.exit_reason.ExitReason.{ExitReason}
use Rattle.jac_command_base.specs.declared.exit_reason.ExitReason.TheVariants as exits
use Rattle.jac_serve_events.specs.AnswerSpec.{AnswerSpec}
use Rattle.jac_serve_events.specs.RunSeen.{RunCounts, RunSeen, keepers, IsStill}
use Rattle.jac_dispatch.specs.Answered.{answer_spec_of}
use Rattle.jac_serve_events.specs.Outside.{Span, Sinks, IsFront, HasFaulted}
use Rattle.jac_viewer_caches.specs.declared.viewer_caches.ViewerEntry.{ViewerEntry}
use Rattle.jac_command_base.specs.Files.{Sight, sinks_of, HasApplication, HasSessions, IsAimed}
use Rattle.jac_app_load.specs.Application.{schema_text}
use Rattle.jac_command_base.specs.Attached.{IsAttached, IsOther}
use Rattle.jac_command_base.specs.Early.{IsEndedEarly}
use Rattle.jac_app.specs.Held.{held_of, leaving, opened_on, IsUnstarted, IsLeftAlone}
use Rattle.jac_connections.specs.Door.{AreLinksServed}
use Rattle.jac_connections.specs.Link.{IsLinkServed}
use Rattle.jac_connections.specs.declared.link.Halt.{Halt}

-- `served C connections, K replies`.
abbrev pub served_line : Tally → List ℕ
served_line tally = codes "served " ++ decimal tally.connections ++ codes " connections, "
    ++ decimal tally.replies ++ codes " replies\n"

-- The reason for which a door that halted ends the command.
abbrev pub exit_reason_of_halt : DoorHalt → ExitReason
exit_reason_of_halt halts.Door = exits.DoorFault
exit_reason_of_halt halts.Write = exits.WriteFault
exit_reason_of_halt halts.Memory = exits.Memory

-- How serving at most `most` connections ends, with the line that counts them. If a write failed,
-- it was on the audit, within a connection, or it was that of this line after all were served.
abbrev pub EndsConnections : {L : Type 0} → (L → LinkSeen) → AnswerSpec → ℕ → Span (DoorSeen L)
    → Span RunSeen → Result (Unit {0}) ExitReason → Sinks → List ℕ → List ℕ → Type 0
EndsConnections line x most door k (Ok done) s out audit =
    (tally : Tally) × AreLinksServed line x most door k (Ok tally) audit × (out ≡ served_line tally)
EndsConnections line x most door k (Err exits.WriteFault) s out audit =
    (AreLinksServed line x most door k (Err halts.Write) audit × (out ≡ [])
    × HasFaulted s.audit)
    ⊎ ((tally : Tally) × AreLinksServed line x most door k (Ok tally) audit
    × IsFront out (served_line tally) × HasFaulted s.out)
EndsConnections line x most door k (Err exits.DoorFault) s out audit =
    AreLinksServed line x most door k (Err halts.Door) audit × (out ≡ [])
EndsConnections line x most door k (Err exits.Memory) s out audit =
    AreLinksServed line x most door k (Err halts.Memory) audit × (out ≡ [])
EndsConnections line x most door k (Err exit_reason) s out audit = ⊥

-- The door listened on this port, if its contents are known, and its connections were served.
pub record IsListenedAt {L : Type 0} (line : L → LinkSeen) (app : Application)
    (sessions : List Session) (serving : ServeArgs) (door : Span (DoorSeen L)) (k : Span RunSeen)
    (result : Result (Unit {0}) ExitReason) (s : Sinks) (out audit : List ℕ) : Type 0 where
  pub listens : IsTrue door.after.tells → door.after.port ≡ Some serving.port
  pub ends : EndsConnections line (answer_spec_of serving.lazy app sessions) serving.count door k
      result s out audit

-- A door listens where it did before, no link of it was served, and nothing was put.
pub record IsUnheard {L : Type 0} (door : Span (DoorSeen L)) (k : Span RunSeen)
    (out audit : List ℕ) : Type 0 where
  pub same_port : IsTrue door.after.tells → door.after.port ≡ door.before.port
  pub same_coming : IsTrue door.after.tells → door.after.coming ≡ door.before.coming
  pub same_returned : IsTrue door.after.tells → door.after.returned ≡ door.before.returned
  pub still : IsStill k
  pub no_out : out ≡ []
  pub no_audit : audit ≡ []

-- How the steps from the listening on end.
abbrev pub EndsDoor : {L : Type 0} → (L → LinkSeen) → Application → List Session → ServeArgs
    → Span (DoorSeen L) → Span RunSeen → Result (Unit {0}) ExitReason → Sinks → List ℕ → List ℕ
    → Type 0
EndsDoor line app sessions serving door k (Err exits.DoorFault) s out audit =
    Rose door.before.faults door.after.faults
    × (IsUnheard door k out audit
    ⊎ IsListenedAt line app sessions serving door k (Err exits.DoorFault) s out audit)
EndsDoor line app sessions serving door k result s out audit =
    IsListenedAt line app sessions serving door k result s out audit

-- The same, with something cached for viewers at the end.
abbrev pub EndsDoorLeaving : {L : Type 0} → (L → LinkSeen) → Application → List Session → ServeArgs
    → Span (DoorSeen L) → Span RunSeen → Result (Unit {0}) ExitReason → Sinks → List ℕ → List ℕ
    → Type 0
EndsDoorLeaving line app sessions serving door k result s out audit =
    (left : List ViewerEntry)
    × EndsDoor line app sessions serving door (leaving k left) result s out audit

-- One link was served, with something cached for viewers at the end.
abbrev pub IsLinkServedLeaving : AnswerSpec → ℕ → ℕ → Span LinkSeen → Span RunSeen → Result ℕ Halt
    → List ℕ → List ℕ → Type 0
IsLinkServedLeaving x c first link k result out audit =
    (left : List ViewerEntry) × IsLinkServed x c first link (leaving k left) result out audit

-- A store was attached, and the connections were served from it. Attaching it split no facet and
-- evaluated no policy. `left` is what was cached for viewers at the end.
pub record IsServedAt {L : Type 0} (line : L → LinkSeen) (app : Application)
    (sessions : List Session) (serving : ServeArgs) (door : Span (DoorSeen L)) (k : Span RunSeen)
    (result : Result (Unit {0}) ExitReason) (s : Sinks) (out audit : List ℕ) : Type 0 where
  pub opened : KeeperSeen
  pub attached : IsAttached serving.db app (keepers k) opened
  pub left : List ViewerEntry
  pub ends : EndsDoor line app sessions serving door (opened_on opened k left) result s out audit

-- No store was attached, and the door wasn't called.
pub record IsUnserved {L : Type 0} (door : Span (DoorSeen L)) (k : Span RunSeen)
    (out audit : List ℕ) : Type 0 where
  pub unstarted : IsUnstarted k out audit
  pub uncalled : door.after ≡ door.before

-- How the steps from the attachment on end.
abbrev pub EndsAttached : {L : Type 0} → (L → LinkSeen) → Application → List Session → ServeArgs
    → Span (DoorSeen L) → Span RunSeen → Result (Unit {0}) ExitReason → Sinks → List ℕ → List ℕ
    → Type 0
EndsAttached line app sessions serving door k (Err exits.StoreFault) s out audit =
    Rose k.before.keeper.faults k.after.keeper.faults × IsUnserved door k out audit
EndsAttached line app sessions serving door k (Err (exits.OtherStore stored wanted)) s out audit =
    (wanted ≡ schema_text app) × IsOther (keepers k) stored wanted × IsUnserved door k out audit
EndsAttached line app sessions serving door k (Err exits.Memory) s out audit =
    IsUnserved door k out audit
    ⊎ IsServedAt line app sessions serving door k (Err exits.Memory) s out audit
EndsAttached line app sessions serving door k result s out audit =
    IsServedAt line app sessions serving door k result s out audit

-- How the steps from the aim of the audit on end. A write failure is that of the aim, or of a put
-- after it.
abbrev pub EndsAimed : {L : Type 0} → (L → LinkSeen) → Sinks → Application → List Session →
    ServeArgs
    → Span (DoorSeen L) → Span RunSeen → Result (Unit {0}) ExitReason → List ℕ → List ℕ → Type 0
EndsAimed line s app sessions serving door k (Err exits.WriteFault) out audit =
    (HasFaulted s.audit × IsLeftAlone s.audit k out audit × (door.after ≡ door.before))
    ⊎ (IsAimed serving.audit s.audit
    × EndsAttached line app sessions serving door k (Err exits.WriteFault) s out audit)
EndsAimed line s app sessions serving door k result out audit =
    IsAimed serving.audit s.audit
    × EndsAttached line app sessions serving door k result s out audit

-- The files were read, and then the connections were served.
pub record IsServer {L : Type 0} (line : L → LinkSeen) (seen : Sight) (door : Span (DoorSeen L))
    (counts : Span RunCounts) (serving : ServeArgs) (result : Result (Unit {0}) ExitReason)
    (out audit : List ℕ)
    : Type 0 where
  pub app : Application
  pub sessions : List Session
  pub application : HasApplication seen (commands.Serve serving) app
  pub sessions_had : HasSessions seen.files serving.sessions sessions
  pub ends : EndsAimed line (sinks_of seen) app sessions serving door (held_of seen counts)
      result out audit

-- What the steps of `serve` put, and why they ended.
abbrev pub EndsServer : {L : Type 0} → (L → LinkSeen) → Sight → Span (DoorSeen L) → Span RunCounts →
    ServeArgs
    → Result (Unit {0}) ExitReason → List ℕ → List ℕ → Type 0
EndsServer line seen door counts serving result out audit =
    (IsEndedEarly seen (commands.Serve serving) result out audit
    × IsStill counts × (door.after ≡ door.before))
    ⊎ IsServer line seen door counts serving result out audit
