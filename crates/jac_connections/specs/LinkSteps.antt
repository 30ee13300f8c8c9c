-- The steps of serving a link: pieces are taken, their requests are answered, and replies are put.
use Rattle.std.specs.Prelude.{◌≡◌, ◌⊎◌, ℕ, ◌+◌, true, false, IsTrue, IsSome, if◌then◌else◌, Result, Ok, Err, Option, Some, None, List, [], ◌++◌, length}
use Rattle.jac_io.specs.Faults.{Rose}
use Rattle.jac_io.specs.Linked.{LinkSeen}
use Rattle.jac_serve_events.specs.RunSeen.{RunSeen}
use Rattle.jac_replies.specs.declared.answer.Ask.{Ask}
use Rattle.jac_events.specs.declared.event.Event.{Event}
use Rattle.jac_events.specs.declared.event.Event.TheVariants.{Ask as Asking, Begin, Piece, Finish}
use Rattle.jac_hub.specs.declared.hub.HubFault.{HubFault}
use Rattle.jac_hub.specs.declared.hub.HubFault.TheVariants as faults
use Rattle.jac_hub.specs.declared.hub.Turn.TheVariants.{Idle}
use Rattle.jac_hub.specs.Channel.{new_channel}
use Rattle.jac_hub.specs.Heard.{Connections, set_at, IsBegunBy}
use Rattle.jac_hub.specs.Hub.{HubSeen, Steps}
use Rattle.jac_hub.specs.Served.{AreLike}
use Rattle.jac_connections.specs.declared.link.Halt.{Halt}
use Rattle.jac_connections.specs.declared.link.Halt.TheVariants as halts
use Rattle.jac_connections.specs.declared.link.Standing.{Standing}
use Rattle.jac_connections.specs.declared.link.Standing.TheVariants as standings
use Rattle.jac_connections.specs.declared.wire.TakeError.{TakeError}
use Rattle.jac_connections.specs.declared.wire.TakeError.TheVariants as misses
use Rattle.jac_connections.specs.declared.wire.Wire.{Wire}
use Rattle.jac_connections.specs.Link.{as_sink, IsTake}
use Rattle.jac_replies.specs.declared.reply.Spelling.TheVariants as spellings
use Rattle.jac_serve_events.specs.declared.outputs.EventOutcome.{EventOutcome}
use Rattle.jac_serve_events.specs.declared.outputs.WriteFailure.{WriteFailure}
use Rattle.jac_serve_events.specs.declared.outputs.FailedSink.{FailedSink}
use Rattle.jac_serve_events.specs.declared.outputs.FailedSink.TheVariants as losses
use Rattle.jac_serve_events.specs.AnswerSpec.{LogEntry, hearing, AnswerSpec}
use Rattle.jac_serve_events.specs.Outside.{Span, Sinks}
use Rattle.jac_serve_events.specs.Serve.{IsEventServed, IsLastLost, IsEventCut}
use Rattle.jac_serve_events.specs.ReplyWriter.{ReplyWriterSeen}

-- The next piece of a link: none at the end of its input.
abbrev pub TakesPiece : Span LinkSeen → Result (Option (List ℕ)) TakeError → Type 0
TakesPiece link (Ok None) = IsTrue link.after.tells → (link.before.left ≡ [])
    × (link.after.left ≡ [])
TakesPiece link (Ok (Some bytes)) = IsTake bytes × (IsTrue link.after.tells
    → link.before.left ≡ bytes ++ link.after.left)
TakesPiece link (Err misses.Link) = (IsTrue link.after.tells → link.after.left ≡ link.before.left)
    × Rose link.before.faults link.after.faults
TakesPiece link (Err misses.Memory) = IsTrue link.after.tells → link.after.left ≡ link.before.left

-- What is seen of a link as a reply writer.
abbrev pub wire_seen : {N : Type 0} → (N → LinkSeen) → Wire N → ReplyWriterSeen ℕ (List ℕ)
wire_seen seen wire = record {
  of = wire.link.ghost_name;
  sink = as_sink (seen wire.link.now);
  rest = (seen wire.link.now).left;
}

-- The event is a piece of a connection that has begun.
abbrev pub MayTake : HubSeen → Event → Type 0
MayTake hub (Asking viewer method path query body) = ⊥
MayTake hub (Begin c) = ⊥
MayTake hub (Piece c bytes) = IsSome (hub.channels c)
MayTake hub (Finish c) = ⊥

-- A hub took the event, as far as there was memory.
abbrev pub TakesIn : HubSeen → Event → HubSeen → Type 0
TakesIn hub event new = (taken : Result (Unit {0}) HubFault) × Steps hub event taken new
    × ((taken ≡ Ok tt) ⊎ (taken ≡ Err faults.Memory))

-- A hub with one connection, from which nothing came yet.
abbrev pub begun_hub : ℕ → HubSeen
begun_hub c = record { channels = set_at c (Some new_channel) (λ d. None); turn = Idle }

-- An event is served, for any connections with which the hub agrees.
abbrev pub AnswersOn : AnswerSpec → HubSeen → HubSeen → Span RunSeen → ℕ → Event → Result
    EventOutcome WriteFailure
    → Sinks → List ℕ → List ℕ → Type 0
AnswersOn app hub new k served event (Ok brought) s out audit =
    (n : ℕ) (known : Connections Ask) → AreLike (hearing app) hub.channels known
    → IsEventServed spellings.Raw app new k served brought n event known out audit
AnswersOn app hub new k served event (Err cut) s out audit =
    (n : ℕ) (known : Connections Ask) → AreLike (hearing app) hub.channels known
    → IsEventCut spellings.Raw app k served cut n event known s out audit

-- The state of a connection after what its piece brought.
abbrev pub standing_after : EventOutcome → Standing
standing_after brought = if brought.closed then standings.Over brought.count
    else standings.Open brought.count

-- The state after a piece for which not all was put.
abbrev pub cut_by : FailedSink → ℕ → Result Standing Halt
cut_by losses.Out count = Ok (standings.Over count)
cut_by losses.Audit count = Err halts.Write

-- The link gave these bytes of its input.
abbrev pub Gave : Span LinkSeen → List ℕ → Type 0
Gave link bytes = IsTrue link.after.tells → link.before.left ≡ bytes ++ link.after.left

-- A link gave its next piece, and the piece was served whole.
pub record IsPieceOn (app : AnswerSpec) (c : ℕ) (new : HubSeen) (link : Span LinkSeen)
    (k : Span RunSeen) (served : ℕ) (brought : EventOutcome) (n : ℕ)
    (known : Connections Ask) (out audit : List ℕ) : Type 0 where
  pub bytes : List ℕ
  pub is_take : IsTake bytes
  pub gave : Gave link bytes
  pub heard : IsEventServed spellings.Raw app new k served brought n (Piece c bytes) known out audit

-- A link gave its next piece, and the first entries of the piece were answered.
pub record IsPieceBegun (app : AnswerSpec) (c : ℕ) (link : Span LinkSeen) (k : Span RunSeen) (n : ℕ)
    (known : Connections Ask) (mine : List LogEntry) : Type 0 where
  pub bytes : List ℕ
  pub is_take : IsTake bytes
  pub gave : Gave link bytes
  pub begun : IsBegunBy (hearing app) n (Piece c bytes) known mine
  pub entries : app.entries k mine

-- The put for the last of these entries failed on the link, and `count` includes them.
pub record IsTornOn (link : Span LinkSeen) (served count : ℕ) (mine : List LogEntry)
    (out audit : List ℕ) : Type 0 where
  pub lost : IsLastLost spellings.Raw losses.Out served mine out audit
  pub count_is : count ≡ served + length mine
  pub rose : Rose link.before.faults link.after.faults

-- Nothing was taken, put or asked.
pub record IsQuiet (link : Span LinkSeen) (k : Span RunSeen) (out audit : List ℕ) : Type 0 where
  pub gave : Gave link []
  pub still : k.after ≡ k.before
  pub no_out : out ≡ []
  pub no_audit : audit ≡ []

-- The input has ended, or the link failed.
pub record IsLast (link : Span LinkSeen) (k : Span RunSeen) (served count : ℕ)
    (out audit : List ℕ) : Type 0 where
  pub quiet : IsQuiet link k out audit
  pub same_count : count ≡ served
  pub cause : (IsTrue link.after.tells → link.after.left ≡ [])
      ⊎ Rose link.before.faults link.after.faults

-- The next piece of connection c is taken and served, for any connections with which the hub
-- agrees.
abbrev pub ServesPiece : AnswerSpec → ℕ → HubSeen → HubSeen → Span LinkSeen → Span RunSeen → ℕ
    → Result Standing Halt → List ℕ → List ℕ → Type 0
ServesPiece app c hub new link k served (Ok (standings.Open count)) out audit =
    (n : ℕ) (known : Connections Ask) → AreLike (hearing app) hub.channels known
    → IsPieceOn app c new link k served (record { count = count; closed = false }) n known out audit
ServesPiece app c hub new link k served (Ok (standings.Over count)) out audit =
    (n : ℕ) (known : Connections Ask) → AreLike (hearing app) hub.channels known
    → IsLast link k served count out audit
    ⊎ (IsPieceOn app c new link k served (record { count = count; closed = true }) n known out audit
    ⊎ ((mine : List LogEntry) × IsPieceBegun app c link k n known mine
    × IsTornOn link served count mine out audit))
ServesPiece app c hub new link k served (Err halts.Write) out audit =
    (n : ℕ) (known : Connections Ask) → AreLike (hearing app) hub.channels known
    → (mine : List LogEntry) × IsPieceBegun app c link k n known mine
    × IsLastLost spellings.Raw losses.Audit served mine out audit
ServesPiece app c hub new link k served (Err halts.Memory) out audit = IsQuiet link k out audit
