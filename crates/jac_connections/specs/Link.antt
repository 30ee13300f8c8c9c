-- How one connection is served: bytes arrive in pieces, and replies are written to it.
use Rattle.std.specs.Prelude.{◌≡◌, ◌≤◌, ◌<◌, ◌||◌, ◌⊎◌, ℕ, ◌+◌, Bool, true, false, IsTrue, IfOk, IsErr, nat_le, Result, Ok, Err, List, [], ◌∷◌, ◌++◌, length}
use Rattle.std.specs.List.{concat}
use Rattle.jac_io.specs.Faults.{Rose}
use Rattle.jac_io.specs.Seen.{SinkSeen}
use Rattle.jac_io.specs.Linked.{LinkSeen}
use Rattle.jac_serve_events.specs.RunSeen.{RunSeen}
use Rattle.jac_events.specs.declared.event.Event.{Event}
use Rattle.jac_events.specs.declared.event.Event.TheVariants.{Begin, Piece, Finish}
use Rattle.jac_hub.specs.Channel.{LIMIT}
use Rattle.jac_hub.specs.Heard.{may_close}
use Rattle.jac_connections.specs.declared.link.Halt.{Halt}
use Rattle.jac_connections.specs.declared.link.Halt.TheVariants as halts
use Rattle.jac_replies.specs.declared.reply.Spelling.TheVariants as spellings
use Rattle.jac_serve_events.specs.declared.outputs.FailedSink.TheVariants as losses
use Rattle.jac_serve_events.specs.AnswerSpec.{LogEntry, hearing, AnswerSpec}
use Rattle.jac_serve_events.specs.Log.{closes_behind, replies_on, audited_from}
use Rattle.jac_serve_events.specs.Outside.{Span}
use Rattle.jac_serve_events.specs.Serve.{IsServed, IsLastLost}

-- A link, seen as a sink for what is put on it.
abbrev pub as_sink : LinkSeen → SinkSeen
as_sink link = record { tells = link.tells; held = link.held; aims = []; faults = link.faults }

-- The pieces of connection c.
abbrev pub pieces_of : ℕ → List (List ℕ) → List Event
pieces_of c [] = []
pieces_of c (piece ∷ pieces) = Piece c piece ∷ pieces_of c pieces

-- The events of connection c, if its input comes in these pieces.
abbrev pub events_of : ℕ → List (List ℕ) → List Event
events_of c pieces = Begin c ∷ (pieces_of c pieces ++ Finish c ∷ [])

-- One of the entries closes its connection.
abbrev pub closes_in : AnswerSpec → List LogEntry → Bool
closes_in app [] = false
closes_in app (entry ∷ log) = may_close (hearing app) entry || closes_in app log

-- The connection with these pieces and this log is closed: by an entry, or because all bytes that
-- count were brought.
abbrev pub is_over : AnswerSpec → List (List ℕ) → List LogEntry → Bool
is_over app pieces log = closes_in app log || nat_le LIMIT (length (concat pieces))

-- What one take may give: 1 to 4,096 bytes.
abbrev pub IsTake : List ℕ → Type 0
IsTake piece = (0 < length piece) × (length piece ≤ 4096)

-- Each piece was given by one take, and none was taken after all bytes that count were there.
-- `before` is the number of bytes before the first piece.
abbrev pub AreTakes : ℕ → List (List ℕ) → Type 0
AreTakes before [] = Unit {0}
AreTakes before (piece ∷ pieces) =
    (before < LIMIT) × IsTake piece × AreTakes (before + length piece) pieces

-- If the reply to an entry says that its connection is closed, the entry is the last of these and
-- belongs to the n-th event.
abbrev pub ClosesLast : ℕ → List LogEntry → Type 0
ClosesLast n [] = Unit {0}
ClosesLast n (entry ∷ log) =
    (closes_behind entry.subject entry.answer ≡ true → (log ≡ []) × (entry.place ≡ n))
    × ClosesLast n log

-- After the closing, nothing was taken and nothing answered. The entry that closes the connection
-- is the last, and the last piece brought it. No piece was taken after all bytes that count were
-- there.
pub record StopsAtClosing (pieces : List (List ℕ)) (log : List LogEntry) : Type 0 where
  pub takes : AreTakes 0 pieces
  pub last : ClosesLast (length pieces) log

-- The lines of these entries were all put, after `first` replies: the reply of each, and its audit
-- line.
pub record ArePut (first : ℕ) (log : List LogEntry) (out audit : List ℕ) : Type 0 where
  pub out_text : out ≡ replies_on spellings.Raw log
  pub audit_text : audit ≡ audited_from (first + 1) log

-- What was put for these entries, by how serving their link ended. If a put on the link failed, the
-- connection ended. If a put on the audit failed, the run ends with a write failure. If memory ran
-- out, all was put.
abbrev pub PutsLog : ℕ → Span LinkSeen → List LogEntry → Result ℕ Halt → List ℕ → List ℕ → Type 0
PutsLog first link log (Ok count) out audit =
    ArePut first log out audit
    ⊎ (IsLastLost spellings.Raw losses.Out first log out audit
    × Rose link.before.faults link.after.faults)
PutsLog first link log (Err halts.Write) out audit =
    IsLastLost spellings.Raw losses.Audit first log out audit
PutsLog first link log (Err halts.Memory) out audit = ArePut first log out audit

-- Connection c was served after `first` replies. These bytes went to its link, and these to the
-- audit. It was heard in part only if the link failed or the call returns an error. If a put
-- failed, the log ends with the entry whose reply was lost, and no entry after it was answered.
pub record IsLinkServed (app : AnswerSpec) (c first : ℕ) (link : Span LinkSeen) (k : Span RunSeen)
    (result : Result ℕ Halt) (out audit : List ℕ) : Type 0 where
  pub pieces : List (List ℕ)
  pub log : List LogEntry
  pub part : Bool
  -- What was taken of the input. If it was heard whole, this is all of it, or all up to the
  -- closing.
  pub taken : IsTrue link.after.tells → link.before.left ≡ concat pieces ++ link.after.left
  pub ended : part ≡ false → (IsTrue link.after.tells → link.after.left ≡ [])
      ⊎ (is_over app pieces log ≡ true)
  pub cause : part ≡ true → Rose link.before.faults link.after.faults ⊎ IsErr result
  pub served : IsServed part app k (events_of c pieces) log
  pub closing : StopsAtClosing pieces log
  pub few : length log ≤ 16777217
  pub count : IfOk result (λ count. count ≡ length log)
  pub puts : PutsLog first link log result out audit
