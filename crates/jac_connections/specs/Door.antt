-- How the connections of a listening socket are served, one after another.
use Rattle.std.specs.Prelude.{◌≡◌, ◌≤◌, ◌⊎◌, ℕ, ◌+◌, Bool, true, false, IsTrue, IsOk, Result, Ok, Err, Option, Some, None, List, [], ◌∷◌, ◌++◌, length, map}
use Rattle.jac_io.specs.Faults.{Rose}
use Rattle.jac_io.specs.Linked.{LinkSeen, DoorSeen}
use Rattle.jac_serve_events.specs.RunSeen.{RunSeen}
use Rattle.jac_connections.specs.declared.door.DoorHalt.{DoorHalt}
use Rattle.jac_connections.specs.declared.door.DoorHalt.TheVariants as halts
use Rattle.jac_connections.specs.declared.door.Tally.{Tally}
use Rattle.jac_connections.specs.declared.link.Halt.{Halt}
use Rattle.jac_connections.specs.declared.link.Halt.TheVariants as ways
use Rattle.jac_connections.specs.Link.{as_sink, IsLinkServed}
use Rattle.jac_serve_events.specs.AnswerSpec.{LogEntry, AnswerSpec}
use Rattle.jac_serve_events.specs.Log.{audit_lines}
use Rattle.jac_serve_events.specs.Outside.{Span, span, Took, IsFront}

-- A link before and after it was served, and the result of the call.
pub record LinkVisit (L : Type 0) : Type 0 where
  pub came : L
  pub gone : L
  pub result : Result ℕ Halt

-- Connection c was served. These bytes were added to its link, these are its entries, and these its
-- audit lines.
pub record IsVisited {L : Type 0} (seen : L → LinkSeen) (app : AnswerSpec) (c first : ℕ)
    (k : Span RunSeen) (visit : LinkVisit L) (mine : List LogEntry) (lines : List ℕ) : Type 0 where
  pub out : List ℕ
  pub took : Took (span (as_sink (seen visit.came)) (as_sink (seen visit.gone))) out
  pub served : IsLinkServed app c first (span (seen visit.came) (seen visit.gone)) k visit.result
      out lines
  pub entries : served.log ≡ mine

-- Connections were served one after another. The first is the c-th, and there were `first` replies
-- before it.
abbrev pub AreVisited : {L : Type 0} → (L → LinkSeen) → AnswerSpec → ℕ → ℕ → RunSeen → List
    (LinkVisit L)
    → List LogEntry → List ℕ → RunSeen → Type 0
AreVisited seen app c first before [] log audit after = (log ≡ []) × (audit ≡ []) × (after ≡ before)
AreVisited seen app c first before (visit ∷ visits) log audit after =
    (between : RunSeen) × (mine : List LogEntry) × (lines : List ℕ) × (others : List LogEntry)
    × (more : List ℕ)
    × IsVisited seen app c first (span before between) visit mine lines × (log ≡ mine ++ others)
    × (audit ≡ lines ++ more)
    × AreVisited seen app (c + 1) (first + length mine) between visits others more after

-- The last visit, if serving ended while its link was served or handed back.
abbrev pub open_visits : {L : Type 0} → Option (LinkVisit L) → List (LinkVisit L)
open_visits None = []
open_visits (Some visit) = visit ∷ []

-- Each of these calls returned a count.
abbrev pub AreWhole : {L : Type 0} → List (LinkVisit L) → Type 0
AreWhole [] = Unit {0}
AreWhole (visit ∷ visits) = IsOk visit.result × AreWhole visits

-- A put on the audit failed.
abbrev pub is_cut : Result Tally DoorHalt → Bool
is_cut (Ok tally) = false
is_cut (Err halts.Door) = false
is_cut (Err halts.Write) = true
is_cut (Err halts.Memory) = false

-- All of the bytes, or a prefix of them.
abbrev pub IsPart : Bool → List ℕ → List ℕ → Type 0
IsPart false bytes all = bytes ≡ all
IsPart true bytes all = IsFront bytes all

-- Why serving at most `most` connections ended. Either that many came, or a door whose contents are
-- known had no more, or a call of the door failed, or the last connection ended with this error.
abbrev pub IsEnding : {L : Type 0} → ℕ → Span (DoorSeen L) → List (LinkVisit L) → Option
    (LinkVisit L)
    → List LogEntry → Result Tally DoorHalt → Type 0
IsEnding most door visits last log (Ok tally) =
    (last ≡ None) × (tally.connections ≡ length visits) × (tally.replies ≡ length log)
    × (length visits ≤ most)
    × ((length visits ≡ most) ⊎ (IsTrue door.after.tells → door.after.coming ≡ []))
IsEnding most door visits last log (Err halts.Door) = AreWhole (open_visits last)
    × Rose door.before.faults door.after.faults
IsEnding {L = L} most door visits last log (Err halts.Write) = (visit : LinkVisit L)
    × (last ≡ Some visit) × (visit.result ≡ Err ways.Write)
IsEnding {L = L} most door visits last log (Err halts.Memory) = (visit : LinkVisit L)
    × (last ≡ Some visit) × (visit.result ≡ Err ways.Memory)

-- If the door's contents are known, the links of these visits were handed back, in order.
abbrev pub AreHandedBack : {L : Type 0} → Span (DoorSeen L) → List (LinkVisit L) → Type 0
AreHandedBack door visits = IsTrue door.after.tells → door.after.returned ≡ door.before.returned
    ++ map (λ visit. visit.gone) visits

-- The links of these visits and of the last one were handed back, in order. If a call of the door
-- failed, that of the last one may be missing.
abbrev pub AreAllHandedBack : {L : Type 0} → Span (DoorSeen L) → List (LinkVisit L) → Option
    (LinkVisit L) → Type 0
AreAllHandedBack door visits last = AreHandedBack door (visits ++ open_visits last)
    ⊎ (AreHandedBack door visits × Rose door.before.faults door.after.faults)

-- Which links were handed back. If a call of the door ended serving, that of the last visit wasn't.
abbrev pub AreReturned : {L : Type 0} → Span (DoorSeen L) → List (LinkVisit L) → Option
    (LinkVisit L) → Result Tally DoorHalt → Type 0
AreReturned door visits last (Ok tally) = AreHandedBack door visits
AreReturned door visits last (Err halts.Door) = AreHandedBack door visits
AreReturned door visits last (Err halts.Write) = AreAllHandedBack door visits last
AreReturned door visits last (Err halts.Memory) = AreAllHandedBack door visits last

-- At most `most` connections of a door were served. They and their replies are numbered from 1.
-- Their links were handed back, in order, as far as `AreReturned` says. One log of all connections
-- shows what they leave.
pub record AreLinksServed {L : Type 0} (seen : L → LinkSeen) (app : AnswerSpec) (most : ℕ)
    (door : Span (DoorSeen L)) (k : Span RunSeen)
    (result : Result Tally DoorHalt) (audit : List ℕ) : Type 0 where
  pub visits : List (LinkVisit L)
  pub last : Option (LinkVisit L)
  pub log : List LogEntry
  pub came : IsTrue door.after.tells → door.before.coming ≡ map (λ visit. visit.came)
      (visits ++ open_visits last) ++ door.after.coming
  pub returned : AreReturned door visits last result
  pub visited : AreVisited seen app 1 0 k.before (visits ++ open_visits last) log audit k.after
  pub whole : AreWhole visits
  pub entries : app.entries k log
  pub audit_text : IsPart (is_cut result) audit (audit_lines log)
  pub ended : IsEnding most door visits last log result
