-- The steps of serving a door.
use Rattle.std.specs.Prelude.{◌≡◌, ◌+◌, ◌⊎◌, ℕ, Bool, true, false, IsTrue, if◌then◌else◌, Result, Ok, Err, Option, Some, None, List, [], ◌∷◌, ◌++◌, length}
use Rattle.jac_io.specs.Faults.{Rose}
use Rattle.jac_io.specs.Linked.{LinkSeen, DoorSeen}
use Rattle.jac_serve_events.specs.RunSeen.{RunSeen}
use Rattle.jac_connections.specs.declared.door.DoorHalt.{DoorHalt}
use Rattle.jac_connections.specs.declared.door.DoorHalt.TheVariants as halts
use Rattle.jac_connections.specs.declared.door.Tally.{Tally}
use Rattle.jac_connections.specs.declared.link.Halt.{Halt}
use Rattle.jac_connections.specs.declared.link.Halt.TheVariants as ways
use Rattle.jac_connections.specs.Door.{LinkVisit, IsVisited}
use Rattle.jac_serve_events.specs.AnswerSpec.{LogEntry, AnswerSpec}
use Rattle.jac_serve_events.specs.Outside.{Span}

abbrev pub link_visit : {L : Type 0} → L → L → Result ℕ Halt → LinkVisit L
link_visit came gone result = record { came = came; gone = gone; result = result }

-- A link of the door was served after this many, and was handed back or not.
pub record Visits {L : Type 0} (seen : L → LinkSeen) (app : AnswerSpec) (tally : Tally) (line : L)
    (handed : Bool) (door : Span (DoorSeen L)) (k : Span RunSeen)
    (result : Result ℕ Halt) (audit : List ℕ) : Type 0 where
  pub gone : L
  pub mine : List LogEntry
  pub visited : IsVisited seen app (tally.connections + 1) tally.replies k
      (link_visit line gone result) mine audit
  pub returned : IsTrue door.after.tells → door.after.returned ≡ door.before.returned ++ (if handed
      then gone ∷ [] else [])

-- A link was served, and serving ended during it. It was handed back, unless the close failed.
abbrev pub VisitsLast : {L : Type 0} → (L → LinkSeen) → AnswerSpec → Tally → L → Span (DoorSeen L)
    → Span RunSeen → Result ℕ Halt → List ℕ → Type 0
VisitsLast seen app tally line door k result audit =
    Visits seen app tally line true door k result audit
    ⊎ (Visits seen app tally line false door k result audit
    × Rose door.before.faults door.after.faults)

-- This link, which the door gave, was served.
abbrev pub VisitsLine : {L : Type 0} → (L → LinkSeen) → AnswerSpec → Tally → L → Span (DoorSeen L)
    → Span RunSeen → Result Tally DoorHalt → List ℕ → Type 0
VisitsLine seen app tally line door k (Ok more) audit =
    (count : ℕ) × (v : Visits seen app tally line true door k (Ok count) audit)
    × (more.connections ≡ tally.connections + 1)
    × (more.replies ≡ tally.replies + length v.mine)
VisitsLine seen app tally line door k (Err halts.Door) audit =
    ((count : ℕ) × Visits seen app tally line false door k (Ok count) audit)
    × Rose door.before.faults door.after.faults
VisitsLine seen app tally line door k (Err halts.Write) audit = VisitsLast seen app tally line door
    k (Err ways.Write) audit
VisitsLine seen app tally line door k (Err halts.Memory) audit = VisitsLast seen app tally line door
    k (Err ways.Memory) audit

-- The door gave this link, and the others are still to come.
abbrev pub GaveLine : {L : Type 0} → Span (DoorSeen L) → L → Type 0
GaveLine door line = IsTrue door.after.tells → door.before.coming ≡ line ∷ door.after.coming

-- No link was served.
pub record IsUnvisited {L : Type 0} (door : Span (DoorSeen L)) (k : Span RunSeen) (audit : List ℕ) :
    Type 0 where
  pub coming : IsTrue door.after.tells → door.after.coming ≡ door.before.coming
  pub returned : IsTrue door.after.tells → door.after.returned ≡ door.before.returned
  pub still : k.after ≡ k.before
  pub no_audit : audit ≡ []

-- The next link of a door is served, if there is one.
abbrev pub ServesNext : {L : Type 0} → (L → LinkSeen) → AnswerSpec → Tally → Span (DoorSeen L)
    → Span RunSeen → Result (Option Tally) DoorHalt → List ℕ → Type 0
ServesNext {L = L} seen app tally door k (Ok (Some more)) audit =
    (line : L) × GaveLine door line × VisitsLine seen app tally line door k (Ok more) audit
ServesNext seen app tally door k (Ok None) audit = IsUnvisited door k audit
    × (IsTrue door.after.tells → door.after.coming ≡ [])
ServesNext {L = L} seen app tally door k (Err halts.Door) audit =
    (IsUnvisited door k audit ⊎ ((line : L) × GaveLine door line
    × ((count : ℕ) × Visits seen app tally line false door k (Ok count) audit)))
    × Rose door.before.faults door.after.faults
ServesNext {L = L} seen app tally door k (Err halts.Write) audit =
    (line : L) × GaveLine door line × VisitsLast seen app tally line door k (Err ways.Write) audit
ServesNext {L = L} seen app tally door k (Err halts.Memory) audit =
    (line : L) × GaveLine door line × VisitsLast seen app tally line door k (Err ways.Memory) audit
