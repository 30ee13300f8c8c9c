-- The events of a journal: what was requested of the system, and what it gave and took.
use Rattle.std.specs.Prelude.{ℕ, List, Option}

-- `Asks`: a file was requested. `Opened`: it was opened. `Gave`: a read gave these bytes. It gave
-- none only at the end, or if none came in time. `Took`: a write took these bytes. `Aimed`: an
-- audit was directed to this file or to none. `Listens`: the program listens on a port. `Came`: a
-- connection came.
pub data Event : Type 0 where
  Asks : List ℕ → Event
  Opened : List ℕ → Event
  Gave : List ℕ → Event
  Took : List ℕ → Event
  Aimed : Option (List ℕ) → Event
  Listens : ℕ → Event
  Came : Event
