-- What contracts see of a sink: the bytes that the system took, and the files of the audit.
use Rattle.std.specs.Prelude.{ℕ, List, [], ◌∷◌, ◌++◌, Option, length, true}
use Rattle.jac_io.specs.Seen.{SinkSeen}
use Rattle.jac_host.specs.Events.{Event, Took, Aimed, Came}

-- The bytes that writes took, in order, since the last connection came.
abbrev pub took : List Event → List ℕ
took [] = []
took (Came ∷ events) = []
took (Took bytes ∷ events) = took events ++ bytes
took (_ ∷ events) = took events

-- Each file that an audit was directed to, or none, with the number of bytes that had been taken by
-- then.
abbrev pub aims : List Event → List (Option (List ℕ) × ℕ)
aims [] = []
aims (Aimed name ∷ events) = aims events ++ (name, length (took events)) ∷ []
aims (_ ∷ events) = aims events

-- A sink with these events and this number of faults. Its contents are always known.
abbrev pub sink_seen : List Event → ℕ → SinkSeen
sink_seen events faults = record {
  tells = true;
  held = took events;
  aims = aims events;
  faults = faults;
}
