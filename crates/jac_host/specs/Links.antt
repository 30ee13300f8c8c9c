-- What contracts see of connections and their door, by the events of their journals.
use Rattle.std.specs.Prelude.{ℕ, ◌+◌, ◌==◌, Bool, true, false, not, ◌&&◌, ◌||◌, List, [], ◌∷◌, Option, Some, None, length, drop, map, nat_le, zero, suc}
use Rattle.jac_io.specs.Linked.{LinkSeen, DoorSeen}
use Rattle.jac_host.specs.Events.{Event, Opened, Gave, Listens, Came}
use Rattle.jac_host.specs.Gave.{bytes_given, goes_on}
use Rattle.jac_host.specs.Sinks.{took}

-- How many connections came.
abbrev pub came : List Event → ℕ
came [] = 0
came (Came ∷ events) = came events + 1
came (_ ∷ events) = came events

-- The port that was listened on last.
abbrev pub port_of : List Event → Option ℕ
port_of [] = None
port_of (Listens port ∷ events) = Some port
port_of (_ ∷ events) = port_of events

-- The input of the connection with this number, from 0. It is empty if there is no such connection.
abbrev pub input_at : List (List ℕ) → ℕ → List ℕ
input_at [] n = []
input_at (input ∷ inputs) zero = input
input_at (input ∷ inputs) (suc n) = input_at inputs n

-- The input of the connection that came last.
abbrev pub last_input : List (List ℕ) → List Event → List ℕ
last_input inputs [] = []
last_input inputs (Came ∷ events) = input_at inputs (came events)
last_input inputs (_ ∷ events) = last_input inputs events

-- Whether each read since the connection came gave the next bytes of this input.
abbrev pub brings : List ℕ → List Event → Bool
brings input [] = true
brings input (Came ∷ events) = true
brings input (Gave bytes ∷ events) = goes_on input (bytes_given events) bytes && brings input events
brings input (_ ∷ events) = brings input events

-- Whether a read gave nothing since the connection came: its input ended, or nothing came in time.
abbrev pub gave_none : List Event → Bool
gave_none [] = false
gave_none (Came ∷ events) = false
gave_none (Gave bytes ∷ events) = length bytes == 0 || gave_none events
gave_none (_ ∷ events) = gave_none events

-- Whether, since the connection came, no read gave bytes after a read that gave nothing, and no
-- file was opened.
abbrev pub ends_for_good : List Event → Bool
ends_for_good [] = true
ends_for_good (Came ∷ events) = true
ends_for_good (Opened name ∷ events) = false
ends_for_good (Gave bytes ∷ events) =
    (length bytes == 0 || not (gave_none events)) && ends_for_good events
ends_for_good (_ ∷ events) = ends_for_good events

-- A connection, if these are the inputs of all connections. Its contents are known as long as each
-- read agreed with its input.
abbrev pub link_seen : List (List ℕ) → List Event → ℕ → LinkSeen
link_seen inputs events faults = record {
  tells = brings (last_input inputs events) events;
  left = drop (length (bytes_given events)) (last_input inputs events);
  held = took events;
  faults = faults;
}

-- A connection that came and from which nothing was taken.
abbrev pub fresh_link : List ℕ → LinkSeen
fresh_link input = record { tells = true; left = input; held = []; faults = 0 }

-- A door, if these are the inputs of its connections. They are known as long as no more connections
-- came than there are inputs.
abbrev pub door_seen : List (List ℕ) → List Event → List LinkSeen → ℕ → DoorSeen LinkSeen
door_seen inputs events returned faults = record {
  tells = nat_le (came events) (length inputs);
  coming = map fresh_link (drop (came events) inputs);
  port = port_of events;
  returned = returned;
  faults = faults;
}
