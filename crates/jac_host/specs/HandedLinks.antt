-- What contracts see of connections that were handed back.
use Rattle.std.specs.Prelude.{ℕ, List, IsTrue, map}
use Rattle.std.specs.List.{All}
use Rattle.jac_io.specs.Linked.{LinkSeen, DoorSeen}
use Rattle.jac_host.specs.Events.{Event}
use Rattle.jac_host.specs.Links.{link_seen, door_seen, ends_for_good}
use Rattle.jac_host.specs.declared.handed_link.HandedLink.{HandedLink}

-- A connection that was handed back, if these are the inputs of all connections.
abbrev pub handed_seen : List (List ℕ) → HandedLink → LinkSeen
handed_seen inputs link = link_seen inputs link.journal.events link.faults

-- A door, and the connections that were handed back to it.
abbrev pub host_door_seen : List (List ℕ) → List Event → List HandedLink → ℕ → DoorSeen LinkSeen
host_door_seen inputs events links faults = door_seen inputs events (map (handed_seen inputs) links)
    faults

-- The input of the connection ended for good. So each read agrees with the input that consists of
-- the bytes that the reads gave.
abbrev pub IsEnded : HandedLink → Type 0
IsEnded link = IsTrue (ends_for_good link.journal.events)

-- The input of each of these connections ended for good.
abbrev pub AreEnded : List HandedLink → Type 0
AreEnded links = All IsEnded links
