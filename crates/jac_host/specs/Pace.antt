-- How long the host waits for what a connection brings.
use Rattle.std.specs.Prelude.{ℕ}
use Rattle.std.specs.declared.time.Instant.{Instant}
use Rattle.jac_host.specs.declared.frames.Spot.{Spot}
use Rattle.jac_host.specs.declared.frames.Spot.TheVariants.{Between, Name, Length, Line, Body}
use Rattle.jac_host.specs.declared.pace.Pace.{Pace}
use Rattle.jac_host.specs.declared.pace.Phase.{Phase}
use Rattle.jac_host.specs.declared.pace.Phase.TheVariants.{Fresh, Kept, Within}

-- How many nanoseconds the host waits: 0.1 s on a fresh connection, 0.02 s for a further request,
-- and 3 s within a request.
abbrev pub time_allowed : Phase → ℕ
time_allowed Fresh = 100_000_000
time_allowed Kept = 20_000_000
time_allowed Within = 3_000_000_000

-- When the request began whose bytes were taken at `now`. It began earlier if a part of it had come
-- before.
abbrev pub begun_in : Phase → Instant → Instant → Instant
begun_in Fresh since now = now
begun_in Kept since now = now
begun_in Within since now = since

abbrev pub phase_began : Pace → Instant → Instant
phase_began pace now = begun_in pace.phase pace.since now

-- What the host waits for after a reply, by the place that the bytes have reached.
abbrev pub phase_behind : Spot → Phase
phase_behind Between = Kept
phase_behind (Name matched body) = Within
phase_behind (Length body) = Within
phase_behind (Line body) = Within
phase_behind (Body left) = Within
