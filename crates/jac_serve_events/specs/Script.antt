-- The events of a file, up to its first bad line.
use Rattle.std.specs.Prelude.{ℕ, ◌+◌, ◌==◌, Bool, true, false, if◌then◌else◌, Option, Some, None, List, [], ◌∷◌}
use Rattle.jac_events.specs.declared.event.Event.{Event}
use Rattle.jac_events.specs.declared.event.Event.TheVariants.{Ask, Begin, Piece, Finish}
use Rattle.jac_events.specs.Lines.{line_of}
use Rattle.jac_serve_events.specs.Line.{lines_of}
use Rattle.jac_serve_events.specs.declared.serve.EventFault.{EventFault}
use Rattle.jac_serve_events.specs.declared.serve.EventFault.TheVariants as event_faults

-- The events of the lines before the first line that is refused, and why that line is.
pub record Script : Type 0 where
  pub events : List Event
  pub refused : Option EventFault

-- A connection is open from its Begin to its Finish.
abbrev pub opened_by : Event → (ℕ → Bool) → ℕ → Bool
opened_by (Ask viewer method path query body) opened = opened
opened_by (Begin c) opened = λ d. if d == c then true else opened d
opened_by (Piece c bytes) opened = opened
opened_by (Finish c) opened = λ d. if d == c then false else opened d

-- The fault of the n-th line, if its event names a connection in the wrong state.
abbrev pub event_fault_of : ℕ → (ℕ → Bool) → Event → Option EventFault
event_fault_of n opened (Ask viewer method path query body) = None
event_fault_of n opened (Begin c) = if opened c then Some (event_faults.AlreadyOpen n c) else None
event_fault_of n opened (Piece c bytes) = if opened c then None else Some (event_faults.NotOpen n c)
event_fault_of n opened (Finish c) = if opened c then None else Some (event_faults.NotOpen n c)

abbrev pub with_event : Event → Script → Script
with_event event script = record { events = event ∷ script.events; refused = script.refused }

abbrev pub stopped_at : EventFault → Script
stopped_at event_fault = record { events = []; refused = Some event_fault }

-- An event, followed by the rest.
abbrev pub script_event : Option EventFault → Event → Script → Script
script_event (Some event_fault) event rest = stopped_at event_fault
script_event None event rest = with_event event rest

-- The n-th line, by what it describes, followed by the rest. An empty line is skipped.
abbrev pub script_step : ℕ → Option (Option Event) → (ℕ → Bool) → ((ℕ → Bool) → Script) → Script
script_step n None opened rest = stopped_at (event_faults.NoForm n)
script_step n (Some None) opened rest = rest opened
script_step n (Some (Some event)) opened rest = script_event (event_fault_of n opened event) event
    (rest (opened_by event opened))

-- The script of the lines from the n-th on, given the connections that are open before them.
abbrev pub script_from : List (List ℕ) → ℕ → (ℕ → Bool) → Script
script_from [] n opened = record { events = []; refused = None }
script_from (line ∷ lines) n opened = script_step n (line_of line) opened
    (script_from lines (n + 1))

-- The script of a file. Lines are numbered from 1, and no connection is open before them.
abbrev pub script_of : List ℕ → Script
script_of bytes = script_from (lines_of bytes) 1 (λ c. false)
