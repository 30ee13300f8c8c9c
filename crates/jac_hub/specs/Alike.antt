-- Logs with the same entries, except for the places of their events.
use Rattle.std.specs.Prelude.{◌≡◌, ℕ, List, map}
use Rattle.jac_events.specs.declared.event.Event.{Event}
use Rattle.jac_hub.specs.Hearing.{Source, Subject, Entry, Hearing}
use Rattle.jac_hub.specs.Heard.{Connections, IsHeardFrom}

-- An entry without its place.
abbrev pub content : {I A : Type 0} → Entry I A → Source × Subject I × A
content entry = (entry.source, entry.subject, entry.answer)

-- The events bring a log with the same sources, subjects and answers.
pub record IsHeardAlike {I A : Type 0} (h : Hearing I A) (known : Connections I) (n : ℕ)
    (events : List Event) (log : List (Entry I A)) : Type 0 where
  pub other : List (Entry I A)
  pub heard : IsHeardFrom h known n events other
  pub alike : map content other ≡ map content log
