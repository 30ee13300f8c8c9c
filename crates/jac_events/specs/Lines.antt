-- The forms of an event's line, and which event each describes.
use Rattle.std.specs.Prelude.{ℕ, ◌^◌, ◌==◌, ◌&&◌, nat_le, nat_lt, Bool, if◌then◌else◌, Option, Some, None, List, [], ◌∷◌, length, take, codes}
use Rattle.std.specs.Option.{option_map, option_and_then}
use Rattle.std.specs.List.{list_all, before_first, after_first}
use Rattle.std.specs.Char.{is_ascii_uppercase}
use Rattle.std.specs.Str.{bytes_eq, is_utf8}
use Rattle.jac_events.specs.Words.{word_at, after_byte, quoted_at}
use Rattle.jac_events.specs.declared.event.Event.{Event}
use Rattle.jac_events.specs.declared.event.Event.TheVariants.{Ask, Begin, Piece, Finish}
use Rattle.jac_value.specs.Paths.{is_nil}
use Rattle.jac_value.specs.Visitors.{number_below, viewer_read}

-- The number of a connection.
abbrev pub conn_of : List ℕ → Option ℕ
conn_of word = number_below 10 (2 ^ 32) word

-- 1 to 15 upper-case letters.
abbrev pub is_method : List ℕ → Bool
is_method word = nat_lt 0 (length word) && nat_le (length word) 15 && list_all is_ascii_uppercase
    word

-- A text that begins with `/`.
abbrev pub is_path_target : List ℕ → Bool
is_path_target bytes = bytes_eq (take 1 bytes) (codes "/") && is_utf8 bytes

-- The request of these parts. The path is what comes before the target's first `?`, and the query
-- what comes after it.
abbrev pub request_of_parts : Option ℕ → List ℕ → List ℕ → List ℕ → Event
request_of_parts viewer method target body = Ask viewer method (before_first (λ b. b == 63) target)
    (after_first (λ b. b == 63) target) body

-- After `ask`: `VIEWER METHOD "TARGET" "BODY"`.
abbrev pub ask_of : List ℕ → Option Event
ask_of rest =
    option_and_then (λ viewer.
    option_and_then (λ method.
    option_and_then (λ target.
    option_and_then (λ rest.
    option_and_then (λ body.
    option_and_then (λ number.
    if is_method method.0 && is_path_target target.0 && is_nil body.1
    then Some (request_of_parts number method.0 target.0 body.0) else None)
    (viewer_read viewer.0))
    (quoted_at rest))
    (after_byte 32 target.1))
    (quoted_at method.1))
    (word_at viewer.1))
    (word_at rest)

-- After `data`: `N "BYTES"`.
abbrev pub data_of : List ℕ → Option Event
data_of rest =
    option_and_then (λ number.
    option_and_then (λ content.
    option_and_then (λ conn.
    if is_nil content.1 then Some (Piece conn content.0) else None)
    (conn_of number.0))
    (quoted_at number.1))
    (word_at rest)

-- `ask ..`, `open N`, `data N "BYTES"` or `end N`, with one space between two parts.
abbrev pub event_by : List ℕ → List ℕ → Option Event
event_by verb rest =
    if bytes_eq verb (codes "ask") then ask_of rest else
    if bytes_eq verb (codes "open") then option_map Begin (conn_of rest) else
    if bytes_eq verb (codes "data") then data_of rest else
    if bytes_eq verb (codes "end") then option_map Finish (conn_of rest) else
    None

-- The event of a line that isn't empty, if the line has a form.
abbrev pub event_of : List ℕ → Option Event
event_of line = option_and_then (λ first. event_by first.0 first.1) (word_at line)

-- What a line describes, if it has a form. An empty line describes nothing.
abbrev pub line_of : List ℕ → Option (Option Event)
line_of [] = Some None
line_of (b ∷ bytes) = option_map (λ event. Some event) (event_of (b ∷ bytes))
