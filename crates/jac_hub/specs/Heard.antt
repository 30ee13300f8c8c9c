-- The requests that events bring, in order. The definitions join the bytes of each connection.
use Rattle.std.specs.Prelude.{◌≡◌, ℕ, ◌+◌, ◌==◌, ◌||◌, ◌⊎◌, nat_le, Bool, true, false, if◌then◌else◌, Option, Some, None, List, [], ◌∷◌, ◌++◌, length, take, drop}
use Rattle.std.specs.Option.{option_map}
use Rattle.jac_events.specs.declared.event.Event.{Event}
use Rattle.jac_events.specs.declared.event.Event.TheVariants.{Ask, Begin, Piece, Finish}
use Rattle.jac_http.specs.declared.taken.Request.{Request}
use Rattle.jac_http.specs.declared.taken.Taken.TheVariants.{More, Whole, Refused}
use Rattle.jac_hub.specs.Channel.{LIMIT}
use Rattle.jac_hub.specs.Hearing.{Source, asked, connection, Subject, whole, refused, broken, Entry, Hearing}

-- The function `xs`, with the value x at c.
abbrev pub set_at : {X : Type 0} → ℕ → Option X → (ℕ → Option X) → ℕ → Option X
set_at c x xs = λ d. if d == c then x else xs d

-- A connection since it began: all bytes that it brought, the subjects that were heard from it, and
-- whether one of their entries closed it.
pub record Connection (I : Type 0) : Type 0 where
  pub bytes : List ℕ
  pub heard : List (Subject I)
  pub ended : Bool

-- The connections that have begun, by number.
abbrev pub Connections : Type 0 → Type 0
Connections I = ℕ → Option (Connection I)

abbrev pub no_connections : {I : Type 0} → Connections I
no_connections = λ c. None

abbrev pub new_connection : {I : Type 0} → Connection I
new_connection = record { bytes = []; heard = []; ended = false }

-- A connection that has begun already doesn't change.
abbrev pub begun_connection : {I : Type 0} → Option (Connection I) → Option (Connection I)
begun_connection None = Some new_connection
begun_connection (Some known) = Some known

abbrev pub with_bytes : {I : Type 0} → List ℕ → Connection I → Connection I
with_bytes bytes known = record known { bytes = known.bytes ++ bytes }

abbrev pub after_event : {I : Type 0} → Event → Connections I → Connections I
after_event (Ask viewer method path query body) known = known
after_event (Begin c) known = set_at c (begun_connection (known c)) known
after_event (Piece c bytes) known = set_at c (option_map (with_bytes bytes) (known c)) known
after_event (Finish c) known = set_at c None known

-- The subject closes its connection.
abbrev pub closes_connection : {I : Type 0} → Subject I → Bool
closes_connection (whole inquiry close) = close
closes_connection (refused status) = true
closes_connection broken = true

-- The subject or the answer closes the connection.
abbrev pub may_close : {I A : Type 0} → Hearing I A → Entry I A → Bool
may_close h entry = closes_connection entry.subject || h.ends entry.answer

abbrev pub with_entry : {I A : Type 0} → Hearing I A → Entry I A → Connection I → Connection I
with_entry h entry known = record known {
  heard = known.heard ++ entry.subject ∷ [];
  ended = known.ended || may_close h entry;
}

abbrev pub connections_after : {I A : Type 0} → Hearing I A → Source → Entry I A → Connections I
    → Connections I
connections_after h asked entry known = known
connections_after h (connection c) entry known = set_at c (option_map (with_entry h entry)
    (known c))
    known

abbrev pub after_entries : {I A : Type 0} → Hearing I A → List (Entry I A) → Connections I
    → Connections I
after_entries h [] known = known
after_entries h (entry ∷ log) known = after_entries h log
    (connections_after h entry.source entry known)

-- The connections after an event and its entries.
abbrev pub after_both : {I A : Type 0} → Hearing I A → Event → List (Entry I A) → Connections I
    → Connections I
after_both h event mine known = after_entries h mine (after_event event known)

-- After an event's entries, nothing is left to be answered. So a connection is closed if an entry
-- closed it, or if all bytes that count were brought.
abbrev pub is_closed : {I : Type 0} → Connection I → Bool
is_closed known = known.ended || nat_le LIMIT (length known.bytes)

-- The bytes of a connection that count.
abbrev pub bytes_counted : {I : Type 0} → Connection I → List ℕ
bytes_counted known = take LIMIT known.bytes

-- The subject is at the front of `from`, and `to` follows it. `refused` and `broken` take no bytes.
abbrev pub StandsAt : {I A : Type 0} → Hearing I A → Subject I → List ℕ → List ℕ → Type 0
StandsAt h (whole inquiry close) from to =
    (request : Request) × (used : ℕ) × h.reads from (Whole request used)
    × (inquiry ≡ h.wants request) × (close ≡ request.close) × (to ≡ drop used from)
StandsAt h (refused status) from to = h.reads from (Refused status) × (to ≡ from)
StandsAt h broken from to = to ≡ from

-- The subjects are one after the other at the front of `from`, and `to` follows them.
abbrev pub StandAt : {I A : Type 0} → Hearing I A → List (Subject I) → List ℕ → List ℕ → Type 0
StandAt h [] from to = to ≡ from
StandAt h (subject ∷ subjects) from to = (rest : List ℕ) × StandsAt h subject from rest
    × StandAt h subjects rest to

-- The subject comes next after those that were heard.
abbrev pub IsNextIn : {I A : Type 0} → Hearing I A → Connection I → Subject I → Type 0
IsNextIn h known subject = (from : List ℕ) × (to : List ℕ) × StandAt h known.heard
    (bytes_counted known)
    from × StandsAt h subject from to

-- Only the beginning of a request comes after those that were heard.
abbrev pub IsReadThrough : {I A : Type 0} → Hearing I A → Connection I → Type 0
IsReadThrough h known = (from : List ℕ) × StandAt h known.heard (bytes_counted known) from
    × h.reads from More

-- The entry is the next one of connection c, in the n-th event.
pub record IsNextEntry {I A : Type 0} (h : Hearing I A) (n c : ℕ) (known : Connection I)
    (entry : Entry I A) : Type 0 where
  pub place : entry.place ≡ n
  pub source : entry.source ≡ connection c
  pub open_still : known.ended ≡ false
  pub subject : IsNextIn h known entry.subject

-- The entries of a connection in the n-th event, until one closes it or all bytes are read.
abbrev pub AreBrought : {I A : Type 0} → Hearing I A → ℕ → ℕ → Connection I → List (Entry I A)
    → Type 0
AreBrought h n c known [] = (known.ended ≡ true) ⊎ IsReadThrough h known
AreBrought h n c known (entry ∷ log) = IsNextEntry h n c known entry
    × AreBrought h n c (with_entry h entry known) log

-- Some of these entries, from the first on.
abbrev pub AreBegun : {I A : Type 0} → Hearing I A → ℕ → ℕ → Connection I → List (Entry I A)
    → Type 0
AreBegun h n c known [] = Unit {0}
AreBegun h n c known (entry ∷ log) = IsNextEntry h n c known entry
    × AreBegun h n c (with_entry h entry known) log

-- What a piece brings, by the connection before it. It brings nothing if the connection hasn't
-- begun or is closed.
abbrev pub PieceBrings : {I A : Type 0} → Hearing I A → ℕ → ℕ → List ℕ → Option (Connection I)
    → List (Entry I A) → Type 0
PieceBrings h n c bytes None log = log ≡ []
PieceBrings h n c bytes (Some known) log =
    ((is_closed known ≡ true) × (log ≡ [])) ⊎ ((is_closed known ≡ false)
    × AreBrought h n c (with_bytes bytes known) log)

-- The beginning of what a piece brings.
abbrev pub PieceBegins : {I A : Type 0} → Hearing I A → ℕ → ℕ → List ℕ → Option (Connection I)
    → List (Entry I A) → Type 0
PieceBegins h n c bytes None log = log ≡ []
PieceBegins h n c bytes (Some known) log =
    ((is_closed known ≡ true) × (log ≡ [])) ⊎ ((is_closed known ≡ false)
    × AreBegun h n c (with_bytes bytes known) log)

-- The entries of the n-th event, given the connections before it.
abbrev pub IsBroughtBy : {I A : Type 0} → Hearing I A → ℕ → Event → Connections I → List (Entry I A)
    → Type 0
IsBroughtBy {A = A} h n (Ask viewer method path query body) known log =
    (answer : A) × (log ≡ record {
      place = n;
      source = asked;
      subject = whole (h.asks viewer method path query body) false;
      answer = answer;
    } ∷ [])
IsBroughtBy h n (Begin c) known log = log ≡ []
IsBroughtBy h n (Piece c bytes) known log = PieceBrings h n c bytes (known c) log
IsBroughtBy h n (Finish c) known log = log ≡ []

-- Some of these entries, from the first on.
abbrev pub IsBegunBy : {I A : Type 0} → Hearing I A → ℕ → Event → Connections I → List (Entry I A)
    → Type 0
IsBegunBy h n (Ask viewer method path query body) known log = (log ≡ [])
    ⊎ IsBroughtBy h n (Ask viewer method path query body) known log
IsBegunBy h n (Begin c) known log = log ≡ []
IsBegunBy h n (Piece c bytes) known log = PieceBegins h n c bytes (known c) log
IsBegunBy h n (Finish c) known log = log ≡ []

-- The events, numbered from n, bring the log.
abbrev pub IsHeardFrom : {I A : Type 0} → Hearing I A → Connections I → ℕ → List Event
    → List (Entry I A) → Type 0
IsHeardFrom h known n [] log = log ≡ []
IsHeardFrom {I = I} {A = A} h known n (event ∷ events) log =
    (mine : List (Entry I A)) × (rest : List (Entry I A)) × (log ≡ mine ++ rest)
    × IsBroughtBy h n event known mine
    × IsHeardFrom h (after_both h event mine known) (n + 1) events rest

abbrev pub IsHeard : {I A : Type 0} → Hearing I A → List Event → List (Entry I A) → Type 0
IsHeard h events log = IsHeardFrom h no_connections 0 events log

-- The log is the beginning of what the events bring, which are numbered from n.
abbrev pub IsHeardInPartFrom : {I A : Type 0} → Hearing I A → Connections I → ℕ → List Event
    → List (Entry I A) → Type 0
IsHeardInPartFrom h known n [] log = log ≡ []
IsHeardInPartFrom {I = I} {A = A} h known n (event ∷ events) log =
    IsBegunBy h n event known log
    ⊎ ((mine : List (Entry I A)) × (rest : List (Entry I A)) × (log ≡ mine ++ rest)
    × IsBroughtBy h n event known mine
    × IsHeardInPartFrom h (after_both h event mine known) (n + 1) events rest)

abbrev pub IsHeardInPart : {I A : Type 0} → Hearing I A → List Event → List (Entry I A) → Type 0
IsHeardInPart h events log = IsHeardInPartFrom h no_connections 0 events log
