-- A sink in memory, as contracts see it.
use Rattle.std.specs.Prelude.{ℕ, List, [], ◌∷◌, ◌++◌, length, ◌+◌, Bool, true, ◌||◌, Option, if◌then◌else◌, nat_lt, nat_le}
use Rattle.jac_io.specs.Faults.{one_more_fault}
use Rattle.jac_io.specs.Calls.{is_listed}
use Rattle.jac_io.specs.Seen.{SinkSeen}

-- The bytes that were put; each aim with the number of bytes held at that time; the room for all
-- bytes; the numbers of the calls that fail; the count of calls, and the count of those that
-- failed.
pub record SinkState : Type 0 where
  pub held : List ℕ
  pub aims : List (Option (List ℕ) × ℕ)
  pub room : ℕ
  pub fails : List ℕ
  pub calls : ℕ
  pub faults : ℕ

-- Whether the next call fails because its number is listed.
abbrev pub is_to_fail : SinkState → Bool
is_to_fail s = is_listed (one_more_fault s.calls) s.fails

-- Whether the next put fails: its number is listed, or the bytes don't fit into the room that is
-- left.
abbrev pub put_fails : SinkState → List ℕ → Bool
put_fails s bytes = is_to_fail s || nat_lt s.room (length s.held + length bytes)

-- The sink after a call that fails.
abbrev pub failed_sink : SinkState → SinkState
failed_sink s = record s { calls = one_more_fault s.calls; faults = one_more_fault s.faults }

-- The sink after the next put.
abbrev pub after_put : SinkState → List ℕ → SinkState
after_put s bytes =
    if put_fails s bytes then failed_sink s else record s {
      calls = one_more_fault s.calls;
      held = s.held ++ bytes;
    }

-- The number of aims that a sink has room for.
abbrev pub aims_room : ℕ
aims_room = 8

-- Whether the next aim fails: its number is listed, or there is no room for another aim.
abbrev pub aim_fails : SinkState → Bool
aim_fails s = is_to_fail s || nat_le aims_room (length s.aims)

-- The sink after the next aim.
abbrev pub after_aim : SinkState → Option (List ℕ) → SinkState
after_aim s name =
    if aim_fails s then failed_sink s else record s {
      calls = one_more_fault s.calls;
      aims = s.aims ++ (name, length s.held) ∷ [];
    }

-- What contracts see of the sink. Its contents are known.
abbrev pub seen_sink : SinkState → SinkSeen
seen_sink s = record { tells = true; held = s.held; aims = s.aims; faults = s.faults }
