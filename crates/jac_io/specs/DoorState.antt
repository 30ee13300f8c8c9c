-- A door in memory, as contracts see it.
use Rattle.std.specs.Prelude.{ℕ, List, [], ◌∷◌, ◌++◌, length, drop, Bool, true, ◌||◌, Option, Some, if◌then◌else◌, nat_le}
use Rattle.jac_io.specs.Faults.{one_more_fault}
use Rattle.jac_io.specs.Calls.{is_listed}
use Rattle.jac_io.specs.Linked.{DoorSeen}
use Rattle.jac_io.specs.LinkState.{LinkState}

-- The links still to come; the port of the last successful listen; the links handed back, and the
-- room for them; the numbers of the calls that fail; the count of calls, and the count of those
-- that failed.
pub record DoorState : Type 0 where
  pub coming : List LinkState
  pub port : Option ℕ
  pub returned : List LinkState
  pub room : ℕ
  pub fails : List ℕ
  pub calls : ℕ
  pub faults : ℕ

-- Whether the next call fails because its number is listed.
abbrev pub call_fails : DoorState → Bool
call_fails s = is_listed (one_more_fault s.calls) s.fails

-- Whether the next close fails: its number is listed, or there is no room left.
abbrev pub close_fails : DoorState → Bool
close_fails s = call_fails s || nat_le s.room (length s.returned)

-- The door after a call that fails.
abbrev pub failed_door : DoorState → DoorState
failed_door s = record s { calls = one_more_fault s.calls; faults = one_more_fault s.faults }

-- The door after the next `listen`.
abbrev pub after_listen : DoorState → ℕ → DoorState
after_listen s port = if call_fails s then failed_door s else record s {
  calls = one_more_fault s.calls;
  port = Some port;
}

-- The door after the next `next`.
abbrev pub after_next : DoorState → DoorState
after_next s = if call_fails s then failed_door s else record s {
  calls = one_more_fault s.calls;
  coming = drop 1 s.coming;
}

-- The door after the next `close`, which hands this link back.
abbrev pub after_close : DoorState → LinkState → DoorState
after_close s line =
    if close_fails s then failed_door s else record s {
      calls = one_more_fault s.calls;
      returned = s.returned
          ++ line ∷ [];
    }

-- What contracts see of the door. Its contents are known.
abbrev pub seen_door : DoorState → DoorSeen LinkState
seen_door s = record {
  tells = true;
  coming = s.coming;
  port = s.port;
  returned = s.returned;
  faults = s.faults;
}
