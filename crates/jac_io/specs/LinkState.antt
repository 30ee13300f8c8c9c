-- A link in memory, as contracts see it.
use Rattle.std.specs.Prelude.{ℕ, List, [], ◌∷◌, ◌++◌, ◌+◌, length, take, drop, Bool, true, false, ◌||◌, if◌then◌else◌, nat_lt}
use Rattle.std.specs.List.{concat}
use Rattle.jac_io.specs.Faults.{one_more_fault}
use Rattle.jac_io.specs.Calls.{is_listed}
use Rattle.jac_io.specs.Linked.{LinkSeen}

-- The pieces of the input that weren't taken yet; the bytes that were put, and the room for them;
-- the numbers of the calls that fail; the count of calls, and the count of those that failed.
pub record LinkState : Type 0 where
  pub pieces : List (List ℕ)
  pub held : List ℕ
  pub room : ℕ
  pub fails : List ℕ
  pub calls : ℕ
  pub faults : ℕ

-- Whether the next take fails: its number is listed.
abbrev pub take_fails : LinkState → Bool
take_fails s = is_listed (one_more_fault s.calls) s.fails

-- Whether the next put fails: its number is listed, or the bytes don't fit into the room that is
-- left.
abbrev pub put_on_fails : LinkState → List ℕ → Bool
put_on_fails s bytes = is_listed (one_more_fault s.calls) s.fails || nat_lt s.room
    (length s.held + length bytes)

-- The pieces from the first nonempty one on.
abbrev pub from_next : List (List ℕ) → List (List ℕ)
from_next [] = []
from_next ([] ∷ pieces) = from_next pieces
from_next ((byte ∷ bytes) ∷ pieces) = (byte ∷ bytes) ∷ pieces

-- Whether there is a first piece, and it is empty.
abbrev pub has_empty_front : List (List ℕ) → Bool
has_empty_front [] = false
has_empty_front ([] ∷ pieces) = true
has_empty_front ((byte ∷ bytes) ∷ pieces) = false

-- The first piece. If there are no pieces, no bytes.
abbrev pub first_piece : List (List ℕ) → List ℕ
first_piece [] = []
first_piece (piece ∷ pieces) = piece

-- The pieces after this many bytes are cut off the front of the first one.
abbrev pub cut : ℕ → List (List ℕ) → List (List ℕ)
cut count [] = []
cut count (piece ∷ pieces) = drop count piece ∷ pieces

-- The bytes that a take into this much room gives, unless it fails.
abbrev pub taken_now : LinkState → ℕ → List ℕ
taken_now s room = take room (first_piece (from_next s.pieces))

-- The link after a call that fails.
abbrev pub failed_link : LinkState → LinkState
failed_link s = record s { calls = one_more_fault s.calls; faults = one_more_fault s.faults }

-- The link after the next take into this much room.
abbrev pub after_take : LinkState → ℕ → LinkState
after_take s room =
    if take_fails s then failed_link s else record s {
      calls = one_more_fault s.calls;
      pieces = cut room (from_next s.pieces);
    }

-- The link after the next put.
abbrev pub after_put_on : LinkState → List ℕ → LinkState
after_put_on s bytes =
    if put_on_fails s bytes then failed_link s else record s {
      calls = one_more_fault s.calls;
      held = s.held ++ bytes;
    }

-- What contracts see of the link. Its contents are known.
abbrev pub seen_link : LinkState → LinkSeen
seen_link s = record { tells = true; left = concat s.pieces; held = s.held; faults = s.faults }
