use Rattle.std.proofs.Common.{◌≡◌, ◌+◌, ◌≤◌, length}
use Rattle.jac_value.specs.Parts.{parts_left, option_now, length_left}
use Rattle.jac_route.specs.Sessions.{with_session_before, sessions_from, sessions_in}
use Rattle.jac_route.proofs.sessions.sessions_of.Given as goal

-- The sessions so far, followed by those of the lines that are left, are the result.
abbrev pub invariant-lines : goal.invariant-lines
invariant-lines l =
    (with_session_before l.sessions.items (sessions_from (l.number + 1) (parts_left 10 (option_now l.left))) ≡ sessions_in l.bytes)
    × (l.number + length_left (option_now l.left) ≤ length l.bytes + 1)

abbrev pub decreases-lines : goal.decreases-lines
decreases-lines l = length_left (option_now l.left)
