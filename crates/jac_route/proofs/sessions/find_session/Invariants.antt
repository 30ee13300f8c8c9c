use Rattle.std.proofs.Common.{◌≡◌, length}
use Rattle.jac_route.specs.Sessions.{session_named}
use Rattle.jac_route.proofs.sessions.find_session.Given as goal

abbrev pub invariant-sessions : goal.invariant-sessions
invariant-sessions l = session_named l.token l.rest ≡ session_named l.token l.sessions

abbrev pub decreases-sessions : goal.decreases-sessions
decreases-sessions l = length l.rest
