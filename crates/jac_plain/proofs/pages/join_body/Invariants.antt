use Rattle.std.proofs.Common.{◌≡◌, ◌++◌, drop}
use Rattle.jac_plain.specs.Requests.{body_of}
use Rattle.jac_plain.proofs.pages.join_body.Given as goal

abbrev pub invariant-pieces : goal.invariant-pieces
invariant-pieces l = l.body.items ++ body_of (drop l.piece-index l.pieces) ≡ body_of l.pieces
