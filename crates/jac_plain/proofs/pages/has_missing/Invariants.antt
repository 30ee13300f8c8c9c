use Rattle.std.proofs.Common.{◌≡◌, drop}
use Rattle.jac_plain.specs.Requests.{is_missing}
use Rattle.jac_plain.proofs.pages.has_missing.Given as goal

abbrev pub invariant-pieces : goal.invariant-pieces
invariant-pieces l = is_missing (drop l.piece-index l.pieces) ≡ is_missing l.pieces
