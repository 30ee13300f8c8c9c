use Rattle.std.proofs.Common.{◌≡◌, None, drop}
use Rattle.std.specs.Option.{option_copied, option_map}
use Rattle.jac_plain.specs.Requests.{location, redirect_of}
use Rattle.jac_plain.proofs.pages.last_redirect.Given as goal

abbrev pub invariant-pieces : goal.invariant-pieces
invariant-pieces l =
    redirect_of (option_map location (option_copied l.last)) (drop l.piece-index l.pieces) ≡ redirect_of None l.pieces
