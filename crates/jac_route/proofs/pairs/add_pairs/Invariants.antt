use Rattle.std.proofs.Common.{◌≡◌, ◌++◌, map}
use Rattle.form_urlencoded.specs.Parse.{pairs_left}
use Rattle.jac_route.specs.Pairs.{pair_of, pairs_in}
use Rattle.jac_route.proofs.pairs.add_pairs.Given as goal

abbrev pub invariant-items : goal.invariant-items
invariant-items l = l.pairs.items ++ map pair_of (pairs_left l.item-iterator) ≡ l.fn.pairs.items ++ pairs_in l.bytes
