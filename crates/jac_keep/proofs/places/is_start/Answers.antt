use Rattle.std.proofs.Common.{◌≡◌, nat_lt, false, arith, rules}
use Rattle.jac_keep.proofs.Nearby.{falls_lt, fail_behind}
use Rattle.jac_keep.proofs.places.is_start.Goals as goal

pub returns-clause-point : goal.returns-clause-point
returns-clause-point c = λ told ordered.
    let fails : nat_lt c.index-rows-place.result.id c.args.id ≡ false = search (rules, told) in
    (c.is_below.ensures (search rules) ordered, fail_behind (λ i. nat_lt i c.args.id) (falls_lt c.args.id) c.args.rows.now c.args.place c.index-rows-place.result ordered (omega (arith, c.if-place-rows.false, c.if-place-rows-2.false)) c.index-rows-place.is fails)
