use Rattle.std.proofs.Common.{◌≡◌, nat_le, false, arith, rules}
use Rattle.jac_keep.proofs.Nearby.{falls_le, fail_behind}
use Rattle.jac_keep.proofs.places.is_end.Goals as goal

pub returns-clause-point : goal.returns-clause-point
returns-clause-point c = λ told ordered.
    let fails : nat_le c.index-rows-place.result.id c.args.id ≡ false = search (rules, told) in
    (c.is_through.ensures (search rules) ordered, fail_behind (λ i. nat_le i c.args.id) (falls_le c.args.id) c.args.rows.now c.args.place c.index-rows-place.result ordered (omega (arith, c.if-place-rows.false, c.if-place-rows-2.false)) c.index-rows-place.is fails)
