use Rattle.std.proofs.Common.{◌≡◌, ◌-◌, nat_le, true, arith, rules}
use Rattle.jac_keep.proofs.Nearby.{falls_le, pass_before}
use Rattle.jac_keep.proofs.places.is_through.Goals as goal

pub returns : goal.returns
returns c = λ told ordered.
    let passes : nat_le c.index-rows-place.result.id c.args.id ≡ true = search (rules, told) in
    pass_before (λ i. nat_le i c.args.id) (falls_le c.args.id) c.args.rows.now c.args.place (c.args.place - 1) c.index-rows-place.result ordered (omega arith) (omega (arith, c.requires, c.if-place-eq0.false)) c.index-rows-place.is passes
