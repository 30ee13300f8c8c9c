use Rattle.std.proofs.Common.{nat_le}
use Rattle.jac_keep.proofs.Bisection.{taken}
use Rattle.jac_keep.proofs.places.end_near.Goals as goal

pub returns-then-is_end-clause-low : goal.returns-then-is_end-clause-low
returns-then-is_end-clause-low c = λ ordered. taken (λ i. nat_le i c.args.id) c.args.rows.now c.args.near (c.is_end.ensures.point c.if-is_end.true ordered)
