use Rattle.std.proofs.Common.{nat_lt}
use Rattle.jac_keep.proofs.Bisection.{taken, left}
use Rattle.jac_keep.proofs.places.start_near.Goals as goal

pub returns-then-is_start-clause-low : goal.returns-then-is_start-clause-low
returns-then-is_start-clause-low c = λ ordered. taken (λ i. nat_lt i c.args.id) c.args.rows.now c.args.near.start (c.is_start.ensures.point c.if-is_start.true ordered)

pub returns-then-is_start-clause-high : goal.returns-then-is_start-clause-high
returns-then-is_start-clause-high c = λ ordered. left (λ i. nat_lt i c.args.id) c.args.rows.now c.args.near.start (c.is_start.ensures.point c.if-is_start.true ordered)

pub returns-then-is_start-2-clause-low : goal.returns-then-is_start-2-clause-low
returns-then-is_start-2-clause-low c = λ ordered. taken (λ i. nat_lt i c.args.id) c.args.rows.now c.saturating_add-behind.result (c.is_start-2.ensures.point c.if-is_start-2.true ordered)

pub returns-then-is_start-2-clause-high : goal.returns-then-is_start-2-clause-high
returns-then-is_start-2-clause-high c = λ ordered. left (λ i. nat_lt i c.args.id) c.args.rows.now c.saturating_add-behind.result (c.is_start-2.ensures.point c.if-is_start-2.true ordered)
