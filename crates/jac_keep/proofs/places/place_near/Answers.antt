use Rattle.std.proofs.Common.{nat_lt, nat_le, not, take, sym, ◌∙◌, ap}
use Rattle.jac_keep.specs.Records.{with_id}
use Rattle.jac_keep.proofs.Bisection.{own_through}
use Rattle.jac_keep.proofs.OrderLaws.{ordered-with_id}
use Rattle.jac_keep.proofs.places.place_near.Goals as goal

pub returns-clause-own : goal.returns-clause-own
returns-clause-own c = λ ordered.
    let high = c.start_near-start.ensures.high ordered in
    ap (take c.end_near-count.result) (sym c.split_at.ensures.back)
    ∙ c.end_near-count.ensures.low (rw (c.split_at.ensures.back, high) (ordered-with_id (λ i. not (nat_lt i c.args.id)) c.args.rows.now ordered))
    ∙ ap (with_id (λ i. nat_le i c.args.id)) (c.split_at.ensures.back ∙ high)
    ∙ own_through c.args.id c.args.rows.now
