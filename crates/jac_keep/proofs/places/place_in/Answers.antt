use Rattle.std.proofs.Common.{nat_lt, nat_le, not, take, drop, sym, ◌∙◌, ap}
use Rattle.std.proofs.lemmas.List.{drop-drop}
use Rattle.jac_keep.specs.Records.{with_id}
use Rattle.jac_keep.proofs.Bisection.{own_through, behind_through}
use Rattle.jac_keep.proofs.OrderLaws.{ordered-with_id}
use Rattle.jac_keep.proofs.places.place_in.Goals as goal

pub returns-clause-before : goal.returns-clause-before
returns-clause-before c = c.count_below-start.ensures.low c.requires

pub returns-clause-own : goal.returns-clause-own
returns-clause-own c =
    let high = c.count_below-start.ensures.high c.requires in
    ap (take c.count_through-count.result) (sym c.split_at.ensures.back)
    ∙ c.count_through-count.ensures.low (rw (c.split_at.ensures.back, high) (ordered-with_id (λ i. not (nat_lt i c.args.id)) c.args.rows.now c.requires))
    ∙ ap (with_id (λ i. nat_le i c.args.id)) (c.split_at.ensures.back ∙ high)
    ∙ own_through c.args.id c.args.rows.now

pub returns-clause-behind : goal.returns-clause-behind
returns-clause-behind c =
    let high = c.count_below-start.ensures.high c.requires in
    sym (drop-drop c.count_through-count.result c.count_below-start.result c.args.rows.now)
    ∙ ap (drop c.count_through-count.result) (sym c.split_at.ensures.back)
    ∙ c.count_through-count.ensures.high (rw (c.split_at.ensures.back, high) (ordered-with_id (λ i. not (nat_lt i c.args.id)) c.args.rows.now c.requires))
    ∙ ap (with_id (λ i. not (nat_le i c.args.id))) (c.split_at.ensures.back ∙ high)
    ∙ behind_through c.args.id c.args.rows.now
