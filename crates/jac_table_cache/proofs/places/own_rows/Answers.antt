use Rattle.std.proofs.Common.{◌≡◌, ◌∙◌, IfOk, subst}
use Rattle.jac_table_cache.proofs.HeldLaws.{own_found}
use Rattle.jac_table_cache.proofs.places.own_rows.Goals as goal

pub returns : goal.returns
returns c = λ ordered.
    let found = own_found c.args.id c.count_below-start.result c.count_through-count.result c.args.rows.now c.split_at.result.1.now c.split_at.ensures.back (c.count_below-start.ensures.high ordered) c.count_through-count.ensures.low ordered in
    subst (λ xs. IfOk c.from_slice.result (λ r. r ≡ xs)) (c.split_at-2.ensures.front ∙ found) c.from_slice.ensures
