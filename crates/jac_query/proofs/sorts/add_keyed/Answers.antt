use Rattle.std.proofs.Common.{rules, ◌≡◌, ◌++◌, ap, ◌∙◌}
use Rattle.jac_facet.specs.Leaves.{leaves_seen}
use Rattle.jac_query.specs.Sorted.{keyed_at}
use Rattle.jac_query.proofs.Keying.{keys_seen}
use Rattle.jac_query.proofs.sorts.add_keyed.Goals as goal

pub returns-clause-live : goal.returns-clause-live
returns-clause-live c w =
    let s : c.as_slice.result.now ≡ c.in_ok-leaves.leaves = search rules in
    c.in_ok-add_leaves.ensures.live w ∙ ap (λ l. keyed_at w c.args.out.now.items ++ l) (keys_seen w _ _ _ _ (ap (leaves_seen w) s ∙ c.in_ok-leaves.ensures.seen w))
