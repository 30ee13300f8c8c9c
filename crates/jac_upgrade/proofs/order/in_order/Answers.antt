use Rattle.jac_upgrade.proofs.Renaming.{changed_permuted, within_permuted}
use Rattle.jac_upgrade.proofs.order.in_order.Goals as goal

pub returns-clause-within : goal.returns-clause-within
returns-clause-within c =
    within_permuted c.args.made.items c.in_ok-sorted.sorted.items c.in_ok-changed.changed c.in_ok-sorted.ensures c.in_ok-changed.ensures.within

pub returns-clause-named : goal.returns-clause-named
returns-clause-named c id h =
    c.in_ok-changed.ensures.named id (changed_permuted id c.args.made.items c.in_ok-sorted.sorted.items c.in_ok-sorted.ensures h)
