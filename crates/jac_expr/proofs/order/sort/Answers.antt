use Rattle.jac_expr.proofs.order.sort.Goals as goal

pub returns-in-Up-clause-sorted : goal.returns-in-Up-clause-sorted
returns-in-Up-clause-sorted g c = rw c.in-Up.is c.sort_by.ensures.sorted

pub returns-in-Down-clause-sorted : goal.returns-in-Down-clause-sorted
returns-in-Down-clause-sorted g c = rw c.in-Down.is c.sort_by-in-Down.ensures.sorted
