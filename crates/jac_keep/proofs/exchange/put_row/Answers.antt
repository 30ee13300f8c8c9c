use Rattle.std.proofs.Common.{◌≡◌, ◌+◌, arith}
use Rattle.jac_keep.proofs.OrderLaws.{insert-front, insert-behind_end}
use Rattle.jac_keep.proofs.exchange.put_row.Goals as goal

pub returns-clause-front : goal.returns-clause-front
returns-clause-front c =
    rw c.in-Ok.ensures.items (insert-front c.args.at (c.args.at + 1) c.args.row c.args.rows.now.items (omega arith) (omega (arith, c.requires.order, c.requires.within, c.args.rows.now.ok.0)))

pub returns-clause-behind : goal.returns-clause-behind
returns-clause-behind c =
    let same : c.args.at ≡ c.args.end = omega (arith, c.requires.order, c.if-at-end.false) in
    rw c.in-Ok.ensures.items (insert-behind_end c.args.at c.args.end (c.args.end + 1) c.args.row c.args.rows.now.items same (omega arith) (omega (arith, c.requires.within, c.args.rows.now.ok.0)))
