use Rattle.std.proofs.Common.{rules}
use Rattle.jac_sqlkeep.proofs.Ordered.{kept_at, kept_behind}
use Rattle.jac_sqlkeep.proofs.alternatives.Alternatives.with.Goals as goal

pub returns-then-fits_at : goal.returns-then-fits_at
returns-then-fits_at c all kept =
    kept_at all c.args.self.guards.items _ c.place_of-at.result c.args.guard c.args.self.in_order _ (search rules) (search rules) c.in_ok-placed.ensures.guards c.in_ok-placed.ensures.order kept

pub returns : goal.returns
returns c all kept =
    let apart = c.are_apart.ensures (search rules) in
    kept_behind all c.args.self.guards.items _ c.args.guard c.args.self.in_order _ (rw c.as_slice-2.ensures.value at apart) c.in_ok-pushed.ensures.guards c.in_ok-pushed.ensures.order kept
