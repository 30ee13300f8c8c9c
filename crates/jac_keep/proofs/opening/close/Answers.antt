use Rattle.jac_keep.proofs.opening.close.Goals as goal

pub from_vec-requires : goal.from_vec-requires
from_vec-requires c = rw c.place_each.ensures (rw c.if-ready.true at c.requires.rising)

pub from_vec-requires-else-ready : goal.from_vec-requires-else-ready
from_vec-requires-else-ready c = rw c.if-ready.false at c.requires.rising
