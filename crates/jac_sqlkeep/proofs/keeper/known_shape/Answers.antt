use Rattle.jac_sqlkeep.proofs.keeper.known_shape.Goals as goal

pub unreachable-requires : goal.unreachable-requires
unreachable-requires c = c.in_ok-shape.ensures.none c.in-None.is c.requires.0 c.requires.1
