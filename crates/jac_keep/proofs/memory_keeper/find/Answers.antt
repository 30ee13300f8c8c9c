use Rattle.jac_keep.proofs.OrderLaws.{ordered_if_rising}
use Rattle.jac_keep.proofs.SoundLaws.{rows_of_sound}
use Rattle.jac_keep.proofs.memory_keeper.find.Goals as goal

pub find-found-requires-clause-ordered : goal.find-found-requires-clause-ordered
find-found-requires-clause-ordered c = rw c.rows-rows.ensures (ordered_if_rising _ (rows_of_sound c.args.state.now c.args.model c.requires.sound))
