use Rattle.jac_keep.proofs.OrderLaws.{ordered_if_rising}
use Rattle.jac_keep.proofs.SoundLaws.{rows_of_sound}
use Rattle.jac_keep.proofs.memory_keeper.copy_of.Goals as goal

pub place_in-place-requires : goal.place_in-place-requires
place_in-place-requires c = rw c.rows-rows.ensures (ordered_if_rising _ (rows_of_sound c.args.state.now c.id_model.result c.requires))
