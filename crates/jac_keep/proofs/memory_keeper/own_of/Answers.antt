use Rattle.std.proofs.Common.{◌∙◌, ap}
use Rattle.jac_keep.specs.Records.{alternatives}
use Rattle.jac_keep.proofs.OrderLaws.{ordered_if_rising}
use Rattle.jac_keep.proofs.SoundLaws.{rows_of_sound}
use Rattle.jac_keep.proofs.memory_keeper.own_of.Goals as goal

pub returns : goal.returns
returns c =
    c.own_near.ensures (rw c.rows-rows.ensures (ordered_if_rising _ (rows_of_sound c.args.state.now c.id_model.result c.requires)))
    ∙ ap (alternatives c.args.id) (rw c.id_model.ensures at c.rows-rows.ensures)
