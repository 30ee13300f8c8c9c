use Rattle.std.proofs.Common.{◌≡◌, ◌∙◌, ap}
use Rattle.jac_keep.specs.ChangedState.{changed_state}
use Rattle.jac_keep.proofs.SoundLaws.{tables_of_sound}
use Rattle.jac_keep.proofs.memory_keeper.MemoryKeeperKeeper.apply.Goals as goal

pub alter_together-requires-clause-rising : goal.alter_together-requires-clause-rising
alter_together-requires-clause-rising c = tables_of_sound c.self.inside.state c.self.invariant.sound

pub alter_together-requires-clause-stay : goal.alter_together-requires-clause-stay
alter_together-requires-clause-stay c =
    let same : c.self.inside.state ≡ c.args.self.now.state = ap (λ k. k.state) (c.self.view_is ∙ c.count_apply.ensures.left) in
    tables_of_sound (changed_state c.args.change.now c.self.inside.state) (rw same c.requires.good)
