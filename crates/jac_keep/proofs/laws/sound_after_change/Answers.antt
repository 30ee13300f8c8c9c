use Rattle.jac_keep.proofs.SoundLaws.{sound-applied}
use Rattle.jac_keep.proofs.laws.sound_after_change.Goals as goal

pub returns : goal.returns
returns c = sound-applied
