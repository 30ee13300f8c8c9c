use Rattle.jac_keep.proofs.SoundLaws as laws
use Rattle.jac_keep.proofs.laws.sound_if_good.Goals as goal

pub returns : goal.returns
returns c = laws.sound_if_good
