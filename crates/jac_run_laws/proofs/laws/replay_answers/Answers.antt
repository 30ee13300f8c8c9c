use Rattle.jac_run_laws.proofs.Replays.{has_replayed}
use Rattle.jac_run_laws.proofs.laws.replay_answers.Goals as goal

pub returns : goal.returns
returns g c words replay top ran is_replay told = has_replayed words replay top ran is_replay told
