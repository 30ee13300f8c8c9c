use Rattle.jac_run_laws.proofs.SameReplays.{have_replayed}
use Rattle.jac_run_laws.proofs.laws.replays_answer.Goals as goal

pub returns : goal.returns
returns g c words replay one two ran ran' is_replay told told' files =
    have_replayed words replay one two ran ran' is_replay told told' files
