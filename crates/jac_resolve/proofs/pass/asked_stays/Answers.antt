use Rattle.jac_world.specs.World.{shown_by}
use Rattle.jac_lang.specs.Mirror.{application_of}
use Rattle.jac_keep.specs.WorkState.{state_of}
use Rattle.jac_resolve.proofs.Underway.{stays_one}
use Rattle.jac_resolve.proofs.pass.asked_stays.Goals as goal
use Rattle.jac_plain.specs.Shown.{worlds_of}

pub returns-clause-value : goal.returns-clause-value
returns-clause-value g c told right =
    stays_one (application_of c.args.app.now) (worlds_of (state_of g.K.Keeper.seen c.args.work.now)) c.args.viewer.now c.ask.new.answers (shown_by c.args.a.now) c.args.label c.in_ok-holds.holds c.requires.own
    (c.in_ok-holds.ensures.answer told right) c.in_ok-holds.ensures.fits
