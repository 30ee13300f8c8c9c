use Rattle.std.proofs.Common.{rules}
use Rattle.jac_world.specs.World.{IsAscending}
use Rattle.jac_lang.specs.Mirror.{application_of}
use Rattle.jac_keep.specs.WorkState.{state_of}
use Rattle.jac_resolve.proofs.CacheLemmas.{settled_valid}
use Rattle.jac_resolve.proofs.settled_cache.settle_cache.Goals as goal
use Rattle.jac_plain.specs.Shown.{worlds_of}

pub returns-clause-settled : goal.returns-clause-settled
returns-clause-settled g c told =
    let rises : IsAscending c.in_ok-labels.labels = search rules in
    settled_valid (application_of c.args.app.now) (worlds_of (state_of g.K.Keeper.seen c.args.work.now)) c.args.viewer.now c.settle_anew.new.cache c.in_ok-labels.labels rises
    c.in_ok-labels.ensures c.in_ok-settle_anew.ensures.rests (c.in_ok-settle_anew.ensures.valid told)
