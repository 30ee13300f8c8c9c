use Rattle.std.proofs.Common.{◌∙◌}
use Rattle.jac_lang.specs.Mirror.{application_of}
use Rattle.jac_keep.specs.WorkState.{state_of}
use Rattle.jac_resolve.proofs.Moving.{valid_empty}
use Rattle.jac_resolve.proofs.settled_cache.settle_first.Goals as goal
use Rattle.jac_plain.specs.Shown.{worlds_of}

pub settle_all-requires-clause-valid : goal.settle_all-requires-clause-valid
settle_all-requires-clause-valid g c told =
    valid_empty (application_of c.args.app.now) (worlds_of (state_of g.K.Keeper.seen c.args.work.now)) c.args.viewer.now c.forget_answers.new.cache
    (record { labels = c.forget_answers.ensures.labels ∙ c.requires.unsettled; recalls = c.forget_answers.ensures.empty.recalls })
