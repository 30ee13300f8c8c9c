use Rattle.std.proofs.Common.{◌≡◌, true, rules}
use Rattle.jac_lang.specs.Mirror.{application_of}
use Rattle.jac_keep.specs.WorkState.{state_of}
use Rattle.jac_plain.specs.Policies.{has_group}
use Rattle.jac_resolve.proofs.Collecting.{live_by_record}
use Rattle.jac_resolve.proofs.live.is_live.Goals as goal

pub returns-clause-live : goal.returns-clause-live
returns-clause-live g c told =
    let app = application_of c.args.app.now in
    let group : has_group app c.args.label ≡ true = search rules in
    live_by_record app (state_of g.K.Keeper.seen c.args.work.now) c.args.label c.as_slice.result.now c.can_be_seen.result (search rules) group c.can_be_seen.ensures
