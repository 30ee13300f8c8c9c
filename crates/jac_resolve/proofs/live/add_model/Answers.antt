use Rattle.jac_rows.specs.Tables.{rows_of}
use Rattle.jac_keep.specs.WorkState.{state_of}
use Rattle.jac_resolve.proofs.Collecting.{no_groups}
use Rattle.jac_resolve.proofs.live.add_model.Goals as goal

pub returns-then-groups-eq0-clause-labels : goal.returns-then-groups-eq0-clause-labels
returns-then-groups-eq0-clause-labels g c told range =
    no_groups c.args.labels.now.items c.args.groups (rows_of (state_of g.K.Keeper.seen c.args.work.now).tables c.args.model) c.if-groups-eq0.true
