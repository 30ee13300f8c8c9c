use Rattle.std.proofs.Common.{◌∙◌, ap}
use Rattle.jac_keep.specs.WorkState.{state_of}
use Rattle.jac_plain.specs.World.{got}
use Rattle.jac_shown_rows.specs.Seen.{app_at, seen_at}
use Rattle.jac_shown_rows.specs.Own.{table_named}
use Rattle.jac_shown_rows.proofs.OwnRows.{any_read}
use Rattle.jac_pruned.proofs.order.key_at.Goals as goal

pub returns-clause-key : goal.returns-clause-key
returns-clause-key g c told w agree =
    c.in_ok-key.ensures.value told w agree
    ∙ ap (got (seen_at c.args.at.now (state_of g.K.Keeper.seen c.args.work.now) w) c.args.model.now c.args.by.now.field.now) c.in_ok-record.ensures

pub returns-clause-own : goal.returns-clause-own
returns-clause-own g c told this all own =
    c.in_ok-key.ensures.own told this
    (any_read this c.in_ok-record.record (table_named (app_at c.args.at.now) (state_of g.K.Keeper.seen c.args.work.now) c.args.model.now) all) own
