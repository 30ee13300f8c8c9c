use Rattle.std.proofs.Common.{◌∙◌}
use Rattle.jac_world.specs.World.{shown_by}
use Rattle.jac_keep.proofs.PlacingLaws.{with_id-like}
use Rattle.jac_keep.specs.MatchingRecords.{holds_cell}
use Rattle.jac_keep.proofs.scan.holders.Goals as goal

pub returns : goal.returns
returns c =
    let rows = c.args.rows.now in
    c.from_vec.ensures
    ∙ c.in_ok-found.ensures
    ∙ with_id-like (shown_by c.in_ok-ids.ids) (holds_cell c.args.field c.args.value.now rows) rows c.in_ok-ids.ensures
