use Rattle.std.proofs.Common.{◌≡◌, ◌∙◌, ap, take}
use Rattle.jac_keep.specs.Records.{alternatives}
use Rattle.jac_keep.proofs.Rewritten.{follows}
use Rattle.jac_keep.proofs.table_index.TableIndex.altered.Goals as goal

pub returns-clause-follows : goal.returns-clause-follows
returns-clause-follows c =
    let id = c.args.alteration.now.id in
    let own : c.split_at-2.result.0.now ≡ alternatives id c.args.rows.now =
    c.split_at-2.ensures.front ∙ ap (take c.place_in-place.result.count) c.split_at.ensures.back ∙ c.place_in-place.ensures.own in
    follows id (alternatives id c.args.rows.now) c.args.alteration.now.rows c.args.self (record { fields = c.in_ok-fields.fields }) c.requires.own
    (rw (own, c.as_slice.ensures) at c.in_ok-fields.ensures)
