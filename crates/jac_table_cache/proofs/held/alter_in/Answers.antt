use Rattle.std.proofs.Common.{◌∙◌, ap, None, if◌then◌else◌}
use Rattle.jac_keep.specs.Alterations.{alters}
use Rattle.jac_keep.specs.Indexed.{index_at}
use Rattle.jac_table_cache.proofs.HoldingLaws.{holding_left}
use Rattle.jac_table_cache.proofs.held.alter_in.Goals as goal

pub returns-clause-holding : goal.returns-clause-holding
returns-clause-holding c =
    let changed = c.args.changed.now in
    let after = c.alter_each.new.tables.items in
    let mid = c.alter_indexes.new.indexes in
    holding_left changed c.args.tables.now.items after c.args.indexes.now mid c.forget_dropped.new.indexes c.requires c.alter_each.ensures.same c.alter_each.ensures.later
    (rw c.as_slice.ensures.value at c.alter_indexes.ensures)
    (λ m none. c.forget_dropped.ensures.gone m (rw c.as_slice-2.ensures.value none) ∙ ap (λ all. if alters m all then None else index_at m mid) c.as_slice-3.ensures.items)
    (λ m rows is. c.forget_dropped.ensures.same m rows (rw c.as_slice-2.ensures.value is))
    c.alter_each.ensures.ordered
