use Rattle.std.proofs.Common.{◌+◌, sym, subst, arith, rules}
use Rattle.jac_keep.specs.Alterations.{AreApart}
use Rattle.jac_keep.proofs.IndexLaws.{own_at, altered_next}
use Rattle.jac_table_cache.specs.Held.{rows_held}
use Rattle.jac_table_cache.proofs.indexes.alter_indexes.Goals as goal

pub alter_index-requires-clause-own : goal.alter_index-requires-clause-own
alter_index-requires-clause-own c =
    let apart = subst AreApart (sym c.as_slice-items.ensures.items) c.as_slice-items.ensures.apart in
    own_at c.changed.alteration-index c.as_slice-items.result.now c.alteration-item.result (search rules) c.alteration-item.is apart.own

pub changed-preserved : goal.changed-preserved
changed-preserved c =
    let apart = subst AreApart (sym c.as_slice-items.ensures.items) c.as_slice-items.ensures.apart in
    altered_next (λ m. rows_held m c.args.tables.now) c.as_slice-items.result.now c.changed.alteration-index (c.changed.alteration-index + 1) c.alteration-item.result apart (search rules) c.alteration-item.is (omega arith)
    c.args.indexes.now c.changed.indexes c.alter_index.new.indexes c.changed.invariant c.alter_index.ensures.others c.alter_index.ensures.left
