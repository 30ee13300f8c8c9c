use Rattle.std.proofs.Common.{◌≡◌, ◌≤◌, ◌∙◌, drop, [], length, rules}
use Rattle.std.proofs.Math.ListN.{drop_of_length-le}
use Rattle.jac_keep.specs.Indexed.{index_at}
use Rattle.jac_keep.proofs.Forgotten.{forgotten, forgotten_if}
use Rattle.jac_table_cache.proofs.indexes.forget_dropped.Goals as goal

pub returns-clause-gone : goal.returns-clause-gone
returns-clause-gone c m out =
    let changed = c.args.changed.now in
    let past : length changed ≤ c.changed.alteration-index = search rules in
    let none : drop c.changed.alteration-index changed ≡ [] = drop_of_length-le changed past in
    let end : index_at m c.changed.indexes ≡ forgotten m changed (index_at m c.args.indexes.now) = rw none at (c.changed.invariant.gone m out) in
    end ∙ forgotten_if m changed (index_at m c.args.indexes.now)
