use Rattle.std.proofs.Common.{◌≡◌, ◌≤◌, ◌∙◌, drop, [], length, rules}
use Rattle.std.proofs.Math.ListN.{drop_of_length-le}
use Rattle.jac_keep.specs.Indexed.{index_at}
use Rattle.jac_keep.proofs.Forgotten.{forgotten, forgotten_if, indexes_left}
use Rattle.jac_keep.proofs.table_indexes.TableIndexes.forget.Goals as goal

pub returns-clause-left : goal.returns-clause-left
returns-clause-left c m =
    let changed = c.args.changed.now in
    let past : length changed ≤ c.changed.alteration-index = search rules in
    let none : drop c.changed.alteration-index changed ≡ [] = drop_of_length-le changed past in
    let end : index_at m c.changed.self ≡ forgotten m changed (index_at m c.args.self.now) = rw none at (c.changed.invariant m) in
    end ∙ forgotten_if m changed (index_at m c.args.self.now)

pub returns-clause-right : goal.returns-clause-right
returns-clause-right c tables right =
    let changed = c.args.changed.now in
    let past : length changed ≤ c.changed.alteration-index = search rules in
    let none : drop c.changed.alteration-index changed ≡ [] = drop_of_length-le changed past in
    indexes_left changed tables c.args.self.now c.changed.self
    (λ m.
    let end : index_at m c.changed.self ≡ forgotten m changed (index_at m c.args.self.now) = rw none at (c.changed.invariant m) in
    end ∙ forgotten_if m changed (index_at m c.args.self.now))
    right
