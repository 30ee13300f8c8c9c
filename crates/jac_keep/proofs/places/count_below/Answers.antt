use Rattle.std.proofs.Common.{nat_lt, rules, of_calls}
use Rattle.std.proofs.lemmas.List.Sorted.{IsPartitionPoint-from_clause, IsPartitionedBy-ltb}
use Rattle.jac_rows.specs.declared.row.Row.{Row}
use Rattle.jac_keep.proofs.Bisection.{IsPoint, rows_rise, taken, left}
use Rattle.jac_keep.proofs.places.count_below.Goals as goal

pub returns-clause-low : goal.returns-clause-low
returns-clause-low c = λ ordered.
    let parted = IsPartitionedBy-ltb (λ (r : Row). r.id) _ c.args.id (rows_rise _ ordered) in
    let point : IsPoint (λ i. nat_lt i c.args.id) c.args.rows.now c.partition_point.result =
    IsPartitionPoint-from_clause (λ (r : Row). nat_lt r.id c.args.id) _ _ c.partition_point.ensures.partitioned parted (λ a r q k. search (rules, of_calls)) in
    taken (λ i. nat_lt i c.args.id) c.args.rows.now c.partition_point.result point

pub returns-clause-high : goal.returns-clause-high
returns-clause-high c = λ ordered.
    let parted = IsPartitionedBy-ltb (λ (r : Row). r.id) _ c.args.id (rows_rise _ ordered) in
    let point : IsPoint (λ i. nat_lt i c.args.id) c.args.rows.now c.partition_point.result =
    IsPartitionPoint-from_clause (λ (r : Row). nat_lt r.id c.args.id) _ _ c.partition_point.ensures.partitioned parted (λ a r q k. search (rules, of_calls)) in
    left (λ i. nat_lt i c.args.id) c.args.rows.now c.partition_point.result point
