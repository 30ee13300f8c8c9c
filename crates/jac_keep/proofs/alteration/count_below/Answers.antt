use Rattle.std.proofs.Common.{nat_lt, rules, of_calls}
use Rattle.std.proofs.lemmas.List.Sorted.{IsPartitionPoint-from_clause, IsPartitionedBy-ltb}
use Rattle.jac_keep.specs.declared.alteration.Alteration.{Alteration}
use Rattle.jac_keep.proofs.Bisection.{names_rise}
use Rattle.jac_keep.proofs.alteration.count_below.Goals as goal

pub returns-clause-point : goal.returns-clause-point
returns-clause-point c =
    let parted = IsPartitionedBy-ltb (λ (a : Alteration). a.id) _ c.args.id (names_rise _ c.requires) in
    IsPartitionPoint-from_clause (λ (a : Alteration). nat_lt a.id c.args.id) _ _ c.partition_point.ensures.partitioned parted (λ a r q k. search (rules, of_calls))
