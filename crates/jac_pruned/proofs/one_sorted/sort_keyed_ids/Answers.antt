use Rattle.std.proofs.Common.{rules}
use Rattle.std.proofs.lemmas.Fn.{always_returns_same}
use Rattle.jac_query.proofs.Sorting.{up-from_sorted, stable-is}
use Rattle.jac_pruned.specs.OneSorted.{id_less}
use Rattle.jac_pruned.proofs.Once.{id-order}
use Rattle.jac_pruned.proofs.one_sorted.sort_keyed_ids.Goals as goal

pub returns : goal.returns
returns c =
    let less = id_less c.args.down in
    let order = id-order c.args.down in
    stable-is less order c.args.keyed.items c.sort_by.new.self.items
    (up-from_sorted less order c.sort_by.new.self.items
    (c.in_ok-sort_by.ensures.sorted less order (always_returns_same _ _ _ (λ a r f' k. (search rules, search rules)))))
    (c.in_ok-sort_by.ensures.stable less order (always_returns_same _ _ _ (λ a r f' k. (search rules, search rules))))
