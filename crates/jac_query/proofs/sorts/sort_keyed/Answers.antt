use Rattle.std.proofs.Common.{rules}
use Rattle.std.proofs.lemmas.Fn.{always_returns_same}
use Rattle.jac_query.specs.Sorted.{keyed_less}
use Rattle.jac_query.proofs.Keying.{keyed-order, sorted-all, sorted-live, keyed_ids-permutation}
use Rattle.jac_query.proofs.sorts.sort_keyed.Goals as goal

pub returns-clause-exact : goal.returns-clause-exact
returns-clause-exact c =
    sorted-all c.args.down c.args.keyed.items c.sort_by.new.self.items
    (c.in_ok-sort_by.ensures.sorted (keyed_less c.args.down) (keyed-order c.args.down) (always_returns_same _ _ _ (λ a r f' k. (search rules, search rules))))
    (c.in_ok-sort_by.ensures.stable (keyed_less c.args.down) (keyed-order c.args.down) (always_returns_same _ _ _ (λ a r f' k. (search rules, search rules))))

pub returns-clause-live : goal.returns-clause-live
returns-clause-live c w =
    sorted-live c.args.down w c.args.keyed.items c.sort_by.new.self.items
    (c.in_ok-sort_by.ensures.sorted (keyed_less c.args.down) (keyed-order c.args.down) (always_returns_same _ _ _ (λ a r f' k. (search rules, search rules))))
    (c.in_ok-sort_by.ensures.stable (keyed_less c.args.down) (keyed-order c.args.down) (always_returns_same _ _ _ (λ a r f' k. (search rules, search rules))))

pub returns-clause-ids : goal.returns-clause-ids
returns-clause-ids c p h = keyed_ids-permutation p c.args.keyed.items c.sort_by.new.self.items c.in_ok-sort_by.ensures.permutation h
