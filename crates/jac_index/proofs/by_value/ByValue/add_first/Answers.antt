use Rattle.std.proofs.Common.{◌∙◌, ◌||◌, ◌==◌, List, ℕ, [], ap}
use Rattle.std.specs.BTreeMap.{get}
use Rattle.jac_value.specs.contracts.value.ValueOrd.TheImpl as order
use Rattle.jac_world.specs.World.{shown_by}
use Rattle.jac_index.proofs.Pairs.{pair_added, SetAt}
use Rattle.jac_index.proofs.by_value.ByValue.add_first.Goals as goal

pub returns-clause-added : goal.returns-clause-added
returns-clause-added c =
    let f = get order.ghosts.cmp c.args.self.now.ids in
    let g = get order.ghosts.cmp c.insert.new.self in
    let set : SetAt c.args.value.now c.add.new.self f g = rw c.in_ok-key.ensures at c.in_ok-insert.ensures.updates.0 in
    pair_added c.args.value.now c.args.id [] c.add.new.self f g set c.requires
    (λ k. c.in_ok-add.ensures.added k ∙ ap (λ (l : List ℕ). (c.args.id == k) || shown_by l k) c.empty-ids.ensures)
