use Rattle.std.proofs.Common.{List, ℕ, Option, ap, sym, rules}
use Rattle.std.specs.BTreeMap.{get}
use Rattle.jac_value.specs.contracts.value.ValueOrd.TheImpl as order
use Rattle.jac_world.specs.World.{shown_by}
use Rattle.jac_index.specs.Triples.{ids_or_none}
use Rattle.jac_index.proofs.Pairs.{pair_removed, pair_none, SetAt}
use Rattle.jac_index.proofs.by_value.ByValue.remove_id.Goals as goal

pub returns-in-Some-clause-removed : goal.returns-in-Some-clause-removed
returns-in-Some-clause-removed c =
    let v = c.args.value.now in
    let f = get order.ghosts.cmp c.args.self.now.ids in
    let g = get order.ghosts.cmp (c.get_mut.follows.lender c.remove.new.self) in
    let set : SetAt v c.remove.new.self f g = ((c.get_mut.follows.holds c.remove.new.self).3 (search rules)).0 in
    let at = λ (k : ℕ). ap (λ (o : Option (List ℕ)). shown_by (ids_or_none o) k) (sym c.in-Some.ensures.value) in
    pair_removed v c.args.id c.in-Some.ids.now c.remove.new.self f g set at c.remove.ensures

pub returns-in-None-clause-removed : goal.returns-in-None-clause-removed
returns-in-None-clause-removed c =
    let f = get order.ghosts.cmp c.args.self.now.ids in
    let g = get order.ghosts.cmp c.get_mut.follows.lender-at-none in
    pair_none c.args.value.now c.args.id f g (ap (get order.ghosts.cmp) c.get_mut.follows.holds-at-none) (sym (rw c.in-None.is at c.get_mut.ensures.value))
