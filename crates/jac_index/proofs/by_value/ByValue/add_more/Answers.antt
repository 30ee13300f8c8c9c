use Rattle.std.proofs.Common.{List, ℕ, Option, ap, sym, rules}
use Rattle.std.specs.BTreeMap.{get}
use Rattle.jac_value.specs.contracts.value.ValueOrd.TheImpl as order
use Rattle.jac_world.specs.World.{shown_by}
use Rattle.jac_index.specs.Triples.{ids_or_none}
use Rattle.jac_index.proofs.Pairs.{pair_added, pair_same, SetAt, on_ok, on_err}
use Rattle.jac_index.proofs.by_value.ByValue.add_more.Goals as goal

pub returns-in-Some-clause-added : goal.returns-in-Some-clause-added
returns-in-Some-clause-added c =
    let v = c.args.value.now in
    let f = get order.ghosts.cmp c.args.self.now.ids in
    let g = get order.ghosts.cmp (c.get_mut.follows.lender c.add.new.self) in
    let set : SetAt v c.add.new.self f g = ((c.get_mut.follows.holds c.add.new.self).3 (search rules)).0 in
    let at = λ (k : ℕ). ap (λ (o : Option (List ℕ)). shown_by (ids_or_none o) k) (sym c.in-Some.ensures.value) in
    on_ok c.add.result _ _ (λ more. pair_added v c.args.id c.in-Some.ids.now c.add.new.self f g set at more) c.add.ensures.added

pub returns-in-Some-clause-kept : goal.returns-in-Some-clause-kept
returns-in-Some-clause-kept c =
    let v = c.args.value.now in
    let f = get order.ghosts.cmp c.args.self.now.ids in
    let g = get order.ghosts.cmp (c.get_mut.follows.lender c.add.new.self) in
    let set : SetAt v c.add.new.self f g = ((c.get_mut.follows.holds c.add.new.self).3 (search rules)).0 in
    let at = λ (k : ℕ). ap (λ (o : Option (List ℕ)). shown_by (ids_or_none o) k) (sym c.in-Some.ensures.value) in
    on_err c.add.result _ _ (λ same. pair_same v c.in-Some.ids.now c.add.new.self f g set at same) c.add.ensures.kept
