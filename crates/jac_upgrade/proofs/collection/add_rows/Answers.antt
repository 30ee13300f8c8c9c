use Rattle.std.proofs.Common.{◌≡◌, ◌==◌, sym, subst, rules, false, true, drop, length, take}
use Rattle.jac_lang.specs.Mirror.{entities_of}
use Rattle.jac_upgrade.specs.Steps.{AltersFirst}
use Rattle.jac_upgrade.proofs.Walking.{Walked, none_left, some_left, walk_ends, walk_goes, walk_starts}
use Rattle.jac_upgrade.proofs.collection.add_rows.Goals as goal

pub records-init : goal.records-init
records-init g c = walk_starts (entities_of c.args.old.now.models) (entities_of c.args.new.now.models) c.args.model c.args.rows.now c.args.made.now.items

pub records-preserved : goal.records-preserved
records-preserved g c =
    let olds = entities_of c.args.old.now.models in
    let news = entities_of c.args.new.now.models in
    let left = c.records.left.now in
    let n = c.first_count.result in
    let made = c.records.made.items in
    let new = c.add_record.new.made.items in
    let some : (length left == 0) ≡ false = search rules in
    let front : c.split_at.result.0.now ≡ take n left = c.split_at.ensures.front in
    let back : c.split_at.result.1.now ≡ drop n left = c.split_at.ensures.back in
    let first : AltersFirst olds news c.args.model (take n left) made new = subst (λ rows. AltersFirst olds news c.args.model rows made new) front c.in_ok-add_record.ensures in
    subst (λ rows. Walked olds news c.args.model c.args.rows.now rows c.args.made.now.items new) (sym back)
    (walk_goes olds news c.args.model n c.args.rows.now left c.args.made.now.items made new (some_left left some) c.first_count.ensures.count c.records.invariant first)

pub returns : goal.returns
returns g c =
    let left = c.records.left.now in
    let none : (length left == 0) ≡ true = search rules in
    walk_ends (entities_of c.args.old.now.models) (entities_of c.args.new.now.models) c.args.model c.args.rows.now left c.args.made.now.items c.records.made.items
    (none_left left none) c.records.invariant
