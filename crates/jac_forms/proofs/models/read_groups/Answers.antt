use Rattle.std.proofs.Common.{rules, ◌≡◌, ◌+◌, refl, ap, subst, arith}
use Rattle.jac_lang.specs.Mirror.{field_group_of, groups_of}
use Rattle.jac_tree.specs.Plain.{PlainTrees, count}
use Rattle.jac_tree.specs.Mirror.{plain, plain_all}
use Rattle.jac_forms.specs.Names.{each_in_trees}
use Rattle.jac_forms.specs.Places.{path_of}
use Rattle.jac_forms.specs.Applications.{group_in_tree}
use Rattle.jac_forms.proofs.Made.{made_before, made-more, seen-pushed}
use Rattle.jac_forms.proofs.models.read_groups.Goals as goal

pub groups-preserved : goal.groups-preserved
groups-preserved c =
    let left : plain_all c.groups.left.now ≡ PlainTrees.more (plain c.deref.result.now) (plain_all c.deref-left.result.now) =
    rw (c.in-More.is, ← c.deref.ensures, ← c.deref-left.ensures) refl in
    let at = path_of c.args.place.now in
    let all = each_in_trees group_in_tree at c.args.first (plain_all c.args.trees.now) in
    let counted : count (plain_all c.groups.left.now) ≡ count (plain_all c.deref-left.result.now) + 1 = ap count left in
    record {
      count = omega (arith, c.groups.invariant.count, counted, c.in_ok-push.ensures.len);
      made =
          made-more group_in_tree at (groups_of c.groups.groups.items) (groups_of c.push.new.self.items) (field_group_of c.in_ok-group.group)
          c.groups.number _ _ (plain c.deref.result.now) (plain_all c.deref-left.result.now) all
          (seen-pushed field_group_of groups_of refl (λ _ _. refl) c.groups.groups.items c.push.new.self.items c.in_ok-group.group c.in_ok-push.ensures.items)
          (search rules) c.child.ensures c.in_ok-group.ensures.value
          (subst (λ (ts : PlainTrees). made_before (groups_of c.groups.groups.items) (each_in_trees group_in_tree at c.groups.number ts) ≡ all) left c.groups.invariant.made);
    }
