use Rattle.std.proofs.Common.{rules, ap, arith, length, ◌≡◌, refl, subst}
use Rattle.jac_lang.specs.Mirror.{page_of_view, pages_of}
use Rattle.jac_tree.specs.Plain.{PlainTrees}
use Rattle.jac_tree.specs.Mirror.{plain, plain_all}
use Rattle.jac_forms.specs.Names.{each_in_trees}
use Rattle.jac_forms.specs.Places.{path_of}
use Rattle.jac_forms.specs.Applications.{page_in_tree}
use Rattle.jac_forms.proofs.Made.{made_before, made-more, seen-pushed}
use Rattle.jac_forms.proofs.applications.read_views.Goals as goal

pub views-preserved : goal.views-preserved
views-preserved c =
    let left : plain_all c.views.left.now ≡ PlainTrees.more (plain c.deref.result.now) (plain_all c.deref-left.result.now) =
    rw (c.in-More.is, ← c.deref.ensures, ← c.deref-left.ensures) refl in
    let at = path_of c.args.place.now in
    let all = each_in_trees page_in_tree at c.args.first (plain_all c.args.trees.now) in
    record {
      few = search rules;
      fits = search rules;
      made = made-more page_in_tree at (pages_of c.views.views.items) (pages_of c.push.new.self.items) (page_of_view c.in_ok-view.view)
          c.views.number _ _ (plain c.deref.result.now) (plain_all c.deref-left.result.now) all
          (seen-pushed page_of_view pages_of refl (λ _ _. refl) c.views.views.items c.push.new.self.items c.in_ok-view.view c.in_ok-push.ensures.items)
          (search rules) c.child.ensures c.in_ok-view.ensures.value
          (subst (λ (ts : PlainTrees). made_before (pages_of c.views.views.items) (each_in_trees page_in_tree at c.views.number ts) ≡ all) left c.views.invariant.made);
    }

pub returns-clause-few : goal.returns-clause-few
returns-clause-few c = let n = ap length c.from_vec.ensures in omega (arith, n, c.views.invariant.few, c.views.invariant.fits)
