use Rattle.std.proofs.Common.{rules, ◌≡◌, ◌+◌, true, refl, ap, ◌∙◌, subst, arith}
use Rattle.std.specs.Prelude.{codes}
use Rattle.jac_lang.specs.Mirror.{entity_of, entities_of}
use Rattle.jac_tree.specs.Plain.{PlainTrees}
use Rattle.jac_tree.specs.Mirror.{plain, plain_all}
use Rattle.jac_forms.specs.Applications.{is_headed, headed_count, items_in_trees}
use Rattle.jac_forms.specs.Places.{path_of}
use Rattle.jac_forms.proofs.Gathered.{gathered, gathered-more, headed-more}
use Rattle.jac_forms.proofs.Made.{seen-pushed}
use Rattle.jac_forms.proofs.applications.read_items.Goals as goal

pub models-preserved : goal.models-preserved
models-preserved c =
    let t = plain c.deref-in-More.result.now in
    let ts = plain_all c.deref-left.result.now in
    let left : plain_all c.models.left.now ≡ PlainTrees.more t ts = rw (c.in-More.is, ← c.deref-in-More.ensures, ← c.deref-left.ensures) refl in
    let head : is_headed (codes "model") t ≡ true = search rules in
    let counted : headed_count (codes "model") (plain_all c.models.left.now) ≡ headed_count (codes "model") ts + 1 = ap (headed_count (codes "model")) left ∙ headed-more (codes "model") t ts head in
    let at = path_of c.args.place.now in
    let all = items_in_trees at c.args.first (plain_all c.args.trees.now) in
    record {
      few = omega (arith, c.models.invariant.few, counted, c.in_ok-push.ensures.len);
      made =
          gathered-more (entities_of c.models.models.items) (entities_of c.push.new.self.items) (entity_of c.in_ok-model.model) at c.models.number _ _ t ts all
          (seen-pushed entity_of entities_of refl (λ _ _. refl) c.models.models.items c.push.new.self.items c.in_ok-model.model c.in_ok-push.ensures.items)
          (search rules) c.child.ensures head c.in_ok-model.ensures.value
          (subst (λ (us : PlainTrees). gathered (entities_of c.models.models.items) at c.models.number us ≡ all) left c.models.invariant.made);
    }
