use Rattle.std.proofs.Common.{rules, ◌≡◌, ◌+◌, ◌∷◌, length, ap, subst, sym, arith}
use Rattle.std.proofs.lemmas.List.{nil_from_length}
use Rattle.std.specs.Vec.Iter.{into_iter_items}
use Rattle.jac_lang.specs.Mirror.{page_of_view, pages_of}
use Rattle.jac_template.proofs.Bodies.{ViewsLead, views_on, views_whole}
use Rattle.jac_template.proofs.application.expand_views.Goals as goal

pub views-preserved : goal.views-preserved
views-preserved c =
    let left = into_iter_items c.views.view-iterator in
    let rest = into_iter_items c.next.new.self in
    let parts : left ≡ c.in-Some.view ∷ rest = search rules in
    let counted : length left ≡ length rest + 1 = omega (arith, ap length parts) in
    let next : c.saturating_add-number.result ≡ c.views.number + 1 = omega (arith, counted, c.views.invariant.count, c.requires.few, c.saturating_add-number.ensures) in
    let (p, one, plain, made) = c.in-Ok.ensures.view in
    record {
      count = omega (arith, counted, next, c.views.invariant.count);
      leads = subst (λ n. ViewsLead (pages_of c.args.views) (pages_of c.expand_view.new.out.items) (pages_of rest) n) (sym next)
          (views_on _ _ _ _ _ (page_of_view c.in-Some.view) p c.views.number (ap pages_of parts) made one plain c.views.invariant.leads);
    }

pub returns-clause-views : goal.returns-clause-views
returns-clause-views c =
    let none : length (into_iter_items c.views.view-iterator) ≡ 0 = search rules in
    let end = ap pages_of (nil_from_length _ none) in
    rw c.from_vec.ensures (views_whole _ _ _ c.views.number end c.views.invariant.leads)
