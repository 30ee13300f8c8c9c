use Rattle.std.proofs.Common.{◌≡◌, ◌||◌, sym, subst, rules, true, ◌∷◌}
use Rattle.std.specs.List.{AllByRecursion, Contains}
use Rattle.std.specs.Vec.Iter.{into_iter_items}
use Rattle.std.proofs.lemmas.Bool.{or_right}
use Rattle.jac_keep.specs.Alterations.{with_alteration}
use Rattle.jac_upgrade.specs.Steps.{IsOwnAlteration, is_changed}
use Rattle.jac_upgrade.proofs.Renaming.{all_of, all_renamed, named_put, within_itself}
use Rattle.jac_upgrade.proofs.order.put_all.Goals as goal

pub made-init : goal.made-init
made-init c =
    let made = c.args.made.items in
    let items : into_iter_items c.into_iter-alteration-iterator.result ≡ made = search rules in (
      subst (λ xs. AllByRecursion IsOwnAlteration xs) (sym items) c.requires,
      subst (λ xs. AllByRecursion (Contains made) xs) (sym items) (within_itself made),
      subst (λ xs. AllByRecursion (Contains made) xs) (sym c.empty-changed.ensures) tt,
      λ id h. or_right (is_changed id c.empty-changed.result) (is_changed id (into_iter_items c.into_iter-alteration-iterator.result)) (subst (λ xs. is_changed id xs ≡ true) (sym items) h),
    )

pub put-requires : goal.put-requires
put-requires c =
    let a = c.in-Some.alteration in
    let items : into_iter_items c.made.alteration-iterator ≡ a ∷ into_iter_items c.next.new.self = search rules in
    let own = subst (λ xs. AllByRecursion IsOwnAlteration xs) items c.made.invariant.0 in
    all_of a.id a.rows own.0

pub made-preserved : goal.made-preserved
made-preserved c =
    let a = c.in-Some.alteration in
    let made = c.args.made.items in
    let left = into_iter_items c.next.new.self in
    let items : into_iter_items c.made.alteration-iterator ≡ a ∷ left = search rules in
    let own = subst (λ xs. AllByRecursion IsOwnAlteration xs) items c.made.invariant.0 in
    let within = subst (λ xs. AllByRecursion (Contains made) xs) items c.made.invariant.1 in
    let put : c.put.new.self ≡ with_alteration a.id a.rows c.made.changed = c.in_ok-put.ensures.put in (
      own.1,
      within.1,
      subst (λ xs. AllByRecursion (Contains made) xs) (sym put) (all_renamed (Contains made) a.id a.rows c.made.changed within.0 c.made.invariant.2),
      λ id h. subst (λ xs. (is_changed id xs || is_changed id left) ≡ true) (sym put)
          (named_put id a.id a.rows c.made.changed left (subst (λ xs. (is_changed id c.made.changed || is_changed id xs) ≡ true) items (c.made.invariant.3 id h))),
    )
