use Rattle.std.proofs.Common.{◌≡◌, ◌∙◌, ap, List, [], ℕ, rules}
use Rattle.std.specs.BTreeMap.{get, keys}
use Rattle.std.specs.List.{list_any}
use Rattle.std.specs.Option.{is_some}
use Rattle.std.specs.Ordering.{nat_cmp, is_eq}
use Rattle.jac_world.specs.World.{shown_by}
use Rattle.jac_policy_cache.specs.Affected.{is_in_group}
use Rattle.jac_policy_cache.proofs.Recalling.{asked_all, key_is_shown}
use Rattle.jac_policy_cache.proofs.by_group.add_asked.Goals as goal

pub returns : goal.returns
returns c k =
    let given = c.args.given.now in
    let is_key : is_some (get nat_cmp given k) ≡ list_any (λ x. is_eq (nat_cmp k x)) (keys given) =
    c.keys-label-items.ensures.has k ∙ ap (λ (l : List ℕ). list_any (λ x. is_eq (nat_cmp k x)) l) c.keys-label-items.ensures.rest in
    let none : c.asked.label-iterator ≡ [] = search rules in
    asked_all (shown_by c.asked.labels.items k) (shown_by c.args.labels.now.items k) (is_in_group c.args.group.now k) (shown_by (keys given) k) (shown_by c.asked.label-iterator k) (is_some (get nat_cmp given k))
    (ap (λ (l : List ℕ). shown_by l k) none) (is_key ∙ key_is_shown (keys given) k) (c.asked.invariant k)
