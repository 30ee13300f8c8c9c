use Rattle.std.proofs.Common.{◌≡◌, ◌∙◌, ap, List, [], ℕ, rules}
use Rattle.std.specs.BTreeMap.{get, keys}
use Rattle.std.specs.List.{list_any}
use Rattle.std.specs.Option.{is_some}
use Rattle.std.specs.Ordering.{nat_cmp, is_eq}
use Rattle.jac_world.specs.World.{shown_by}
use Rattle.jac_policy_cache.proofs.Recalling.{left_alone, watched_is_key}
use Rattle.jac_resolve.proofs.recall.add_watched.Goals as goal

pub returns-clause-added : goal.returns-clause-added
returns-clause-added c k j h =
    let watchers = c.args.watchers.now in
    let is_key : is_some (get nat_cmp watchers k) ≡ list_any (λ x. is_eq (nat_cmp k x)) (keys watchers) =
    c.keys-label-items.ensures.has k ∙ ap (λ (l : List ℕ). list_any (λ x. is_eq (nat_cmp k x)) l) c.keys-label-items.ensures.rest in
    let none : c.watched.label-iterator ≡ [] = search rules in
    left_alone (shown_by c.watched.consulted k) (shown_by c.watched.label-iterator k) (ap (λ (l : List ℕ). shown_by l k) none)
    (c.watched.invariant.added k (watched_is_key (get nat_cmp watchers k) (keys watchers) k j is_key h))
