use Rattle.std.proofs.Common.{◌≡◌, ◌==◌, ◌&&◌, ◌||◌, ◌∙◌, ap, rules, cond, unwrap_or, Some}
use Rattle.std.specs.BTreeMap.{get, is_at}
use Rattle.std.specs.Map.{lookup}
use Rattle.std.specs.Ordering.{nat_cmp}
use Rattle.std.specs.BTreeMap.Entry.{map_with_value}
use Rattle.jac_policy_cache.specs.Memo.{watched_in}
use Rattle.jac_policy_cache.proofs.Recalling.{at_end, watched_more, is_at_number}
use Rattle.jac_why.proofs.watch.watch.Goals as goal

pub returns : goal.returns
returns c k j =
    let old = get nat_cmp c.args.lists.now in
    let watchers = c.add.new.self in
    let none = c.empty.result in
    let after = c.in_ok-lists.ensures.update.0 watchers in
    let end = map_with_value c.in_ok-lists.field-0 watchers in
    at_end (λ es. watched_in (lookup (is_at (nat_cmp k)) es) j ≡ ((c.args.watched == k && c.args.label == j) || watched_in (old k) j)) _ end.entries
    (watched_more old (get nat_cmp end k) c.or_insert-of_watched.result.now watchers none c.args.watched c.args.label k j
    (after.0 k ∙ ap (λ b. cond b (Some watchers) (old k)) (is_at_number c.args.watched k))
    c.empty.ensures
    (c.or_insert-of_watched.ensures.value ∙ ap (λ o. unwrap_or o none) c.in_ok-lists.ensures.value)
    (c.in_ok-add.ensures j))
    (search rules)
