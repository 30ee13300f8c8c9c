use Rattle.std.proofs.Common.{◌≡◌, ◌==◌, ◌&&◌, ◌||◌, if◌then◌else◌, ◌∙◌, ap, rules, [], ◌∷◌, ◌++◌, cond, unwrap_or, Some}
use Rattle.std.specs.BTreeMap.{get, is_at}
use Rattle.std.specs.Map.{lookup}
use Rattle.std.specs.Ordering.{nat_cmp}
use Rattle.std.specs.BTreeMap.Entry.{map_with_value}
use Rattle.jac_policy_cache.specs.Memo.{depends_in, recall_in, or_known}
use Rattle.jac_world.specs.World.{names}
use Rattle.jac_policy_cache.specs.declared.policy_memo.LabelMemo.{LabelMemo}
use Rattle.jac_policy_cache.proofs.Recalling.{at_end, given_more, depended_more, or_none, is_at_number}
use Rattle.jac_policy_cache.proofs.by_group.give.Goals as goal

pub returns-clause-recalls : goal.returns-clause-recalls
returns-clause-recalls c k w =
    let old = get nat_cmp c.args.given.now in
    let none : LabelMemo = record { answers = c.new.result } in
    let given : LabelMemo = record { answers = c.push.new.self } in
    let after = c.in_ok-given.ensures.update.0 given in
    let end = map_with_value c.in_ok-given.field-0 given in
    at_end (λ es. recall_in (lookup (is_at (nat_cmp k)) es) w ≡ (if c.args.label == k then or_known (recall_in (old k) w) c.args.known w else recall_in (old k) w)) _ end.entries
    (given_more old (get nat_cmp end k) given c.args.known c.args.label k w
    (after.0 k ∙ ap (λ b. cond b (Some given) (old k)) (is_at_number c.args.label k))
    (c.in_ok-push.ensures.items
    ∙ ap (λ (g : LabelMemo). g.answers.items ++ c.args.known ∷ []) (c.or_insert-of_label.ensures.value ∙ ap (λ o. unwrap_or o none) c.in_ok-given.ensures.value)
    ∙ ap (λ l. l ++ c.args.known ∷ []) (or_none (old c.args.label) none c.new.ensures.items)))
    (search rules)

pub returns-clause-depends : goal.returns-clause-depends
returns-clause-depends c j k =
    let old = get nat_cmp c.args.given.now in
    let none : LabelMemo = record { answers = c.new.result } in
    let given : LabelMemo = record { answers = c.push.new.self } in
    let after = c.in_ok-given.ensures.update.0 given in
    let end = map_with_value c.in_ok-given.field-0 given in
    at_end (λ es. depends_in (lookup (is_at (nat_cmp j)) es) k ≡ ((c.args.label == j && names c.args.known.when k) || depends_in (old j) k)) _ end.entries
    (depended_more old (get nat_cmp end j) given c.args.known c.args.label j k
    (after.0 j ∙ ap (λ b. cond b (Some given) (old j)) (is_at_number c.args.label j))
    (c.in_ok-push.ensures.items
    ∙ ap (λ (g : LabelMemo). g.answers.items ++ c.args.known ∷ []) (c.or_insert-of_label.ensures.value ∙ ap (λ o. unwrap_or o none) c.in_ok-given.ensures.value)
    ∙ ap (λ l. l ++ c.args.known ∷ []) (or_none (old c.args.label) none c.new.ensures.items)))
    (search rules)
