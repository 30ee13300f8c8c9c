use Rattle.std.proofs.Common.{rules, ◌≡◌, map, ap, ◌∙◌}
use Rattle.jac_query.specs.Live.{live, all_ids}
use Rattle.jac_query.specs.Marked.{marked_tuples}
use Rattle.jac_query.specs.Sorted.{sorted_by, key_less, keyed_at, tuples_of}
use Rattle.jac_query.proofs.Keying.{live-tuples, ids-tuples}
use Rattle.jac_query.proofs.sorts.order.Goals as goal

pub returns-clause-live : goal.returns-clause-live
returns-clause-live g c w =
    let e : c.from_vec.result ≡ tuples_of c.in_ok-sorted.sorted.items = search rules in
    let m : keyed_at w c.in_ok-keyed.keyed.items ≡ marked_tuples w c.args.tuples.now c.args.keys.now = search rules in
    ap (live w) e ∙ (live-tuples w c.in_ok-sorted.sorted.items ∙ ap (map (λ p. p.0)) (c.in_ok-sorted.ensures.live w ∙ ap (sorted_by (key_less c.args.down)) m))

pub returns-clause-ids : goal.returns-clause-ids
returns-clause-ids g c p h =
    let e : c.from_vec.result ≡ tuples_of c.in_ok-sorted.sorted.items = search rules in
    let s : c.as_slice.result.now ≡ c.args.tuples.now = search rules in
    ap (all_ids p) e ∙ (ids-tuples p c.in_ok-sorted.sorted.items ∙ c.in_ok-sorted.ensures.ids p (c.in_ok-keyed.ensures.ids p (ap (all_ids p) s ∙ h)))
