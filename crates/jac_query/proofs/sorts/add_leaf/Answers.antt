use Rattle.std.proofs.Common.{rules, ◌≡◌, ap}
use Rattle.jac_world.specs.World.{holds}
use Rattle.jac_query.proofs.Keying.{keyed_at-pushed, keyed_ids-pushed}
use Rattle.jac_query.proofs.sorts.add_leaf.Goals as goal

pub returns-clause-live : goal.returns-clause-live
returns-clause-live c w =
    let i : c.in_ok-ids.ids ≡ c.args.ids.now = search rules in
    let k : c.in_ok-key.key ≡ c.args.leaf.now.1 = search rules in
    let gu : c.in_ok-guard.guard ≡ c.args.leaf.now.0 = search rules in
    keyed_at-pushed w _ _ _ _ _ _ c.in_ok-push.ensures.items (ap (holds w) gu) i k

pub returns-clause-ids : goal.returns-clause-ids
returns-clause-ids c p h =
    let i : c.in_ok-ids.ids ≡ c.args.ids.now = search rules in
    keyed_ids-pushed p _ _ _ _ c.in_ok-push.ensures.items i h
