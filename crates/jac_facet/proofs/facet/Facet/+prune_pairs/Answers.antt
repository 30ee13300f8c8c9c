use Rattle.std.proofs.Common.{rules, ◌≡◌, ◌∷◌, true}
use Rattle.jac_world.specs.World.{holds}
use Rattle.jac_facet.proofs.Labels.{starts_at, not_below}
use Rattle.jac_facet.proofs.Joining.{prune_step}
use Rattle.jac_facet.proofs.facet.Facet.+prune_pairs.Goals as goal

pub split-requires-clause-high : goal.split-requires-clause-high
split-requires-clause-high g t c =
    c.in_ok-high-in-Some-label_before.ensures.above c.in-Some-label_before.label (c.side.ensures.past c.in-Some-label_before.ensures.1)

pub split-requires-clause-low : goal.split-requires-clause-low
split-requires-clause-low g t c =
    c.in_ok-low-in-Some-label_before.ensures.above c.in-Some-label_before.label (c.side-in-Some-label_before.ensures.past c.in-Some-label_before.ensures.1)

pub returns-in_ok-facet-in-Some-label_before-clause-pruned :
    goal.returns-in_ok-facet-in-Some-label_before-clause-pruned
returns-in_ok-facet-in-Some-label_before-clause-pruned g t c k b h =
    let p : c.args.pairs.now ≡ c.in-Some.pair.now ∷ c.in-Some.rest.now = search rules in
    c.in_ok-facet-in-Some-label_before.ensures.labels k
    (not_below c.in-Some-label_before.label k b c.args.pairs.now (starts_at _ _ _ _ p c.in-Some-label_before.ensures.0) c.requires h)
    (c.in_ok-high-in-Some-label_before.ensures.pruned k b h)
    (c.in_ok-low-in-Some-label_before.ensures.pruned k b h)

pub returns-in_ok-facet-in-None-label_before-clause-at :
    goal.returns-in_ok-facet-in-None-label_before-clause-at
returns-in_ok-facet-in-None-label_before-clause-at g t c w h =
    let p : c.args.pairs.now ≡ c.in-Some.pair.now ∷ c.in-Some.rest.now = search rules in
    let e : holds w (c.in-Some.pair.now ∷ c.in-Some.rest.now) ≡ true = rw p at h in
    prune_step c.in-Some.pair.now.1 (w c.in-Some.pair.now.0) (holds w c.in-Some.rest.now) _ _ _ e
    (c.in_ok-facet-in-None-label_before.ensures.at w)
    (c.side_without-below.ensures.at w)

pub returns-in_ok-facet-in-None-label_before-clause-above :
    goal.returns-in_ok-facet-in-None-label_before-clause-above
returns-in_ok-facet-in-None-label_before-clause-above g t c k h = c.in_ok-facet-in-None-label_before.ensures.above k (c.side_without-below.ensures.above k h)
