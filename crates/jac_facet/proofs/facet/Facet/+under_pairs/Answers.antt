use Rattle.std.proofs.Common.{rules, ◌≡◌, ◌∷◌, ap}
use Rattle.jac_world.specs.World.{holds, IsRising}
use Rattle.jac_facet.specs.Shape.{at}
use Rattle.jac_facet.proofs.Labels.{starts_at}
use Rattle.jac_facet.proofs.Joining.{under_step}
use Rattle.jac_facet.proofs.facet.Facet.+under_pairs.Goals as goal

pub split-requires-clause-high : goal.split-requires-clause-high
split-requires-clause-high g t c =
    let p : c.args.pairs.now ≡ c.in-Some.pair.now ∷ c.in-Some.rest.now = search rules in
    c.in_ok-high-in-Some-label_before.ensures.above c.in-Some-label_before.label
    (starts_at _ _ _ _ p c.in-Some-label_before.ensures.0)
    (c.side.ensures.past c.in-Some-label_before.ensures.1)
    (c.side-in-Some-label_before.ensures.past c.in-Some-label_before.ensures.2)

pub split-requires-clause-low : goal.split-requires-clause-low
split-requires-clause-low g t c =
    let p : c.args.pairs.now ≡ c.in-Some.pair.now ∷ c.in-Some.rest.now = search rules in
    c.in_ok-low-in-Some-label_before.ensures.above c.in-Some-label_before.label
    (starts_at _ _ _ _ p c.in-Some-label_before.ensures.0)
    (c.side-in-Some-label_before-2.ensures.past c.in-Some-label_before.ensures.1)
    (c.side-in-Some-label_before-3.ensures.past c.in-Some-label_before.ensures.2)

pub split_by_sign-requires-clause-met : goal.split_by_sign-requires-clause-met
split_by_sign-requires-clause-met g t c =
    let p : c.args.pairs.now ≡ c.in-Some.pair.now ∷ c.in-Some.rest.now = search rules in
    let r : IsRising (c.in-Some.pair.now ∷ c.in-Some.rest.now) = rw p at c.requires in
    c.in_ok-inner-in-None-label_before.ensures.above c.in-Some.pair.now.0 r.0
    (c.side-in-None-label_before.ensures.past c.in-None-label_before.ensures.0)
    (c.side-in-None-label_before-2.ensures.past c.in-None-label_before.ensures.1)

pub returns-in_ok-facet-in-None-label_before-clause-at :
    goal.returns-in_ok-facet-in-None-label_before-clause-at
returns-in_ok-facet-in-None-label_before-clause-at g t c w =
    let p : c.args.pairs.now ≡ c.in-Some.pair.now ∷ c.in-Some.rest.now = search rules in
    rw p
    (under_step c.in-Some.pair.now.1 (w c.in-Some.pair.now.0) (holds w c.in-Some.rest.now) _ _ _ _ _ _ _ _
    (c.in_ok-facet-in-None-label_before.ensures.at w)
    (c.in_ok-inner-in-None-label_before.ensures.at w)
    (ap (at w) c.in_ok-outer-in-None-label_before.ensures.same)
    (c.side-in-None-label_before.ensures.at w)
    (c.side-in-None-label_before-2.ensures.at w)
    (c.side-in-None-label_before-3.ensures.at w))
