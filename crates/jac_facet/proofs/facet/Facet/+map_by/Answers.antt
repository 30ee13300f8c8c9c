use Rattle.std.proofs.Common.{◌≡◌, ap, sym, ◌∙◌, Ok}
use Rattle.std.specs.Fn.{FnReturnsAt}
use Rattle.jac_facet.specs.Shape.{at}
use Rattle.jac_facet.proofs.Joining.{joined_one}
use Rattle.jac_facet.proofs.facet.Facet.+map_by.Goals as goal

pub split-requires-clause-high : goal.split-requires-clause-high
split-requires-clause-high g t c = c.in_ok-high-in-Some.ensures.above c.in-Some.label (c.side.ensures.past c.in-Some.ensures.first)

pub split-requires-clause-low : goal.split-requires-clause-low
split-requires-clause-low g t c = c.in_ok-low-in-Some.ensures.above c.in-Some.label (c.side-in-Some.ensures.past c.in-Some.ensures.first)

pub returns-in_ok-both-in-Some-clause-at : goal.returns-in_ok-both-in-Some-clause-at
returns-in_ok-both-in-Some-clause-at g t c w =
    joined_one (λ x v. FnReturnsAt g.F.Fn c.args.f.now x (Ok v)) (w c.in-Some.label) _ _ _ _ _ _
    (c.side.ensures.at w) (c.side-in-Some.ensures.at w) (c.in_ok-both-in-Some.ensures.at w) (c.in_ok-high-in-Some.ensures.at w) (c.in_ok-low-in-Some.ensures.at w)

pub returns-in_ok-value-in-None-clause-at : goal.returns-in_ok-value-in-None-clause-at
returns-in_ok-value-in-None-clause-at g t c w =
    let v : at w c.leaf.result ≡ c.in_ok-value-in-None.value = ap (at w) c.leaf.ensures in
    rw v (record { shown = c.first.result; shows = sym (c.first.ensures (sym c.top.ensures.top ∙ c.in-None.is) w); says = record { met = c.in_ok-value-in-None.ensures } })
