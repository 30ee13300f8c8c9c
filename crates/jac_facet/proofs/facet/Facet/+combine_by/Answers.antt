use Rattle.std.proofs.Common.{◌≡◌, ap, sym, Ok}
use Rattle.jac_facet.specs.Answers.{Answers}
use Rattle.jac_facet.specs.Shape.{at}
use Rattle.jac_facet.proofs.Joining.{joined}
use Rattle.jac_facet.proofs.facet.Facet.+combine_by.Goals as goal

pub split-requires-clause-high : goal.split-requires-clause-high
split-requires-clause-high g t c =
    c.in_ok-high-in-Some.ensures.above c.in-Some.label (c.side.ensures.past c.in-Some.ensures.0) (c.side-in-Some.ensures.past c.in-Some.ensures.1)

pub split-requires-clause-low : goal.split-requires-clause-low
split-requires-clause-low g t c =
    c.in_ok-low-in-Some.ensures.above c.in-Some.label (c.side-in-Some-2.ensures.past c.in-Some.ensures.0) (c.side-in-Some-3.ensures.past c.in-Some.ensures.1)

pub returns-in_ok-both-in-Some-clause-at : goal.returns-in_ok-both-in-Some-clause-at
returns-in_ok-both-in-Some-clause-at g t c w =
    joined (λ x y v. Answers g.F.Fn c.args.f.now x y (Ok v)) (w c.in-Some.label) _ _ _ _ _ _ _ _ _
    (c.side.ensures.at w) (c.side-in-Some-2.ensures.at w) (c.side-in-Some.ensures.at w) (c.side-in-Some-3.ensures.at w)
    (c.in_ok-both-in-Some.ensures.at w) (c.in_ok-high-in-Some.ensures.at w) (c.in_ok-low-in-Some.ensures.at w)

pub returns-in_ok-value-in-None-clause-at : goal.returns-in_ok-value-in-None-clause-at
returns-in_ok-value-in-None-clause-at g t c w =
    let v : at w c.leaf.result ≡ c.in_ok-value-in-None.value = ap (at w) c.leaf.ensures in
    rw v (record {
      first = c.first.result;
      second = c.first-in-None.result;
      shows = (sym (c.first.ensures c.in-None.ensures.0 w), sym (c.first-in-None.ensures c.in-None.ensures.1 w));
      met = c.in_ok-value-in-None.ensures;
    })
