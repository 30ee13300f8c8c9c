use Rattle.std.proofs.Common.{◌≤◌, ◌∙◌, ℕ, List, ap, drop, length, rules}
use Rattle.jac_world.specs.World.{shown_by, IsAscending}
use Rattle.jac_world.proofs.Bisected.{ascending_same}
use Rattle.jac_resolve.proofs.Greedy.{none_left}
use Rattle.jac_lazy.proofs.Rising.{or_none}
use Rattle.jac_lazy.proofs.consulted.assignment_of.Goals as goal

pub returns : goal.returns
returns c =
    let labels = c.args.consulted.now in
    let i = c.labels.label-index in
    let past : length labels ≤ i = search rules in
    let rises : IsAscending c.labels.a = search rules in
    ascending_same c.labels.a labels rises c.as_slice-label-items.ensures.ascending
    (λ k. or_none (shown_by c.labels.a k) (shown_by (drop i labels) k) (ap (λ (l : List ℕ). shown_by l k) (none_left labels i past)) ∙ c.labels.invariant k)
