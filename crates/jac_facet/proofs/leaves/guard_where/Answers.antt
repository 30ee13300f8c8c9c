use Rattle.std.proofs.Common.{rules, ◌≡◌, ℕ, Bool, false, [], ◌∷◌}
use Rattle.jac_world.specs.World.{holds, both, contradict}
use Rattle.jac_facet.proofs.OnePair.{some_where}
use Rattle.jac_facet.proofs.leaves.guard_where.Goals as goal

pub returns-in-Some-clause-exact : goal.returns-in-Some-clause-exact
returns-in-Some-clause-exact c =
    let alike : (w : ℕ → Bool) → holds w c.in-Some.both ≡ both w c.args.guard.now ((c.args.label, c.args.sign) ∷ []) = rw (c.in-Some.is, c.in_ok-one.ensures) at c.in_ok-both.ensures.exact in
    let agrees : contradict c.args.guard.now ((c.args.label, c.args.sign) ∷ []) ≡ false = search rules in
    some_where _ _ _ _ c.pairs.ensures.rising c.pairs-in-Some.ensures.rising agrees alike
