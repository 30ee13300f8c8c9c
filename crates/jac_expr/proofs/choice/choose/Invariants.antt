use Rattle.std.proofs.Common.{◌≡◌, ℕ, Bool, drop}
use Rattle.jac_facet.specs.Shape.{at}
use Rattle.jac_facet.specs.Leaves.{leaves_seen}
use Rattle.jac_plain.specs.Expressions.{is_true, pick}
use Rattle.jac_expr.specs.Leafed.{last_by}
use Rattle.jac_expr.proofs.choice.choose.Given as goal

abbrev pub invariant-leaves : goal.invariant-leaves
invariant-leaves g l = (w : ℕ → Bool) →
    last_by (λ v. pick (is_true v) (at w l.first) (at w l.second)) (at w l.chosen) (leaves_seen w (drop l.leaf-index l.all))
    ≡ last_by (λ v. pick (is_true v) (at w l.first) (at w l.second)) (at w l.second) (leaves_seen w l.all)
