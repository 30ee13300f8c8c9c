use Rattle.std.proofs.Common.{◌≡◌, ℕ, Bool, false, drop}
use Rattle.jac_value.specs.declared.value.Value.{Value}
use Rattle.jac_value.specs.declared.value.Value.TheVariants as value
use Rattle.jac_facet.specs.Shape.{at}
use Rattle.jac_facet.specs.Leaves.{leaves_seen}
use Rattle.jac_rows.specs.Project.{project_at}
use Rattle.jac_keep.specs.WorkState.{state_of}
use Rattle.jac_expr.specs.Leafed.{last_by, stands_in}
use Rattle.jac_expr.proofs.Working.{LoopOver}
use Rattle.jac_expr.proofs.reading.stand.Given as goal

abbrev pub invariant-leaves : goal.invariant-leaves
invariant-leaves g l =
    let k = g.K.Keeper in
    LoopOver k.seen l.fn.work l.work
    ((w : ℕ → Bool) →
    let stands = λ (v : Value). value.Bool (stands_in (project_at w (state_of k.seen l.fn.work)).tables v) in
    last_by stands (at w l.found) (leaves_seen w (drop l.leaf-index l.all)) ≡ last_by stands (value.Bool false) (leaves_seen w l.all))
