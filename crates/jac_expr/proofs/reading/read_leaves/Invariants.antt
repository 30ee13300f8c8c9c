use Rattle.std.proofs.Common.{◌≡◌, ℕ, Bool, drop}
use Rattle.jac_value.specs.declared.value.Value.{Value}
use Rattle.jac_facet.specs.Shape.{at}
use Rattle.jac_facet.specs.Leaves.{leaves_seen}
use Rattle.jac_rows.specs.Project.{project_at}
use Rattle.jac_rows.specs.Tables.{rows_of}
use Rattle.jac_keep.specs.WorkState.{state_of}
use Rattle.jac_plain.specs.World.{referred_record, cell_of}
use Rattle.jac_expr.specs.Leafed.{last_by}
use Rattle.jac_expr.proofs.Working.{LoopOver}
use Rattle.jac_expr.proofs.reading.read_leaves.Given as goal

abbrev pub invariant-leaves : goal.invariant-leaves
invariant-leaves g l =
    let k = g.K.Keeper in
    LoopOver k.seen l.fn.work l.work
    ((w : ℕ → Bool) →
    let cell = λ (v : Value). cell_of (referred_record v (rows_of (project_at w (state_of k.seen l.fn.work)).tables l.place.model)) l.place.field l.absent in
    last_by cell (at w l.read) (leaves_seen w (drop l.leaf-index l.leaves)) ≡ last_by cell l.absent (leaves_seen w l.leaves))
