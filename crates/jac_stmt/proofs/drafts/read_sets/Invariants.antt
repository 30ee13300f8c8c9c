use Rattle.std.proofs.Common.{◌≡◌, ◌++◌, ◌<◌, IsTrue, ℕ, Bool, true, length, All}
use Rattle.jac_expr.proofs.Working.{LoopOver}
use Rattle.jac_expr.specs.Seen.{env_at, world_here}
use Rattle.jac_facet.specs.Shape.{Shape}
use Rattle.jac_keep.specs.WorkState.{state_of}
use Rattle.jac_lang.specs.Lookup.{fields_at}
use Rattle.jac_lang.specs.Mirror.{application_of, assigned_of}
use Rattle.jac_plain.specs.Expressions.{mean}
use Rattle.jac_value.specs.declared.value.Value.{Value}
use Rattle.jac_world.specs.World.{holds}
use Rattle.jac_write.specs.Writes.{sets_at}
use Rattle.jac_stmt.specs.Drafts.{placed_sets}
use Rattle.jac_stmt.proofs.drafts.read_sets.Given as goal

abbrev pub invariant-cells : goal.invariant-cells
invariant-cells g l =
    let k = g.K.Keeper in
    let fields = fields_at (application_of l.here.app.now).models l.model in
    IsTrue (k.seen l.work.keeper.now).store.attached
    × All (λ (x : ℕ × Shape Value). x.0 < length fields) l.sets.items
    × LoopOver k.seen l.fn.work l.work
    ((w : ℕ → Bool) → holds w l.here.pc.now ≡ true → sets_at w l.sets.items ++ placed_sets fields (λ e. mean (world_here l.here (state_of k.seen l.fn.work) w) e (env_at w l.env)) (assigned_of l.left)
    ≡ placed_sets fields (λ e. mean (world_here l.here (state_of k.seen l.fn.work) w) e (env_at w l.env)) (assigned_of l.cells))
