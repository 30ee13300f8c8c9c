use Rattle.std.proofs.Common.{◌≤◌, ◌+◌, ◌*◌, max, length, drop}
use Rattle.jac_facet.specs.Leaves.{leaves_seen}
use Rattle.jac_keep.specs.WorkState.{state_of}
use Rattle.jac_lang.specs.declared.statements.Stmt.{size-Stmt}
use Rattle.jac_lang.specs.declared.statements.Stmts.{size-Stmts}
use Rattle.jac_lang.specs.Mirror.{binders_of, statements_of}
use Rattle.jac_plain.specs.Making.{MayRunAll}
use Rattle.jac_plain.specs.Statements.{leaves_all}
use Rattle.jac_world.specs.World.{holds}
use Rattle.jac_stmt.specs.Runs.{faceted_run, AreRunnable, bound_at, MayBindAt, chosen_at, MayChooseAt, live_under}
use Rattle.jac_stmt.proofs.EachLaws.{IsGoing, IsRunningEach}
use Rattle.jac_stmt.proofs.Looping.{LoopRuns}
use Rattle.jac_stmt.proofs.execution.+exec.Given as goal
use Rattle.jac_plain.specs.Shown.{setting_at}

abbrev pub invariant-execute_all-body : goal.invariant-execute_all-body
invariant-execute_all-body g l =
    let k = g.K.Keeper in
    (size-Stmts l.left ≤ size-Stmts l.stmts)
    × AreRunnable l.here.ctx.now.number (statements_of l.left)
    × LoopRuns k.seen l.fn.work l.work (length l.here.app.now.models)
    (IsGoing (λ w. leaves_all (setting_at l.here.app.now l.here.ctx.now w) (statements_of l.stmts)) (λ w. leaves_all (setting_at l.here.app.now l.here.ctx.now w) (statements_of l.left))
    (λ n w. MayRunAll n (setting_at l.here.app.now l.here.ctx.now w) (statements_of l.stmts)) (λ n w. MayRunAll n (setting_at l.here.app.now l.here.ctx.now w) (statements_of l.left)) (λ w. holds w l.here.pc.now)
    (faceted_run (state_of k.seen l.fn.work) l.fn.frame.env l.fn.frame.out) (faceted_run (state_of k.seen l.work) l.frame.env l.frame.out))

abbrev pub invariant-execute_leaves-leaves : goal.invariant-execute_leaves-leaves
invariant-execute_leaves-leaves g l =
    let k = g.K.Keeper in
    LoopRuns k.seen l.fn.work l.work (length l.here.app.now.models)
    (IsRunningEach (chosen_at l.here.app.now l.here.ctx.now (statements_of l.first) (statements_of l.second)) (MayChooseAt l.here.app.now l.here.ctx.now (statements_of l.first) (statements_of l.second))
    (λ w. leaves_seen w l.leaves) (λ w. leaves_seen w (drop l.leaf-index l.leaves))
    (faceted_run (state_of k.seen l.fn.work) l.fn.frame.env l.fn.frame.out) (faceted_run (state_of k.seen l.work) l.frame.env l.frame.out))

abbrev pub invariant-execute_tuples-tuples : goal.invariant-execute_tuples-tuples
invariant-execute_tuples-tuples g l =
    let k = g.K.Keeper in
    LoopRuns k.seen l.fn.work l.work (length l.here.app.now.models)
    (IsRunningEach (bound_at l.here.app.now l.here.ctx.now (binders_of l.binders) (statements_of l.body)) (MayBindAt l.here.app.now l.here.ctx.now (binders_of l.binders) (statements_of l.body))
    (live_under l.here.pc.now l.tuples) (live_under l.here.pc.now (drop l.tuple-index l.tuples))
    (faceted_run (state_of k.seen l.fn.work) l.fn.frame.env l.fn.frame.out) (faceted_run (state_of k.seen l.work) l.frame.env l.frame.out))

abbrev pub decreases-execute_all : goal.decreases-execute_all
decreases-execute_all g l = 8 * size-Stmts l.stmts.now

abbrev pub decreases-execute : goal.decreases-execute
decreases-execute g l = 8 * size-Stmt l.stmt.now

abbrev pub decreases-execute_let : goal.decreases-execute_let
decreases-execute_let g l = 8 * size-Stmts l.body.now + 2

abbrev pub decreases-execute_named : goal.decreases-execute_named
decreases-execute_named g l = 8 * size-Stmts l.body.now + 1

abbrev pub decreases-execute_if : goal.decreases-execute_if
decreases-execute_if g l = 8 * max (size-Stmts l.first.now) (size-Stmts l.second.now) + 3

abbrev pub decreases-execute_leaves : goal.decreases-execute_leaves
decreases-execute_leaves g l = 8 * max (size-Stmts l.first.now) (size-Stmts l.second.now) + 2

abbrev pub decreases-execute_leaf : goal.decreases-execute_leaf
decreases-execute_leaf g l = 8 * max (size-Stmts l.first.now) (size-Stmts l.second.now) + 1

abbrev pub decreases-execute_for : goal.decreases-execute_for
decreases-execute_for g l = 8 * size-Stmts l.body.now + 4

abbrev pub decreases-execute_tuples : goal.decreases-execute_tuples
decreases-execute_tuples g l = 8 * size-Stmts l.body.now + 3

abbrev pub decreases-execute_tuple : goal.decreases-execute_tuple
decreases-execute_tuple g l = 8 * size-Stmts l.body.now + 2

abbrev pub decreases-execute_bound : goal.decreases-execute_bound
decreases-execute_bound g l = 8 * size-Stmts l.body.now + 1

abbrev pub decreases-execute_create : goal.decreases-execute_create
decreases-execute_create g l = 8 * size-Stmts l.creation.now.body.now + 3

abbrev pub decreases-execute_made : goal.decreases-execute_made
decreases-execute_made g l = 8 * size-Stmts l.creation.now.body.now + 2
