use Rattle.std.proofs.Common.{drop}
use Rattle.jac_keep.specs.WorkState.{state_of}
use Rattle.jac_lang.specs.Mirror.{application_of}
use Rattle.jac_write.specs.Writes.{sets_at, tables_remade}
use Rattle.jac_write.proofs.LeavesLaws.{LoopWrites, IsWriting}
use Rattle.jac_write.proofs.change.update_leaves.Given as goal

abbrev pub invariant-leaves : goal.invariant-leaves
invariant-leaves g l =
    let k = g.K.Keeper in
    LoopWrites k.seen l.fn.work l.work l.model
    (IsWriting (λ w v. tables_remade (application_of l.app).models w l.model v (sets_at w l.sets)) l.leaves (drop l.leaf-index l.leaves) (state_of k.seen l.fn.work) (state_of k.seen l.work))
