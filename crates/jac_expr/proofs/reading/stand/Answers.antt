use Rattle.std.proofs.Common.{arith, ◌∙◌, ap, sym, false}
use Rattle.jac_value.specs.declared.value.Value.{Value}
use Rattle.jac_value.specs.declared.value.Value.TheVariants as value
use Rattle.jac_facet.specs.Shape.{at}
use Rattle.jac_rows.specs.Project.{project_at}
use Rattle.jac_keep.specs.WorkState.{state_of}
use Rattle.jac_plain.specs.Shown.{world_at}
use Rattle.jac_expr.specs.Leafed.{stands_in}
use Rattle.jac_expr.proofs.Leaves.{last_leaf}
use Rattle.jac_expr.proofs.Rows.{live-is}
use Rattle.jac_expr.proofs.reading.stand.Goals as goal

pub returns-clause-value : goal.returns-clause-value
returns-clause-value g c told app ctx w held =
    let state = state_of g.K.Keeper.seen c.args.work.now in
    last_leaf w c.args.pc.now (λ (v : Value). value.Bool (stands_in (project_at w state).tables v)) (value.Bool false) (at w c.leaves.found) (at w c.args.value.now)
    c.as_slice-all.result.now c.in_ok-leaves.leaves c.leaves.leaf-index
    c.as_slice-all.ensures (omega arith) (c.in_ok-leaves.ensures.seen w) held (c.leaves.invariant.told told w)
    ∙ ap value.Bool (sym (live-is (world_at app ctx state w) (at w c.args.value.now)))
