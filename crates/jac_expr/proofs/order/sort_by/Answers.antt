use Rattle.std.proofs.Common.{rules, ◌≡◌, ◌∙◌}
use Rattle.jac_lang.specs.Mirror.{binders_of}
use Rattle.jac_keep.specs.WorkState.{state_of}
use Rattle.jac_plain.specs.Expressions.{key_of}
use Rattle.jac_query.specs.Live.{live}
use Rattle.jac_query.specs.Marked.{marked_tuples}
use Rattle.jac_expr.proofs.AtTuples.{in_order-shown}
use Rattle.jac_expr.proofs.order.sort_by.Goals as goal
use Rattle.jac_plain.specs.Shown.{world_at}

pub returns-clause-sorted : goal.returns-clause-sorted
returns-clause-sorted g c told ctx w =
    let key = key_of (world_at c.args.app.now ctx (state_of g.K.Keeper.seen c.args.work.now) w) (binders_of c.args.key.now.binders.now) c.args.key.now.name.now c.args.key.now.field.now in
    let all : c.as_slice-all.result.now ≡ c.args.tuples.now = search rules in
    c.in_ok-order.ensures.live w
    ∙ in_order-shown c.args.down key (live w c.args.tuples.now) (marked_tuples w c.args.tuples.now c.in_ok-keys.keys) (rw all at (c.in_ok-keys.ensures.keys told ctx w))
