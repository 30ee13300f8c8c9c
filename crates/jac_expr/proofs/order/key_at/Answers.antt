use Rattle.std.proofs.Common.{ap, ◌∙◌}
use Rattle.jac_keep.specs.WorkState.{state_of}
use Rattle.jac_lang.specs.Mirror.{binders_of}
use Rattle.jac_plain.specs.Expressions.{look, bound}
use Rattle.jac_plain.specs.Shown.{world_at}
use Rattle.jac_plain.specs.World.{got}
use Rattle.jac_expr.specs.Seen.{env_at}
use Rattle.jac_expr.proofs.Bound.{bound-shown}
use Rattle.jac_expr.proofs.order.key_at.Goals as goal

pub returns-clause-key : goal.returns-clause-key
returns-clause-key g c told ctx w held =
    let key = c.args.key.now in
    let bs = binders_of key.binders.now in
    let ids = c.args.tuple.now.ids in
    c.in_ok-get.ensures.value told ctx w held
    ∙ ap (got (world_at c.args.app.now ctx (state_of g.K.Keeper.seen c.args.work.now) w) c.args.model.now key.field.now)
    (c.in_ok-record.ensures w
    ∙ ap (λ env. look env key.name.now)
    (bound-shown w bs ids c.empty-env.result c.bind_tuple.new.env c.in_ok-bind_tuple.ensures
    ∙ ap (λ e. bound bs ids (env_at w e)) c.empty-env.ensures))
