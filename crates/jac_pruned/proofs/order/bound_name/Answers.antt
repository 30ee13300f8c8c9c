use Rattle.std.proofs.Common.{ap, ◌∙◌}
use Rattle.jac_lang.specs.Mirror.{binders_of}
use Rattle.jac_plain.specs.Expressions.{look, bound}
use Rattle.jac_pruned.proofs.Bound.{bound-is}
use Rattle.jac_pruned.proofs.order.bound_name.Goals as goal

pub returns : goal.returns
returns c =
    let bs = binders_of c.args.binders.now in
    c.in_ok-record.ensures
    ∙ ap (λ env. look env c.args.name.now)
    (c.as_slice.ensures.value
    ∙ bound-is bs c.args.ids.now c.new-env.result.items c.bind_tuple.new.env.items c.in_ok-bind_tuple.ensures
    ∙ ap (bound bs c.args.ids.now) c.new-env.ensures.items)
