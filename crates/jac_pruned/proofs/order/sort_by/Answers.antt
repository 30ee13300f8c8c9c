use Rattle.std.proofs.Common.{◌∙◌, ap, map}
use Rattle.jac_lang.specs.Mirror.{binders_of}
use Rattle.jac_keep.specs.WorkState.{state_of}
use Rattle.jac_plain.specs.Expressions.{key_of}
use Rattle.jac_shown_rows.specs.Seen.{seen_at}
use Rattle.jac_pruned.proofs.Keyed.{sorted-is}
use Rattle.jac_pruned.proofs.order.sort_by.Goals as goal

pub returns-clause-sorted : goal.returns-clause-sorted
returns-clause-sorted g c told w agree =
    let key = key_of (seen_at c.args.at.now (state_of g.K.Keeper.seen c.args.work.now) w) (binders_of c.args.by.now.binders.now) c.args.by.now.name.now c.args.by.now.field.now in
    c.in_ok-tuples.ensures
    ∙ ap (map (λ p. p.0)) c.in_ok-sorted.ensures
    ∙ sorted-is c.args.down key c.args.tuples.now c.in_ok-keyed.keyed.items (c.in_ok-keyed.ensures.keys told w agree)
