use Rattle.std.proofs.Common.{◌∙◌, ap, [], ◌∷◌, ℕ, Some, map}
use Rattle.jac_value.specs.declared.value.Value.{Value}
use Rattle.jac_value.specs.declared.value.Value.TheVariants as value
use Rattle.jac_keep.specs.WorkState.{state_of}
use Rattle.jac_plain.specs.Expressions.{key_of}
use Rattle.jac_plain.specs.World.{got}
use Rattle.jac_shown_rows.specs.Seen.{seen_at}
use Rattle.jac_shown_rows.specs.RecordIds.{lengthened_tuples}
use Rattle.jac_pruned.proofs.Once.{ids_sorted, own_key}
use Rattle.jac_pruned.proofs.one_sorted.sort_by_field.Goals as goal

pub returns-clause-sorted : goal.returns-clause-sorted
returns-clause-sorted g c told w agree name same =
    let world = seen_at c.args.at.now (state_of g.K.Keeper.seen c.args.work.now) w in
    let b = c.args.binder.now in
    let field = c.args.field.now in
    let key : ℕ → Value = λ j. got world b.model field (value.Ref (Some j)) in
    ap (lengthened_tuples []) (c.in_ok-plain.ensures ∙ ap (map (λ p. p.0)) (c.as_slice.ensures.value ∙ c.in_ok-sorted.ensures))
    ∙ ids_sorted c.args.down key (key_of world (b ∷ []) name field) c.args.ids.now c.in_ok-keyed.keyed.items (λ j. own_key world b name field j same)
    (c.in_ok-keyed.ensures.keys told w agree)
