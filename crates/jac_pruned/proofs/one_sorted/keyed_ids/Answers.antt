use Rattle.std.proofs.Common.{◌∙◌, ap, refl, ℕ, Some}
use Rattle.jac_value.specs.declared.value.Value.{Value}
use Rattle.jac_value.specs.declared.value.Value.TheVariants as value
use Rattle.jac_keep.specs.WorkState.{state_of}
use Rattle.jac_shown_rows.specs.Seen.{seen_at}
use Rattle.jac_pruned.proofs.Once.{keyed_same}
use Rattle.jac_pruned.proofs.one_sorted.keyed_ids.Goals as goal

pub returns-in_ok-keyed-in-Some-clause-keys : goal.returns-in_ok-keyed-in-Some-clause-keys
returns-in_ok-keyed-in-Some-clause-keys g c told w agree =
    c.in_ok-keyed-in-Some.ensures.keys told w agree
    ∙ keyed_same _ _ c.args.ids.now (λ j. c.in-Some.ensures.got (seen_at c.args.at.now (state_of g.K.Keeper.seen c.args.work.now) w) refl (value.Ref (Some j)))

pub returns-in_ok-keyed-in-None-clause-keys : goal.returns-in_ok-keyed-in-None-clause-keys
returns-in_ok-keyed-in-None-clause-keys g c told w agree =
    c.in_ok-keyed-in-None.ensures
    ∙ keyed_same _ _ c.args.ids.now (λ j. c.in-None.ensures.got (seen_at c.args.at.now (state_of g.K.Keeper.seen c.args.work.now) w) refl (value.Ref (Some j)))
