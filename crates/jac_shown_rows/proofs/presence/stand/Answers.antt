use Rattle.std.proofs.Common.{rules, ◌≡◌, ◌∙◌, ap, sym, Some}
use Rattle.jac_value.specs.declared.value.Value.TheVariants as value
use Rattle.jac_keep.specs.WorkState.{state_of}
use Rattle.jac_plain.specs.Expressions.{is_live}
use Rattle.jac_shown_rows.specs.Own.{stands_own}
use Rattle.jac_shown_rows.proofs.presence.stand.Goals as goal
use Rattle.jac_plain.specs.Shown.{world_at}

pub returns-in_ok-found-in-Ref-Some-clause-value : goal.returns-in_ok-found-in-Ref-Some-clause-value
returns-in_ok-found-in-Ref-Some-clause-value g c told app ctx w agree =
    let reference : c.args.value.now ≡ value.Ref (Some c.in-Ref-Some.id) = search rules in
    c.in_ok-found-in-Ref-Some.ensures.value told w agree
    ∙ ap (is_live (world_at app ctx (state_of g.K.Keeper.seen c.args.work.now) w)) (sym reference)

pub returns-in_ok-found-in-Ref-Some-clause-own : goal.returns-in_ok-found-in-Ref-Some-clause-own
returns-in_ok-found-in-Ref-Some-clause-own g c told this own before =
    let reference : c.args.value.now ≡ value.Ref (Some c.in-Ref-Some.id) = search rules in
    c.in_ok-found-in-Ref-Some.ensures.own told this (ap (λ v. stands_own this v (state_of g.K.Keeper.seen c.args.work.now).tables) (sym reference) ∙ own) before
