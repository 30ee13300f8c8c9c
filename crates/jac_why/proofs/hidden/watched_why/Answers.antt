use Rattle.std.proofs.Common.{◌∙◌, ap, List, ℕ, rules}
use Rattle.std.specs.Option.{option_map}
use Rattle.jac_world.specs.World.{shown_by, IsAscending}
use Rattle.jac_keep.specs.WorkState.{state_of}
use Rattle.jac_why.specs.Named.{as_reason}
use Rattle.jac_why.specs.Context.{context_on}
use Rattle.jac_why.specs.Whys.{beside, first_forbidden}
use Rattle.jac_why.proofs.Asking.{why_among}
use Rattle.jac_why.proofs.hidden.watched_why.Goals as goal

pub returns-clause-reason : goal.returns-clause-reason
returns-clause-reason g c told allowed watching =
    let context = context_on (state_of g.K.Keeper.seen c.args.work.now) c.args.context.now in
    let k = c.args.label in
    let asked = c.in_ok-asked.asked in
    let up : IsAscending context.labels = search rules in
    let up_asked : IsAscending asked = search rules in
    c.as_reason.ensures
    ∙ ap (option_map as_reason) (c.in_ok-first.ensures.first told)
    ∙ ap (λ (a : List ℕ). option_map as_reason (first_forbidden context.app (context.worlds (shown_by a)) context.viewer c.as_slice-labels.result.now)) c.in_ok-beside.ensures
    ∙ ap (λ (ls : List ℕ). option_map as_reason (first_forbidden context.app (context.worlds (shown_by (beside context k))) context.viewer ls)) c.as_slice-labels.ensures.labels
    ∙ why_among context c.args.watchers.now k asked up up_asked allowed watching c.in_ok-asked.ensures
