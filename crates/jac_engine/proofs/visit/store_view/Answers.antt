use Rattle.std.proofs.Common.{◌∙◌, sym, subst}
use Rattle.jac_rows.specs.declared.state.State.{State}
use Rattle.jac_keep.specs.WorkState.{state_of}
use Rattle.jac_resolve.specs.Rounds.{AreFewEvaluations}
use Rattle.jac_engine.specs.Visits.{app_of, viewer_at}
use Rattle.jac_engine.proofs.visit.store_view.Goals as goal

pub returns-clause-bounded : goal.returns-clause-bounded
returns-clause-bounded g c = λ told none.
    let settled = c.in_ok-settled.ensures in
    subst (λ (s : State). AreFewEvaluations (app_of c.args.visited.now) s (viewer_at c.args.visited.now) c.args.evaluations.now c.settle_cache.new.evaluations) (sym (settled.reads.same.same_state told))
    (settled.bounded told (c.in_ok-invalidation.ensures.labels ∙ none))
