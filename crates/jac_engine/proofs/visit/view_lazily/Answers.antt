use Rattle.std.proofs.Common.{subst}
use Rattle.jac_keep.specs.WorkState.{state_of}
use Rattle.jac_lang.specs.Mirror.{page_of_view}
use Rattle.jac_lazy.specs.Steady.{IsPageOf}
use Rattle.jac_plain.specs.Requests.{Visit}
use Rattle.jac_engine.specs.Visits.{app_of, request_at}
use Rattle.jac_engine.proofs.AnswerLaws.{visit_bound}
use Rattle.jac_engine.proofs.visit.view_lazily.Goals as goal
use Rattle.jac_plain.specs.Shown.{worlds_of}

pub page_lazily-requires-clause-reading : goal.page_lazily-requires-clause-reading
page_lazily-requires-clause-reading g c = rw c.requires.view c.requires.reading

pub returns-clause-page : goal.returns-clause-page
returns-clause-page g c told =
    let visited = c.args.visited.now in
    let it = c.in_ok-shown.shown in
    subst (λ (visit : Visit). IsPageOf (app_of visited) (worlds_of (state_of g.K.Keeper.seen c.args.work.now)) it.consulted it.shown visit it.page)
    (visit_bound (app_of visited) (page_of_view visited.view.now) (request_at visited) visited.place c.in_ok-env.env c.requires.view c.in_ok-env.ensures)
    (c.in_ok-shown.ensures.page told)
