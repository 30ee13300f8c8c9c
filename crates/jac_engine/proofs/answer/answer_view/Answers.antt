use Rattle.jac_engine.proofs.ServedLaws.{served_body}
use Rattle.jac_engine.specs.Visits.{app_of}
use Rattle.jac_engine.proofs.answer.answer_view.Goals as goal
use Rattle.jac_lang.specs.Mirror.{page_of_view}

pub show_by-requires-clause-served : goal.show_by-requires-clause-served
show_by-requires-clause-served g c =
    let visited = c.args.visited.now in
    rw c.in-Get.is at (served_body (app_of visited) visited.place (page_of_view visited.view.now) c.requires.served c.requires.view)

pub store-requires-clause-served : goal.store-requires-clause-served
store-requires-clause-served g c =
    let visited = c.args.visited.now in
    rw c.in-Post.is at (served_body (app_of visited) visited.place (page_of_view visited.view.now) c.requires.served c.requires.view)
