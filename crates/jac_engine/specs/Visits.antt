-- A request that found a view, as the ordinary interpreter runs it.
use Rattle.std.specs.Prelude.{ℕ, Option}
use Rattle.jac_lang.specs.Mirror.{application_of, page_of_view}
use Rattle.jac_lang.specs.Syntax.{Page as View, Application}
use Rattle.jac_plain.specs.Requests.{Visit}
use Rattle.jac_replies.specs.declared.answer.Ask.{Ask}
use Rattle.jac_engine.specs.Answers.{asked_with, visit_of}
use Rattle.jac_engine.specs.declared.lookup.Visited.{Visited}

abbrev pub app_of : Visited → Application
app_of visited = application_of visited.app.now

-- The request with the pairs of its path before its own.
abbrev pub request_at : Visited → Ask
request_at visited = asked_with visited.path.now visited.ask.now

abbrev pub visit_at : Visited → Visit
visit_at visited = visit_of (app_of visited) (request_at visited) visited.place

abbrev pub found_view : Visited → View
found_view visited = page_of_view visited.view.now

abbrev pub viewer_at : Visited → Option ℕ
viewer_at visited = visited.ask.now.viewer
