-- The request that an `ask` line or a connection makes.
use Rattle.std.specs.Prelude.{ℕ, ◌++◌, if◌then◌else◌, Option, Some, None, List, [], codes}
use Rattle.std.specs.Str.{bytes_eq}
use Rattle.jac_lang.specs.Syntax.{Application}
use Rattle.jac_http.specs.declared.taken.Request.{Request}
use Rattle.jac_route.specs.Pairs.{pairs_in}
use Rattle.jac_route.specs.Parameters.{viewer_of}
use Rattle.jac_route.specs.Sessions.{session_viewer}
use Rattle.jac_route.specs.declared.sessions.Session.{Session}
use Rattle.jac_replies.specs.declared.answer.Ask.{Ask}

-- A number that isn't an id of the viewer's model gives no viewer.
abbrev pub viewer_in : Application → Option ℕ → Option ℕ
viewer_in app None = None
viewer_in app (Some number) = viewer_of app number

-- The form body, which only a POST has.
abbrev pub form_body : List ℕ → List ℕ → List ℕ
form_body method body = if bytes_eq method (codes "POST") then body else []

-- The pairs of the query, followed by those of the form body.
abbrev pub ask_by : Option ℕ → List ℕ → List ℕ → List ℕ → List ℕ → Ask
ask_by viewer method path query body = record {
  viewer = viewer;
  method = method;
  path = path;
  pairs = pairs_in query ++ pairs_in (form_body method body);
}

-- The request of an `ask` line.
abbrev pub ask_in : Application → Option ℕ → List ℕ → List ℕ → List ℕ → List ℕ → Ask
ask_in app viewer method path query body = ask_by (viewer_in app viewer) method path query body

-- The request of a connection. Its viewer is that of the session with its token.
abbrev pub request_in : Application → List Session → Request → Ask
request_in app sessions request = ask_by (session_viewer sessions request.token app) request.method
    request.path request.query request.body
