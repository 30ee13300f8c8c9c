-- The view that a request finds, or why it finds none.
use Rattle.std.specs.Prelude.{ℕ, ◌<◌, ◌||◌, ⊤, if◌then◌else◌, List, Option, Some, None, is_some, Result, Ok, Err, codes}
use Rattle.std.specs.Str.{bytes_eq}
use Rattle.matchit.specs.Router.{RouteOf}
use Rattle.matchit.specs.Seek.{first}
use Rattle.jac_lang.specs.declared.pages.Verb.{Verb}
use Rattle.jac_lang.specs.declared.pages.Verb.TheVariants as verbs
use Rattle.jac_lang.specs.Syntax.{Application}
use Rattle.jac_route.specs.declared.lookup.Found.{Found}
use Rattle.jac_route.specs.declared.lookup.Found.TheVariants as outcome
use Rattle.jac_route.specs.declared.routes.Route.{Route}
use Rattle.jac_route.specs.PathPairs.{path_pairs}
use Rattle.jac_route.specs.Routes.{Table, table_of}

-- The views for a method (RFC 9110, sections 9.3.1 to 9.3.3). HEAD finds those of GET.
abbrev pub verb_of : List ℕ → Option Verb
verb_of method =
    if bytes_eq method (codes "GET") || bytes_eq method (codes "HEAD") then Some verbs.Get else
    if bytes_eq method (codes "POST") then Some verbs.Post else None

-- The view of a pattern for this method.
abbrev pub view_for : Route → Option Verb → Option ℕ
view_for route None = None
view_for route (Some verbs.Get) = route.get
view_for route (Some verbs.Post) = route.post

abbrev pub found_by : Option ℕ → Route → List ℕ → Found
found_by (Some n) route path = outcome.View n (path_pairs route.pattern path)
found_by None route path = outcome.WrongMethod (record {
  get = is_some route.get;
  post = is_some route.post;
})

abbrev pub found_at : Option (RouteOf Route) → List ℕ → List ℕ → Found
found_at None method path = outcome.NoRoute
found_at (Some row) method path = found_by (view_for row.value (verb_of method)) row.value path

-- What the method finds at the pattern that `matchit` finds.
abbrev pub found_among : Table → List ℕ → List ℕ → Found
found_among routes method path = found_at (first routes path) method path

abbrev pub found_in : Result Table ℕ → List ℕ → List ℕ → Found
found_in (Ok routes) method path = found_among routes method path
found_in (Err n) method path = outcome.NoRoute

-- What a method and a path find among the views of an application.
abbrev pub found : Application → List ℕ → List ℕ → Found
found app method path = found_in (table_of app) method path

-- If a view was found, its number is less than k.
abbrev pub IsWithin : ℕ → Found → Type 0
IsWithin k (outcome.View n pairs) = n < k
IsWithin k outcome.NoRoute = ⊤
IsWithin k (outcome.WrongMethod allow) = ⊤
