-- The table of routes: each pattern once, with its views.
use Rattle.std.specs.Prelude.{◌≡◌, ℕ, ◌+◌, ◌==◌, ◌&&◌, not, Bool, true, false, if◌then◌else◌, List, [], ◌∷◌, ⊤, Option, Some, None, is_some, position, Result, Ok, Err}
use Rattle.std.specs.Str.{bytes_eq}
use Rattle.matchit.specs.Rows.{RowsOf}
use Rattle.matchit.specs.Route.{Scan, parse_route}
use Rattle.matchit.specs.Router.{RouteOf, route_from, nearest}
use Rattle.matchit.specs.Order.{placed}
use Rattle.matchit.specs.declared.error.InsertError.{InsertError}
use Rattle.matchit.specs.declared.error.InsertError.TheVariants as insert
use Rattle.jac_lang.specs.declared.pages.Verb.{Verb}
use Rattle.jac_lang.specs.declared.pages.Verb.TheVariants as verbs
use Rattle.jac_lang.specs.Syntax.{Page, Application}
use Rattle.jac_route.specs.declared.routes.Route.{Route}
use Rattle.jac_route.specs.declared.routes.RouteFault.{RouteFault}
use Rattle.jac_route.specs.declared.routes.RouteFault.TheVariants as fault

-- The rows of `matchit`, each with the numbers of its pattern's views.
abbrev pub Table : Type 0
Table = RowsOf (RouteOf Route)

abbrev pub same_verb : Verb → Verb → Bool
same_verb verbs.Get verbs.Get = true
same_verb verbs.Post verbs.Post = true
same_verb v w = false

abbrev pub has_pattern : List ℕ → Page → Bool
has_pattern pattern v = bytes_eq v.path pattern

abbrev pub is_at : Verb → List ℕ → Page → Bool
is_at verb pattern v = same_verb v.method verb && bytes_eq v.path pattern

-- The place of the first view with a pattern. Below, that of the first with a method and a pattern.
abbrev pub pattern_place : List Page → List ℕ → Option ℕ
pattern_place views pattern = position (has_pattern pattern) views

abbrev pub view_place : List Page → Verb → List ℕ → Option ℕ
view_place views verb pattern = position (is_at verb pattern) views

-- The pattern and its views.
abbrev pub route_of : List Page → List ℕ → Route
route_of views pattern = record {
  pattern = pattern;
  get = view_place views verbs.Get pattern;
  post = view_place views verbs.Post pattern;
}

abbrev pub is_view_place : ℕ → Option ℕ → Bool
is_view_place n None = false
is_view_place n (Some place) = place == n

-- The table with one more pattern, or the number of the view if `matchit` refuses its pattern.
abbrev pub with_pattern : ℕ → Result Scan InsertError → Route → Table → Result Table ℕ
with_pattern n (Err e) route rows = Err n
with_pattern n (Ok scan) route rows = if is_some (nearest scan.pattern rows) then Err n
    else Ok (placed (scan.pattern, route_from scan route) rows)

-- The table with the n-th view. The view is refused if an earlier one has its method and pattern.
-- The table is unchanged if an earlier one has only its pattern.
abbrev pub with_view : List Page → ℕ → Page → Table → Result Table ℕ
with_view views n v rows =
    if not (is_view_place n (view_place views v.method v.path)) then Err n else
    if not (is_view_place n (pattern_place views v.path)) then Ok rows else
    with_pattern n (parse_route v.path) (route_of views v.path) rows

abbrev pub go_on : Result Table ℕ → (Table → Result Table ℕ) → Result Table ℕ
go_on (Ok rows) next = next rows
go_on (Err n) next = Err n

-- The table with all views from the n-th on, or the number of the first that is refused.
abbrev pub table_from : List Page → ℕ → List Page → Table → Result Table ℕ
table_from views n [] rows = Ok rows
table_from views n (v ∷ rest) rows = go_on (with_view views n v rows)
    (table_from views (n + 1) rest)

abbrev pub table_of : Application → Result Table ℕ
table_of app = table_from app.views 0 app.views []

-- No view is refused, and these are the routes.
abbrev pub AreRoutes : Application → Table → Type 0
AreRoutes app routes = table_of app ≡ Ok routes

-- A clash names the view that is refused. Nothing is said if the program is out of memory.
abbrev pub Clashes : RouteFault → Result Table ℕ → Type 0
Clashes (fault.Clash n) table = table ≡ Err n
Clashes fault.Memory table = ⊤

-- The fault for an insert that is refused at the n-th view.
abbrev pub insert_fault : ℕ → InsertError → RouteFault
insert_fault n insert.OutOfMemory = fault.Memory
insert_fault n (insert.Conflict with) = fault.Clash n
insert_fault n insert.InvalidParamSegment = fault.Clash n
insert_fault n insert.InvalidParam = fault.Clash n
insert_fault n insert.InvalidCatchAll = fault.Clash n
