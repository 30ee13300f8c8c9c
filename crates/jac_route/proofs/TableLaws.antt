-- What the table of an application holds, and why a view is refused.
use Rattle.std.proofs.Common.{◌≡◌, ◌≢◌, ◌⊎◌, inl, inr, refl, sym, ap, subst, ℕ, suc, ◌+◌, ◌<◌, ◌==◌, Bool, true, false, not, if◌then◌else◌, List, [], ◌∷◌, length, Option, Some, None, is_some, IfSome, Result, Ok, Err, arith}
use Rattle.std.specs.Prelude.{slice_get}
use Rattle.std.proofs.lemmas.Bool.Decides.{nat_tests}
use Rattle.matchit.specs.Route.{Scan, parse_route}
use Rattle.matchit.specs.Router.{RouteOf, route_from, nearest}
use Rattle.matchit.specs.Order.{placed}
use Rattle.matchit.specs.Seek.{first}
use Rattle.matchit.specs.Conflict.{conflicts}
use Rattle.matchit.specs.declared.error.InsertError.{InsertError}
use Rattle.jac_lang.specs.Syntax.{Page, Application}
use Rattle.jac_lang.specs.declared.pages.Verb.{Verb}
use Rattle.jac_lang.specs.declared.pages.Verb.TheVariants as verbs
use Rattle.jac_route.specs.declared.lookup.Found.{Found}
use Rattle.jac_route.specs.declared.lookup.Found.TheVariants as outcome
use Rattle.jac_route.specs.declared.pairs.Pair.{Pair}
use Rattle.jac_route.specs.declared.routes.Route.{Route}
use Rattle.jac_route.specs.PathPairs.{path_pairs}
use Rattle.jac_route.specs.Routes.{Table, AreRoutes, is_view_place, pattern_place, view_place, route_of, with_pattern, with_view, go_on, table_from, table_of}
use Rattle.jac_route.specs.Found.{found, found_in, found_among, found_at, found_by, view_for, verb_of, IsWithin}
use Rattle.jac_route.specs.Fitting.{ReadsPath, FitsPath, IsViewAt, IsRepeated, HasRival, IsNoRoute, IsRefusedAt, IsFitting}
use Rattle.jac_route.proofs.RowLaws.{AllRows, ReadsAs, all_map, all_placed, some_first, rival}
use Rattle.jac_route.proofs.ViewLaws.{view_within, placed_view, place_of_view}

-- ---- the rows

abbrev pub IsRouteOf : List Page → Route → Type 0
IsRouteOf views route =
    IfSome route.get (λ n. IsViewAt views n verbs.Get route.pattern) × IfSome route.post (λ n. IsViewAt views n verbs.Post route.pattern)

-- A row has the pattern of a view before the n-th, and the views of that pattern.
record IsRowOf (views : List Page) (n : ℕ) (t : List ℕ) (row : RouteOf Route) : Type 0 where
  pub route : IsRouteOf views row.value
  pub place : ℕ
  pub view : Page
  pub scan : Scan
  pub earlier : place < n
  pub there : slice_get views place ≡ Some view
  pub reads : parse_route view.path ≡ Ok scan
  pub pattern : view.path ≡ row.value.pattern
  pub tokens : t ≡ scan.pattern

row_later : (views : List Page) (n : ℕ) (t : List ℕ) (row : RouteOf Route) → IsRowOf views n t row → IsRowOf views (n + 1) t row
row_later views n t row is = record {
  route = is.route;
  place = is.place;
  view = is.view;
  scan = is.scan;
  earlier = let h = is.earlier in omega arith;
  there = is.there;
  reads = is.reads;
  pattern = is.pattern;
  tokens = is.tokens;
}

placed_at : (views : List Page) (verb : Verb) (pattern : List ℕ) (o : Option ℕ) → view_place views verb pattern ≡ o → IfSome o (λ n. IsViewAt views n verb pattern)
placed_at views verb pattern None e = tt
placed_at views verb pattern (Some n) e = placed_view views verb pattern n e

own_route : (views : List Page) (pattern : List ℕ) → IsRouteOf views (route_of views pattern)
own_route views pattern = (
  placed_at views verbs.Get pattern (view_place views verbs.Get pattern) refl,
  placed_at views verbs.Post pattern (view_place views verbs.Post pattern) refl,
)

-- ---- one view

-- The rows with one view more, or why the view is refused.
abbrev ViewRead : List Page → ℕ → Page → Result Table ℕ → Type 0
ViewRead views n v (Ok rows) = AllRows (IsRowOf views (n + 1)) rows
ViewRead views n v (Err m) = (m ≡ n) × (IsRepeated views n v.method v.path ⊎ IsNoRoute views n (parse_route v.path))

rival_of : (views : List Page) (n : ℕ) (p : List ℕ) (rows : Table) → AllRows (IsRowOf views n) rows → is_some (nearest p rows) ≡ true → HasRival views n p
rival_of views n p rows all some =
    let (t, row, clash, is) = rival (IsRowOf views n) p rows all some in
    (is.place, is.view, is.scan, is.earlier, is.there, is.reads, subst (λ (s : List ℕ). conflicts p s ≡ true) is.tokens clash)

read_pattern : (views : List Page) (n : ℕ) (v : Page) (rows : Table) (read : Result Scan InsertError) → parse_route v.path ≡ read → slice_get views n ≡ Some v
    → AllRows (IsRowOf views n) rows → ViewRead views n v (with_pattern n read (route_of views v.path) rows)
read_pattern views n v rows (Err e) is there all = (refl, inr (subst (IsNoRoute views n) (sym is) tt))
read_pattern views n v rows (Ok scan) is there all = by (is_some (nearest scan.pattern rows)) refl
  where
    row : RouteOf Route
    row = route_from scan (route_of views v.path)

    by : (b : Bool) → is_some (nearest scan.pattern rows) ≡ b → ViewRead views n v (if b then Err n else Ok (placed (scan.pattern, row) rows))
    by true some = (refl, inr (subst (IsNoRoute views n) (sym is) (rival_of views n scan.pattern rows all some)))
    by false none =
        all_placed (IsRowOf views (n + 1)) scan.pattern row rows
        (record {
          route = own_route views v.path;
          place = n;
          view = v;
          scan = scan;
          earlier = omega arith;
          there = there;
          reads = is;
          pattern = refl;
          tokens = refl;
        })
        (all_map (IsRowOf views n) (IsRowOf views (n + 1)) rows (row_later views n) all)

not_place : (n k : ℕ) (o : Option ℕ) → o ≡ Some k → not (is_view_place n o) ≡ true → k ≢ n
not_place n k None e other same = cc
not_place n k (Some m) e other same =
    let here : m ≡ n = cc in
    let test : (m == n) ≡ true = grind (arith, nat_tests) in
    cc (rw test at other)

repeated : (views : List Page) (n : ℕ) (v : Page) → slice_get views n ≡ Some v → not (is_view_place n (view_place views v.method v.path)) ≡ true
    → IsRepeated views n v.method v.path
repeated views n v there other =
    let (k, is, fits) = place_of_view views n v there in
    let apart : k ≢ n = not_place n k (view_place views v.method v.path) is other in
    (k, omega arith, placed_view views v.method v.path k is)

read_view : (views : List Page) (n : ℕ) (v : Page) (rows : Table) → slice_get views n ≡ Some v → AllRows (IsRowOf views n) rows → ViewRead views n v (with_view views n v rows)
read_view views n v rows there all = by (not (is_view_place n (view_place views v.method v.path))) refl (not (is_view_place n (pattern_place views v.path)))
  where
    by : (b : Bool) → not (is_view_place n (view_place views v.method v.path)) ≡ b → (d : Bool)
        → ViewRead views n v (if b then Err n else if d then Ok rows else with_pattern n (parse_route v.path) (route_of views v.path) rows)
    by true other d = (refl, inl (repeated views n v there other))
    by false own true = all_map (IsRowOf views n) (IsRowOf views (n + 1)) rows (row_later views n) all
    by false own false = read_pattern views n v rows (parse_route v.path) refl there all

-- ---- all views

-- The rows of the views, or the view that is refused.
abbrev TableRead : List Page → Result Table ℕ → Type 0
TableRead views (Ok rows) = (n : ℕ) × AllRows (IsRowOf views n) rows
TableRead views (Err n) = IsRefusedAt views n

-- `rest` are the views from the n-th on.
abbrev AreLeft : List Page → ℕ → List Page → Type 0
AreLeft views n rest = (k : ℕ) (v : Page) → slice_get rest k ≡ Some v → slice_get views (n + k) ≡ Some v

left_on : (views : List Page) (n : ℕ) (v : Page) (rest : List Page) → AreLeft views n (v ∷ rest) → AreLeft views (n + 1) rest
left_on views n v rest left k w e =
    let same : n + suc k ≡ n + 1 + k = omega arith in
    subst (λ (i : ℕ). slice_get views i ≡ Some w) same (left (suc k) w e)

read_on : (views : List Page) (n : ℕ) (v : Page) (read : Result Table ℕ) (next : Table → Result Table ℕ) → slice_get views n ≡ Some v → ViewRead views n v read
    → ((rows : Table) → AllRows (IsRowOf views (n + 1)) rows → TableRead views (next rows)) → TableRead views (go_on read next)
read_on views n v (Ok rows) next there h on = on rows h
read_on views n v (Err m) next there (same, why) on = subst (IsRefusedAt views) (sym same) (v, there, why)

read_table : (views : List Page) (n : ℕ) (rest : List Page) (rows : Table) → AreLeft views n rest → AllRows (IsRowOf views n) rows → TableRead views (table_from views n rest rows)
read_table views n [] rows left all = (n, all)
read_table views n (v ∷ rest) rows left all =
    let here : n + 0 ≡ n = omega arith in
    let there : slice_get views n ≡ Some v = subst (λ (i : ℕ). slice_get views i ≡ Some v) here (left 0 v refl) in
    read_on views n v (with_view views n v rows) (table_from views (n + 1) rest) there (read_view views n v rows there all)
    (λ now h. read_table views (n + 1) rest now (left_on views n v rest left) h)

all_left : (views : List Page) → AreLeft views 0 views
all_left views k v e = let same : k ≡ 0 + k = omega arith in subst (λ (i : ℕ). slice_get views i ≡ Some v) same e

read_all : (app : Application) → TableRead app.views (table_of app)
read_all app = read_table app.views 0 app.views [] (all_left app.views) tt

pub refused_view : (app : Application) (n : ℕ) → table_of app ≡ Err n → IsRefusedAt app.views n
refused_view app n e = subst (TableRead app.views) e (read_all app)

-- ---- what a path finds

fits_row : (views : List Page) (n : ℕ) (path tokens : List ℕ) (row : RouteOf Route) → ReadsPath tokens path → IsRowOf views n tokens row → FitsPath row.value.pattern path
fits_row views n path tokens row reads is = (
  is.scan,
  subst (λ (p : List ℕ). parse_route p ≡ Ok is.scan) is.pattern is.reads,
  subst (λ (t : List ℕ). ReadsPath t path) is.tokens reads,
)

-- The view that is found fits, if there is one.
abbrev IsFoundOf : List Page → Option Verb → List ℕ → List ℕ → Option ℕ → Type 0
IsFoundOf views verb path pattern o = IfSome o (λ n. IsFitting views verb path n (path_pairs pattern path))

abbrev IsFound : List Page → Option Verb → List ℕ → Found → Type 0
IsFound views verb path (outcome.View n pairs) = IsFitting views verb path n pairs
IsFound views verb path outcome.NoRoute = Unit {0}
IsFound views verb path (outcome.WrongMethod allow) = Unit {0}

fitting : (views : List Page) (verb : Verb) (pattern path : List ℕ) (o : Option ℕ) → FitsPath pattern path → IfSome o (λ n. IsViewAt views n verb pattern)
    → IsFoundOf views (Some verb) path pattern o
fitting views verb pattern path None fits is = tt
fitting views verb pattern path (Some n) fits (v, there, method, has) = (
  v,
  there,
  ap (λ (w : Verb). Some w) (sym method),
  subst (λ (p : List ℕ). FitsPath p path) (sym has) fits,
  ap (λ (p : List ℕ). path_pairs p path) (sym has),
)

for_verb : (views : List Page) (route : Route) (verb : Option Verb) (path : List ℕ) → FitsPath route.pattern path → IsRouteOf views route
    → IsFoundOf views verb path route.pattern (view_for route verb)
for_verb views route None path fits is = tt
for_verb views route (Some verbs.Get) path fits is = fitting views verbs.Get route.pattern path route.get fits is.0
for_verb views route (Some verbs.Post) path fits is = fitting views verbs.Post route.pattern path route.post fits is.1

by_found : (views : List Page) (verb : Option Verb) (route : Route) (path : List ℕ) (o : Option ℕ) → IsFoundOf views verb path route.pattern o
    → IsFound views verb path (found_by o route path)
by_found views verb route path None h = tt
by_found views verb route path (Some n) h = h

at_row : (views : List Page) (n : ℕ) (row : Option (RouteOf Route)) (method path : List ℕ) → IfSome row (ReadsAs (IsRowOf views n) path)
    → IsFound views (verb_of method) path (found_at row method path)
at_row views n None method path h = tt
at_row views n (Some row) method path (tokens, reads, is) =
    by_found views (verb_of method) row.value path (view_for row.value (verb_of method))
    (for_verb views row.value (verb_of method) path (fits_row views n path tokens row reads is) is.route)

in_table : (views : List Page) (read : Result Table ℕ) (method path : List ℕ) → TableRead views read → IsFound views (verb_of method) path (found_in read method path)
in_table views (Ok rows) method path (n, all) = at_row views n (first rows path) method path (some_first (IsRowOf views n) rows path all)
in_table views (Err n) method path h = tt

pub found_view : (app : Application) (method path : List ℕ) (n : ℕ) (pairs : List Pair) → found app method path ≡ outcome.View n pairs
    → IsFitting app.views (verb_of method) path n pairs
found_view app method path n pairs e = subst (IsFound app.views (verb_of method) path) e (in_table app.views (table_of app) method path (read_all app))

-- ---- a view that a path finds is a view of the application

found_within : (views : List Page) (verb : Option Verb) (path : List ℕ) (found : Found) → IsFound views verb path found → IsWithin (length views) found
found_within views verb path (outcome.View n pairs) (v, there, method, fits, given) = view_within views n v there
found_within views verb path outcome.NoRoute h = tt
found_within views verb path (outcome.WrongMethod allow) h = tt

pub within : (app : Application) (routes : Table) (method path : List ℕ) → AreRoutes app routes → IsWithin (length app.views) (found_among routes method path)
within app routes method path are =
    let (n, all) : TableRead app.views (Ok routes) = subst (TableRead app.views) are (read_all app) in
    found_within app.views (verb_of method) path (found_among routes method path) (in_table app.views (Ok routes) method path (n, all))
