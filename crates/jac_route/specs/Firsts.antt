-- The first views of each pattern in a map, and the table that is made from the map.
use Rattle.std.specs.Prelude.{ℕ, ◌+◌, not, if◌then◌else◌, List, [], ◌∷◌, Option, Some, None, unwrap_or, Result, Ok, Err}
use Rattle.std.specs.BTreeMap.{BTreeMap, get}
use Rattle.std.specs.Cmp.Lexicographic.{slice_cmp}
use Rattle.std.specs.Ordering.{nat_cmp}
use Rattle.std.specs.Str.{bytes_eq}
use Rattle.matchit.specs.Route.{parse_route}
use Rattle.jac_lang.specs.declared.pages.Verb.{Verb}
use Rattle.jac_lang.specs.declared.pages.Verb.TheVariants as verbs
use Rattle.jac_lang.specs.Syntax.{Page}
use Rattle.jac_route.specs.declared.firsts.FirstViews.{FirstViews}
use Rattle.jac_route.specs.declared.routes.Route.{Route}
use Rattle.jac_route.specs.Routes.{Table, is_view_place, with_pattern, go_on}

abbrev pub no_firsts : FirstViews
no_firsts = record { any = None; get = None; post = None }

-- The first views after a view with this number and method is put before all others.
abbrev pub with_first : ℕ → Verb → FirstViews → FirstViews
with_first n verbs.Get first = record { any = Some n; get = Some n; post = first.post }
with_first n verbs.Post first = record { any = Some n; get = first.get; post = Some n }

-- The first views of a pattern after this view is put before all others.
abbrev pub with_view_before : ℕ → Page → List ℕ → FirstViews → FirstViews
with_view_before n v pattern first = if bytes_eq v.path pattern then with_first n v.method first
    else first

-- The first views of a pattern, if these are the views from the n-th on.
abbrev pub firsts_from : ℕ → List Page → List ℕ → FirstViews
firsts_from n [] pattern = no_firsts
firsts_from n (v ∷ views) pattern = with_view_before n v pattern (firsts_from (n + 1) views pattern)

-- The first views that the map has for a pattern.
abbrev pub firsts_at : BTreeMap (List ℕ) FirstViews → List ℕ → FirstViews
firsts_at firsts pattern = unwrap_or (get (slice_cmp nat_cmp) firsts pattern) no_firsts

abbrev pub first_of_verb : Verb → FirstViews → Option ℕ
first_of_verb verbs.Get first = first.get
first_of_verb verbs.Post first = first.post

abbrev pub route_by : FirstViews → List ℕ → Route
route_by first pattern = record { pattern = pattern; get = first.get; post = first.post }

-- The table with the n-th view, given the first views of its pattern.
abbrev pub with_view_by : FirstViews → ℕ → Page → Table → Result Table ℕ
with_view_by first n v rows =
    if not (is_view_place n (first_of_verb v.method first)) then Err n else
    if not (is_view_place n first.any) then Ok rows else
    with_pattern n (parse_route v.path) (route_by first v.path) rows

-- The table with all views from the n-th on.
abbrev pub table_by : (List ℕ → FirstViews) → ℕ → List Page → Table → Result Table ℕ
table_by firsts n [] rows = Ok rows
table_by firsts n (v ∷ rest) rows = go_on (with_view_by (firsts v.path) n v rows)
    (table_by firsts (n + 1) rest)
