-- Which paths a pattern fits, and which views have a given method and pattern.
use Rattle.std.specs.Prelude.{◌≡◌, ◌≢◌, ◌⊎◌, ℕ, ◌<◌, true, false, List, [], ◌∷◌, ◌++◌, Option, Some, Result, Ok, Err, slice_get}
use Rattle.matchit.specs.Rows.{param_token, catch_all_token}
use Rattle.matchit.specs.Seek.{has_slash}
use Rattle.matchit.specs.Route.{Scan, parse_route}
use Rattle.matchit.specs.Conflict.{conflicts}
use Rattle.matchit.specs.declared.error.InsertError.{InsertError}
use Rattle.jac_lang.specs.declared.pages.Verb.{Verb}
use Rattle.jac_lang.specs.Syntax.{Page}
use Rattle.jac_route.specs.declared.pairs.Pair.{Pair}
use Rattle.jac_route.specs.PathPairs.{path_pairs}

-- The tokens of a pattern read all of a path. A byte reads itself, a parameter one or more bytes
-- without a slash, and a catch-all, which comes last, one or more bytes.
abbrev pub ReadsPath : List ℕ → List ℕ → Type 0
ReadsPath [] path = path ≡ []
ReadsPath (token ∷ tokens) path =
    ((rest : List ℕ) × (path ≡ token ∷ rest) × ReadsPath tokens rest)
    ⊎ ((part : List ℕ) × (rest : List ℕ) × (token ≡ param_token) × (part ≢ [])
    × (has_slash part ≡ false) × (path ≡ part ++ rest) × ReadsPath tokens rest)
    ⊎ ((token ≡ catch_all_token) × (tokens ≡ []) × (path ≢ []))

-- The pattern, parsed by `matchit`, fits the path.
abbrev pub FitsPath : List ℕ → List ℕ → Type 0
FitsPath pattern path = (scan : Scan) × (parse_route pattern ≡ Ok scan) × ReadsPath scan.pattern
    path

-- The n-th view has this method and pattern.
abbrev pub IsViewAt : List Page → ℕ → Verb → List ℕ → Type 0
IsViewAt views n verb pattern = (v : Page) × (slice_get views n ≡ Some v) × (v.method ≡ verb)
    × (v.path ≡ pattern)

-- A view before the n-th has this method and pattern.
abbrev pub IsRepeated : List Page → ℕ → Verb → List ℕ → Type 0
IsRepeated views n verb pattern = (k : ℕ) × (k < n) × IsViewAt views k verb pattern

-- A view before the n-th has a pattern with which this one conflicts in `matchit`.
abbrev pub HasRival : List Page → ℕ → List ℕ → Type 0
HasRival views n tokens =
    (k : ℕ) × (v : Page) × (scan : Scan) × (k < n) × (slice_get views k ≡ Some v)
    × (parse_route v.path ≡ Ok scan) × (conflicts tokens scan.pattern ≡ true)

-- `matchit` can't parse the pattern, or it conflicts with that of a view before the n-th.
abbrev pub IsNoRoute : List Page → ℕ → Result Scan InsertError → Type 0
IsNoRoute views n (Err e) = Unit {0}
IsNoRoute views n (Ok scan) = HasRival views n scan.pattern

-- There is an n-th view, and it is refused: an earlier view has its method and pattern, or its
-- pattern is no route beside the earlier ones.
abbrev pub IsRefusedAt : List Page → ℕ → Type 0
IsRefusedAt views n = (v : Page) × (slice_get views n ≡ Some v)
    × (IsRepeated views n v.method v.path ⊎ IsNoRoute views n (parse_route v.path))

-- There is an n-th view. It has the method, and its pattern fits the path, which gives these pairs.
abbrev pub IsFitting : List Page → Option Verb → List ℕ → ℕ → List Pair → Type 0
IsFitting views verb path n pairs = (v : Page) × (slice_get views n ≡ Some v)
    × (verb ≡ Some v.method) × FitsPath v.path path × (pairs ≡ path_pairs v.path path)
