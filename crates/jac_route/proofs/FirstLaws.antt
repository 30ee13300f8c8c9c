-- The table made from the first views of each pattern is the table of the views.
use Rattle.std.proofs.Common.{◌≡◌, ◌∙◌, refl, sym, ap, subst, ℕ, ◌+◌, ◌&&◌, not, if◌then◌else◌, cond, Bool, true, false, List, [], ◌∷◌, Option, Some, Result, Ok, Err, IfOk, IfErr}
use Rattle.std.specs.Prelude.{unwrap_or}
use Rattle.std.specs.List.{position_from}
use Rattle.std.specs.Ordering.{nat_cmp, is_eq}
use Rattle.std.specs.Cmp.Lexicographic.{slice_cmp}
use Rattle.std.specs.Str.{bytes_eq}
use Rattle.std.proofs.lemmas.Iterator.Adapters.{position_from-zero}
use Rattle.std.proofs.lemmas.Map.Text.{is_eq-slice_cmp}
use Rattle.std.proofs.lemmas.Slice.Eq.{bytes_eq-Decides}
use Rattle.matchit.specs.Route.{parse_route}
use Rattle.jac_lang.specs.Syntax.{Page}
use Rattle.jac_lang.specs.declared.pages.Verb.{Verb}
use Rattle.jac_lang.specs.declared.pages.Verb.TheVariants as verbs
use Rattle.jac_route.specs.declared.firsts.FirstViews.{FirstViews}
use Rattle.jac_route.specs.declared.routes.RouteFault.{RouteFault}
use Rattle.jac_route.specs.Routes.{Table, Clashes, same_verb, has_pattern, is_at, is_view_place, pattern_place, view_place, route_of, with_pattern, with_view, go_on, table_from}
use Rattle.jac_route.specs.Firsts.{no_firsts, with_first, with_view_before, firsts_from, first_of_verb, with_view_by, table_by}

-- ---- a map

-- After a put: the map has these first views for the pattern, and what it had before for the
-- others.
abbrev pub SetAt : List ℕ → FirstViews → (List ℕ → Option FirstViews) → (List ℕ → Option FirstViews) → Type 0
SetAt pattern first f g = (q : List ℕ) → g q ≡ cond (is_eq (slice_cmp nat_cmp pattern q)) (Some first) (f q)

pub put_before : (pattern : List ℕ) (n : ℕ) (verb : Verb) (first : FirstViews) (f g : List ℕ → Option FirstViews) → SetAt pattern first f g
    → first ≡ with_first n verb (unwrap_or (f pattern) no_firsts) → (q : List ℕ)
    → unwrap_or (g q) no_firsts ≡ (if bytes_eq pattern q then with_first n verb (unwrap_or (f q) no_firsts) else unwrap_or (f q) no_firsts)
put_before pattern n verb first f g set is q = by (bytes_eq pattern q) refl
  where
    now : (b : Bool) → bytes_eq pattern q ≡ b → g q ≡ cond b (Some first) (f q)
    now b e = set q ∙ ap (λ (x : Bool). cond x (Some first) (f q)) (is_eq-slice_cmp pattern q ∙ e)

    by : (b : Bool) → bytes_eq pattern q ≡ b
        → unwrap_or (g q) no_firsts ≡ (if b then with_first n verb (unwrap_or (f q) no_firsts) else unwrap_or (f q) no_firsts)
    by true e =
        ap (λ (o : Option FirstViews). unwrap_or o no_firsts) (now true e)
        ∙ is
        ∙ ap (λ (p : List ℕ). with_first n verb (unwrap_or (f p) no_firsts)) ((bytes_eq-Decides pattern q).0 e)
    by false e = ap (λ (o : Option FirstViews). unwrap_or o no_firsts) (now false e)

-- ---- the first views

abbrev firsts_in : List Page → List ℕ → FirstViews
firsts_in views pattern = record {
  any = pattern_place views pattern;
  get = view_place views verbs.Get pattern;
  post = view_place views verbs.Post pattern;
}

abbrev counted : ℕ → List Page → List ℕ → FirstViews
counted n views pattern = record {
  any = position_from (has_pattern pattern) n views;
  get = position_from (is_at verbs.Get pattern) n views;
  post = position_from (is_at verbs.Post pattern) n views;
}

one_before : (n : ℕ) (verb : Verb) (b : Bool) (any get post : Option ℕ)
    → (if b then with_first n verb (record { any = any; get = get; post = post }) else record { any = any; get = get; post = post })
    ≡ record { any = cond b (Some n) any; get = cond (same_verb verb verbs.Get && b) (Some n) get; post = cond (same_verb verb verbs.Post && b) (Some n) post }
one_before n verbs.Get true any get post = refl
one_before n verbs.Post true any get post = refl
one_before n verbs.Get false any get post = refl
one_before n verbs.Post false any get post = refl

from_counted : (n : ℕ) (views : List Page) (pattern : List ℕ) → firsts_from n views pattern ≡ counted n views pattern
from_counted n [] pattern = refl
from_counted n (v ∷ views) pattern =
    ap (with_view_before n v pattern) (from_counted (n + 1) views pattern)
    ∙ one_before n v.method (bytes_eq v.path pattern) (position_from (has_pattern pattern) (n + 1) views)
    (position_from (is_at verbs.Get pattern) (n + 1) views) (position_from (is_at verbs.Post pattern) (n + 1) views)

firsts_are : (views : List Page) (pattern : List ℕ) → firsts_from 0 views pattern ≡ firsts_in views pattern
firsts_are views pattern =
    let any = sym (position_from-zero (has_pattern pattern) views) in
    let get = sym (position_from-zero (is_at verbs.Get pattern) views) in
    let post = sym (position_from-zero (is_at verbs.Post pattern) views) in
    from_counted 0 views pattern ∙ (λ i. record { any = any i; get = get i; post = post i })

-- ---- the table

own_first : (views : List Page) (verb : Verb) (pattern : List ℕ) → first_of_verb verb (firsts_in views pattern) ≡ view_place views verb pattern
own_first views verbs.Get pattern = refl
own_first views verbs.Post pattern = refl

view_same : (views : List Page) (n : ℕ) (v : Page) (rows : Table) → with_view_by (firsts_in views v.path) n v rows ≡ with_view views n v rows
view_same views n v rows =
    ap (λ (o : Option ℕ). if not (is_view_place n o) then Err n else
    if not (is_view_place n (pattern_place views v.path)) then Ok rows else
    with_pattern n (parse_route v.path) (route_of views v.path) rows) (own_first views v.method v.path)

go_same : (read : Result Table ℕ) (f g : Table → Result Table ℕ) → ((rows : Table) → f rows ≡ g rows) → go_on read f ≡ go_on read g
go_same (Ok rows) f g same = same rows
go_same (Err n) f g same = refl

table_same : (f : List ℕ → FirstViews) (views : List Page) → ((q : List ℕ) → f q ≡ firsts_in views q) → (n : ℕ) (rest : List Page) (rows : Table)
    → table_by f n rest rows ≡ table_from views n rest rows
table_same f views are n [] rows = refl
table_same f views are n (v ∷ rest) rows =
    ap (λ (first : FirstViews). go_on (with_view_by first n v rows) (table_by f (n + 1) rest)) (are v.path)
    ∙ ap (λ (read : Result Table ℕ). go_on read (table_by f (n + 1) rest)) (view_same views n v rows)
    ∙ go_same (with_view views n v rows) (table_by f (n + 1) rest) (table_from views (n + 1) rest) (λ now. table_same f views are (n + 1) rest now)

whole_table : (f : List ℕ → FirstViews) (views : List Page) → ((q : List ℕ) → f q ≡ firsts_from 0 views q) → table_by f 0 views [] ≡ table_from views 0 views []
whole_table f views are = table_same f views (λ q. are q ∙ firsts_are views q) 0 views []

pub table_ok : (f : List ℕ → FirstViews) (views : List Page) (r : Result Table RouteFault) → ((q : List ℕ) → f q ≡ firsts_from 0 views q)
    → IfOk r (λ rows. table_by f 0 views [] ≡ Ok rows) → IfOk r (λ rows. table_from views 0 views [] ≡ Ok rows)
table_ok f views r are h = subst (λ (t : Result Table ℕ). IfOk r (λ rows. t ≡ Ok rows)) (whole_table f views are) h

pub table_clash : (f : List ℕ → FirstViews) (views : List Page) (r : Result Table RouteFault) → ((q : List ℕ) → f q ≡ firsts_from 0 views q)
    → IfErr r (λ e. Clashes e (table_by f 0 views [])) → IfErr r (λ e. Clashes e (table_from views 0 views []))
table_clash f views r are h = subst (λ (t : Result Table ℕ). IfErr r (λ e. Clashes e t)) (whole_table f views are) h
