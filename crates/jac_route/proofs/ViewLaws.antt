-- A view of an application by its place.
use Rattle.std.proofs.Common.{◌≡◌, inl, inr, refl, ℕ, zero, suc, ◌<◌, ◌≤◌, ◌&&◌, nat_lt, Bool, true, false, List, [], ◌∷◌, length, get_or, Some, arith}
use Rattle.std.specs.Prelude.{position, slice_get}
use Rattle.std.specs.List.{position_or_len}
use Rattle.std.specs.Str.{bytes_eq}
use Rattle.std.proofs.lemmas.Bool.{cases_lt}
use Rattle.std.proofs.lemmas.Bool.Decides.{nat_tests}
use Rattle.std.proofs.lemmas.List.Quantifiers.{position-Some}
use Rattle.std.proofs.lemmas.List.Sums.{fails_before_first}
use Rattle.std.proofs.lemmas.Slice.Eq.{bytes_eq-Decides}
use Rattle.jac_lang.specs.Syntax.{Page, Statements}
use Rattle.jac_lang.specs.declared.pages.Verb.{Verb}
use Rattle.jac_lang.specs.declared.pages.Verb.TheVariants as verbs
use Rattle.jac_route.specs.Routes.{same_verb, is_at, view_place}
use Rattle.jac_route.specs.Fitting.{IsViewAt}

pub no_page : Page
no_page = record { method = verbs.Get; path = []; params = []; body = Statements.none }

pub view_there : (views : List Page) (n : ℕ) → n < length views → slice_get views n ≡ Some (get_or views n no_page)
view_there [] n h = absurd (omega arith)
view_there (v ∷ views) zero h = refl
view_there (v ∷ views) (suc n) h = view_there views n (omega arith)

pub view_within : (views : List Page) (n : ℕ) (v : Page) → slice_get views n ≡ Some v → n < length views
view_within [] n v e = cc
view_within (w ∷ views) zero v e = omega arith
view_within (w ∷ views) (suc n) v e = let on = view_within views n v e in omega arith

pub view_here : (views : List Page) (n : ℕ) (v : Page) → slice_get views n ≡ Some v → get_or views n no_page ≡ v
view_here [] n v e = cc
view_here (w ∷ views) zero v e = cc
view_here (w ∷ views) (suc n) v e = view_here views n v e

both : (a b : Bool) → (a && b) ≡ true → (a ≡ true) × (b ≡ true)
both true true e = (refl, refl)
both true false e = cc
both false b e = cc

same_verbs : (v w : Verb) → same_verb v w ≡ true → v ≡ w
same_verbs verbs.Get verbs.Get e = refl
same_verbs verbs.Post verbs.Post e = refl
same_verbs verbs.Get verbs.Post e = cc
same_verbs verbs.Post verbs.Get e = cc

verb_self : (v : Verb) → same_verb v v ≡ true
verb_self verbs.Get = refl
verb_self verbs.Post = refl

pub at_meant : (verb : Verb) (pattern : List ℕ) (v : Page) → is_at verb pattern v ≡ true → (v.method ≡ verb) × (v.path ≡ pattern)
at_meant verb pattern v e =
    let parts = both (same_verb v.method verb) (bytes_eq v.path pattern) e in
    (same_verbs v.method verb parts.0, (bytes_eq-Decides v.path pattern).0 parts.1)

pub at_self : (v : Page) → is_at v.method v.path v ≡ true
at_self v = rw (verb_self v.method, (bytes_eq-Decides v.path v.path).1 refl) refl

-- If a method and a pattern have a place, the view there has this method and pattern.
pub placed_view : (views : List Page) (verb : Verb) (pattern : List ℕ) (n : ℕ) → view_place views verb pattern ≡ Some n → IsViewAt views n verb pattern
placed_view views verb pattern n e =
    let found = position-Some (is_at verb pattern) views n no_page e in
    let meant = at_meant verb pattern (get_or views n no_page) found.1 in
    (get_or views n no_page, view_there views n found.0, meant.0, meant.1)

-- If the n-th view passes, there is a first view that does, and it isn't after the n-th.
first_place : (p : Page → Bool) (views : List Page) (n : ℕ) → n < length views → p (get_or views n no_page) ≡ true
    → (k : ℕ) × (position p views ≡ Some k) × (k ≤ n)
first_place p views n within holds =
    elim (cases_lt n (position_or_len p views)) [
      | inl before ↦ let fails = fails_before_first p views n no_page before in cc
      | inr at ↦ let inside : nat_lt (position_or_len p views) (length views) ≡ true = grind (arith, nat_tests) in
          (position_or_len p views, rw inside refl, at)
    ]

pub place_of_view : (views : List Page) (n : ℕ) (v : Page) → slice_get views n ≡ Some v → (k : ℕ) × (view_place views v.method v.path ≡ Some k) × (k ≤ n)
place_of_view views n v e =
    first_place (is_at v.method v.path) views n (view_within views n v e) (rw (view_here views n v e) (at_self v))
