-- The statements of a view by its place.
use Rattle.std.proofs.Common.{◌≡◌, refl, ap, sym, ◌∙◌, ℕ, ◌<◌, List, [], ◌∷◌, map, length, get_or, slice_get}
use Rattle.std.specs.Option.{option_map}
use Rattle.std.proofs.lemmas.Option.{slice_get-map, slice_get-get_or}
use Rattle.jac_lang.specs.declared.pages.View.{View}
use Rattle.jac_lang.specs.Mirror.{page_of_view, pages_of, statements_of}
use Rattle.jac_lang.specs.Syntax.{Page}
use Rattle.jac_plain.specs.Requests.{body_in}

pages-map : (vs : List View) → pages_of vs ≡ map page_of_view vs
pages-map [] = refl
pages-map (v ∷ vs) = ap (λ (l : List Page). page_of_view v ∷ l) (pages-map vs)

view_there : (vs : List View) (i : ℕ) → slice_get (pages_of vs) i ≡ option_map page_of_view (slice_get vs i)
view_there vs i = ap (λ (l : List Page). slice_get l i) (pages-map vs) ∙ slice_get-map page_of_view vs i

pub body_there : (vs : List View) (i : ℕ) (d : View) → i < length vs → statements_of (get_or vs i d).body ≡ body_in (slice_get (pages_of vs) i)
body_there vs i d below = sym (ap body_in (view_there vs i ∙ ap (option_map page_of_view) (slice_get-get_or vs i d below)))
