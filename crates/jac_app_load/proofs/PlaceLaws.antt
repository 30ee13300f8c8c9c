-- The pages of views have the same places as the views.
use Rattle.std.proofs.Common.{◌≡◌, ℕ, zero, suc, List, [], ◌∷◌, length, refl, ap, Some}
use Rattle.std.specs.Prelude.{slice_get}
use Rattle.jac_lang.specs.Mirror.{page_of_view, pages_of}
use Rattle.jac_lang.specs.declared.pages.View.{View}
use Rattle.jac_lang.proofs.Places.{length-seen}

pub page_at : (vs : List View) (i : ℕ) (v : View) → slice_get vs i ≡ Some v → slice_get (pages_of vs) i ≡ Some (page_of_view v)
page_at [] i v h = cc
page_at (x ∷ xs) zero v h = let same : x ≡ v = cc in ap (λ (y : View). Some (page_of_view y)) same
page_at (x ∷ xs) (suc i) v h = page_at xs i v h

pub length_pages : (vs : List View) → length (pages_of vs) ≡ length vs
length_pages vs = length-seen page_of_view pages_of refl (λ _ _. refl) vs
