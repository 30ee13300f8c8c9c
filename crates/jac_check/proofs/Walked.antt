-- Items of a list that are tested one by one, each after those before it.
use Rattle.std.proofs.Common.{◌≡◌, ℕ, ◌+◌, ◌<◌, List, [], ◌∷◌, ◌++◌, length, take, drop, get_or, Option, None, sym, ◌∙◌, ap, add-one, drop-cons, take-suc, suc}
use Rattle.jac_check.specs.Verdict.{◌before◌}

module _ {A B C : Type 0} (g : A → B) (f : List A → List B) (none : f [] ≡ []) (more : (x : A) (xs : List A) → f (x ∷ xs) ≡ g x ∷ f xs)
    (test : List B → B → Option C) (F : List B → List B → Option C) (F-more : (e : List B) (y : B) (ys : List B) → F e (y ∷ ys) ≡ (test e y before F (e ++ y ∷ []) ys)) where
  seen-append : (xs ys : List A) → f (xs ++ ys) ≡ f xs ++ f ys
  seen-append [] ys = ap (λ (s : List B). s ++ f ys) (sym none)
  seen-append (x ∷ xs) ys = more x (xs ++ ys) ∙ ap (λ (s : List B). g x ∷ s) (seen-append xs ys) ∙ ap (λ (s : List B). s ++ f ys) (sym (more x xs))

  left : (xs : List A) (x : A) (i : ℕ) → x ≡ get_or xs i x → i < length xs → f (drop i xs) ≡ g x ∷ f (drop (i + 1) xs)
  left xs x i item below =
      let next : drop i xs ≡ x ∷ drop (i + 1) xs = rw add-one (drop-cons xs i x below ∙ ap (λ (z : A). z ∷ drop (suc i) xs) (sym item)) in
      ap f next ∙ more x (drop (i + 1) xs)

  done : (xs : List A) (x : A) (i : ℕ) → x ≡ get_or xs i x → i < length xs → f (take (i + 1) xs) ≡ f (take i xs) ++ g x ∷ []
  done xs x i item below =
      let next : take (i + 1) xs ≡ take i xs ++ x ∷ [] = rw add-one (take-suc xs i x below ∙ ap (λ (z : A). take i xs ++ z ∷ []) (sym item)) in
      ap f next ∙ seen-append (take i xs) (x ∷ []) ∙ ap (λ (s : List B). f (take i xs) ++ s) (more x [] ∙ ap (λ (s : List B). g x ∷ s) none)

  opened : (xs : List A) (x : A) (i : ℕ) → x ≡ get_or xs i x → i < length xs
      → F (f (take i xs)) (f (drop i xs)) ≡ (test (f (take i xs)) (g x) before F (f (take (i + 1) xs)) (f (drop (i + 1) xs)))
  opened xs x i item below =
      ap (F (f (take i xs))) (left xs x i item below) ∙ F-more (f (take i xs)) (g x) (f (drop (i + 1) xs))
      ∙ ap (λ (e : List B). test (f (take i xs)) (g x) before F e (f (drop (i + 1) xs))) (sym (done xs x i item below))

  -- The item at the index passes.
  pub walked-more : (xs : List A) (x : A) (i : ℕ) (all : Option C) → x ≡ get_or xs i x → i < length xs → None ≡ test (f (take i xs)) (g x)
      → F (f (take i xs)) (f (drop i xs)) ≡ all → F (f (take (i + 1) xs)) (f (drop (i + 1) xs)) ≡ all
  walked-more xs x i all item below passes so_far =
      ap (λ (o : Option C). o before F (f (take (i + 1) xs)) (f (drop (i + 1) xs))) passes ∙ sym (opened xs x i item below) ∙ so_far
