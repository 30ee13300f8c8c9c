-- Which entries are left after one is taken out, put in or invalidated.
use Rattle.std.proofs.Common.{◌≡◌, ◌∙◌, sym, ap, subst, refl, zero, suc, ℕ, ◌<◌, ◌==◌, Bool, true, false, ◌⊎◌, inl, inr, Option, Some, None, List, [], ◌∷◌, ◌++◌, length, take, drop, arith, slice_index_or}
use Rattle.std.specs.List.{position}
use Rattle.std.proofs.lemmas.List.Quantifiers.{position-Some}
use Rattle.jac_policy_cache.specs.declared.invalidation.Invalidation.{Invalidation}
use Rattle.jac_policy_cache.specs.ViewerCache.{Invalidates}
use Rattle.jac_policy_cache.specs.Affected.{is_same_viewer}
use Rattle.jac_viewer_caches.specs.CacheEntries.{AreInvalidated, IsOneOf, WasInvalidated, entry_of}
use Rattle.jac_viewer_caches.specs.declared.viewer_caches.ViewerEntry.{ViewerEntry}

pub same_viewer : (one other : Option ℕ) → is_same_viewer one other ≡ true → one ≡ other
same_viewer None None h = refl
same_viewer None (Some other) h = grind (arith, h)
same_viewer (Some one) None h = grind (arith, h)
same_viewer (Some one) (Some other) h = ap Some (grind (arith, h))

-- An entry that is left after one was taken out was there before.
pub in_removed : (s : ViewerEntry) (i : ℕ) (xs : List ViewerEntry) → IsOneOf s (take i xs ++ drop (suc i) xs) → IsOneOf s xs
in_removed s zero [] h = h
in_removed s zero (x ∷ xs) h = inr h
in_removed s (suc i) [] h = h
in_removed s (suc i) (x ∷ xs) (inl is) = inl is
in_removed s (suc i) (x ∷ xs) (inr more) = inr (in_removed s i xs more)

-- The entry at a place is in the list.
pub in_at : (s : ViewerEntry) (i : ℕ) (xs : List ViewerEntry) → i < length xs → s ≡ slice_index_or xs i s → IsOneOf s xs
in_at s i [] h is = absurd (omega (arith, h))
in_at s zero (x ∷ xs) h is = inl is
in_at s (suc i) (x ∷ xs) h is = inr (in_at s i xs (omega (arith, h)) is)

-- The first entry of the viewer.
pub taken_of : (x : ViewerEntry) (viewer : Option ℕ) (xs : List ViewerEntry) (i : ℕ) → position (λ (s : ViewerEntry). is_same_viewer s.viewer viewer) xs ≡ Some i
    → x ≡ slice_index_or xs i x → IsOneOf (entry_of viewer x.cache) xs
taken_of x viewer xs i found is =
    let at = position-Some (λ (s : ViewerEntry). is_same_viewer s.viewer viewer) xs i x found in
    let same : is_same_viewer x.viewer viewer ≡ true = ap (λ (s : ViewerEntry). is_same_viewer s.viewer viewer) is ∙ at.1 in
    subst (λ (v : Option ℕ). IsOneOf (entry_of v x.cache) xs) (same_viewer x.viewer viewer same) (in_at x i xs at.0 is)

-- An entry was put after the others.
pub in_put : (s x : ViewerEntry) (xs : List ViewerEntry) → IsOneOf s (xs ++ x ∷ []) → (s ≡ x) ⊎ IsOneOf s xs
in_put s x [] (inl is) = inl is
in_put s x [] (inr none) = absurd none
in_put s x (y ∷ ys) (inl is) = inr (inl is)
in_put s x (y ∷ ys) (inr more) = elim (in_put s x ys more) [
  | inl is ↦ inl is
  | inr was ↦ inr (inr was)
]

pub in_front : (s x : ViewerEntry) (xs : List ViewerEntry) → IsOneOf s xs → IsOneOf s (xs ++ x ∷ [])
in_front s x [] nothing = absurd nothing
in_front s x (y ∷ ys) (inl is) = inl is
in_front s x (y ∷ ys) (inr more) = inr (in_front s x ys more)

pub in_last : (x : ViewerEntry) (xs : List ViewerEntry) → IsOneOf x (xs ++ x ∷ [])
in_last x [] = inl refl
in_last x (y ∷ ys) = inr (in_last x ys)

-- Room was made, and an entry was put in.
pub kept_more : (x : ViewerEntry) (old room new : List ViewerEntry) → ((s : ViewerEntry) → IsOneOf s room → IsOneOf s old)
    → (new ≡ room ++ x ∷ []) ⊎ (new ≡ room) → (s : ViewerEntry) → IsOneOf s new → (s ≡ x) ⊎ IsOneOf s old
kept_more x old room new left (inl put) s h = elim (in_put s x room (rw put at h)) [
  | inl is ↦ inl is
  | inr was ↦ inr (left s was)
]
kept_more x old room new left (inr still) s h = inr (left s (rw still at h))

invalidated_of : (invalidation : Invalidation) (all : List ViewerEntry) (x y : ViewerEntry) → IsOneOf x all → y.viewer ≡ x.viewer → Invalidates invalidation x.viewer x.cache y.cache
    → WasInvalidated invalidation all y
invalidated_of invalidation all x y is same invalidates = record {
  before = x.cache;
  kept = subst (λ (v : Option ℕ). IsOneOf (entry_of v x.cache) all) (sym same) is;
  invalidated = subst (λ (v : Option ℕ). Invalidates invalidation v x.cache y.cache) (sym same) invalidates;
}

-- The entries that are left to invalidate were there, and each that is done was invalidated.
pub record AreHalfway (invalidation : Invalidation) (all left done : List ViewerEntry) : Type 0 where
  pub left_of : (s : ViewerEntry) → IsOneOf s left → IsOneOf s all
  pub done_of : AreInvalidated invalidation all done

pub none_invalidated : (invalidation : Invalidation) (all : List ViewerEntry) → AreHalfway invalidation all all []
none_invalidated invalidation all = record {
  left_of = λ s is. is;
  done_of = record { each = λ s nothing. absurd nothing };
}

pub one_invalidated : (invalidation : Invalidation) (all left rest done new : List ViewerEntry) (x y : ViewerEntry) → AreHalfway invalidation all left done
    → left ≡ rest ++ x ∷ [] → y.viewer ≡ x.viewer → Invalidates invalidation x.viewer x.cache y.cache → (new ≡ done ++ y ∷ []) ⊎ (new ≡ done) → AreHalfway invalidation all rest new
one_invalidated invalidation all left rest done new x y half popped same invalidates (inr dropped) = record {
  left_of = λ s is. half.left_of s (rw popped (in_front s x rest is));
  done_of = record { each = λ s is. half.done_of.each s (rw dropped at is) };
}
one_invalidated invalidation all left rest done new x y half popped same invalidates (inl pushed) = record {
  left_of = λ s is. half.left_of s (rw popped (in_front s x rest is));
  done_of = record {
    each = λ s is. elim (in_put s y done (rw pushed at is)) [
      | inl it ↦ rw it (invalidated_of invalidation all x y (half.left_of x (rw popped (in_last x rest))) same invalidates)
      | inr was ↦ half.done_of.each s was
    ];
  };
}
