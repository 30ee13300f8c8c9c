-- The live labels among some labels.
use Rattle.std.proofs.Common.{◌≡◌, ◌∙◌, ◌↔◌, sym, refl, ap, subst, ℕ, ◌==◌, ◌||◌, Bool, true, false, true≢false, if◌then◌else◌, List, [], ◌∷◌, ◌++◌, append-nil}
use Rattle.std.proofs.lemmas.Bool.Decides.{Decides-eqb}
use Rattle.std.proofs.lemmas.List.Folds.{list_any-append}
use Rattle.jac_world.specs.World.{shown_by}
use Rattle.jac_lang.specs.Syntax.{Application}
use Rattle.jac_plain.specs.Policies.{IsLiveLabel}
use Rattle.jac_plain.specs.Requests.{Worlds}
use Rattle.jac_resolve.specs.Live.{AreLiveOf}

module _ (app : Application) (worlds : Worlds) where
  -- The invariant of the search: each live label among those that were checked is in the list.
  pub record AreLiveBut (labels left live : List ℕ) : Type 0 where
    pub within : (k : ℕ) → shown_by live k ≡ true → shown_by labels k ≡ true
    pub only : (k : ℕ) → shown_by live k ≡ true → IsLiveLabel app worlds k
    pub every : (k : ℕ) → IsLiveLabel app worlds k → shown_by labels k ≡ true → (shown_by live k || shown_by left k) ≡ true

  pub live_none : (labels : List ℕ) → AreLiveBut labels labels []
  live_none labels = record {
    within = λ k s. absurd (true≢false (sym s));
    only = λ k s. absurd (true≢false (sym s));
    every = λ k live s. s;
  }

  skipped_if : (x k : ℕ) (same a m : Bool) → (x == k) ≡ same → IsLiveLabel app worlds k → (IsLiveLabel app worlds x → false ≡ true) → (a || (same || m)) ≡ true → (a || m) ≡ true
  skipped_if x k true a m e live dead h = absurd (true≢false (sym (dead (subst (λ (j : ℕ). IsLiveLabel app worlds j) (sym ((Decides-eqb x k).0 e)) live))))
  skipped_if x k false a m e live dead h = h

  -- A label that isn't live.
  skipped : (labels left live : List ℕ) (x : ℕ) (more : List ℕ) → left ≡ x ∷ more → (IsLiveLabel app worlds x → false ≡ true) → AreLiveBut labels left live → AreLiveBut labels more live
  skipped labels left live x more is dead before = record {
    within = before.within;
    only = before.only;
    every = λ k lives s. skipped_if x k (x == k) (shown_by live k) (shown_by more k) refl lives dead (ap (λ (l : List ℕ). shown_by live k || shown_by l k) (sym is) ∙ before.every k lives s);
  }

  shown_with : (live : List ℕ) (x k : ℕ) → shown_by (live ++ x ∷ []) k ≡ (shown_by live k || (x == k || false))
  shown_with live x k = list_any-append (λ j. j == k) live (x ∷ [])

  among_if : (x k : ℕ) (same a : Bool) (P : ℕ → Type 0) → (x == k) ≡ same → P x → (a ≡ true → P k) → (a || (same || false)) ≡ true → P k
  among_if x k same true P e own before h = before refl
  among_if x k true false P e own before h = subst P ((Decides-eqb x k).0 e) own
  among_if x k false false P e own before h = absurd (true≢false (sym h))

  moved : (a same m : Bool) → (a || (same || m)) ≡ true → ((a || (same || false)) || m) ≡ true
  moved true same m h = refl
  moved false true m h = refl
  moved false false m h = h

  -- A label that is live.
  pushed : (labels left live : List ℕ) (x : ℕ) (more : List ℕ) → left ≡ x ∷ more → shown_by labels x ≡ true → IsLiveLabel app worlds x → AreLiveBut labels left live → AreLiveBut labels more (live ++ x ∷ [])
  pushed labels left live x more is among lives before = record {
    within = λ k s. among_if x k (x == k) (shown_by live k) (λ (j : ℕ). shown_by labels j ≡ true) refl among (before.within k) (sym (shown_with live x k) ∙ s);
    only = λ k s. among_if x k (x == k) (shown_by live k) (λ (j : ℕ). IsLiveLabel app worlds j) refl lives (before.only k) (sym (shown_with live x k) ∙ s);
    every = λ k l s.
        ap (λ (b : Bool). b || shown_by more k) (shown_with live x k)
        ∙ moved (shown_by live k) (x == k) (shown_by more k) (ap (λ (l : List ℕ). shown_by live k || shown_by l k) (sym is) ∙ before.every k l s);
  }

  -- One more label was checked.
  pub live_on : (labels left live : List ℕ) (x : ℕ) (more new : List ℕ) (b : Bool) → left ≡ x ∷ more → shown_by labels x ≡ true → ((b ≡ true) ↔ IsLiveLabel app worlds x) →
      new ≡ live ++ (if b then x ∷ [] else []) → AreLiveBut labels left live → AreLiveBut labels more new
  live_on labels left live x more new true is among tells added before =
      subst (λ (l : List ℕ). AreLiveBut labels more l) (sym added) (pushed labels left live x more is among (tells.0 refl) before)
  live_on labels left live x more new false is among tells added before =
      subst (λ (l : List ℕ). AreLiveBut labels more l) (sym (added ∙ append-nil live)) (skipped labels left live x more is tells.1 before)

  or_none : (a m : Bool) → m ≡ false → (a || m) ≡ true → a ≡ true
  or_none true m none h = refl
  or_none false m none h = absurd (true≢false (sym h ∙ none))

  -- No label is left.
  pub live_all : (labels left live : List ℕ) → left ≡ [] → AreLiveBut labels left live → AreLiveOf app worlds labels live
  live_all labels left live none so_far = record {
    within = so_far.within;
    only = so_far.only;
    every = λ k lives s. or_none (shown_by live k) (shown_by left k) (ap (λ (l : List ℕ). shown_by l k) none) (so_far.every k lives s);
  }
