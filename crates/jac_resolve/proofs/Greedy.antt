-- The greedy pass over plain lists.
use Rattle.std.proofs.Common.{◌≡◌, ◌<◌, ◌≤◌, ◌+◌, ◌==◌, ◌||◌, ℕ, zero, suc, Bool, true, false, if◌then◌else◌, List, [], ◌∷◌, Option, drop, length, get_or, refl, ap, sym, subst, ◌∙◌, arith}
use Rattle.std.specs.Bool.{⊤}
use Rattle.std.proofs.lemmas.Bool.Decides.{nat_tests, Decides-eqb}
use Rattle.std.proofs.lemmas.Bool.{or_right, or_left}
use Rattle.jac_world.specs.World.{shown_by, IsAscending}
use Rattle.jac_lang.specs.Syntax.{Application}
use Rattle.jac_plain.specs.Requests.{Worlds}
use Rattle.jac_plain.specs.Policies.{with_label, IsSettled}
use Rattle.jac_shown_rows.proofs.Working.{next}
use Rattle.jac_policy_cache.specs.declared.policy_memo.PolicyMemo.{PolicyMemo}
use Rattle.jac_resolve.specs.RightMemo.{Fills, Grown, IsPassed, IsUnderway, Retains, RemembersForbidden, Tries}
use Rattle.jac_resolve.specs.Rounds.{hidden_count, AreLive, MayAdd, Advances, Within}
use Rattle.jac_resolve.proofs.Fewer.{itself, fewer}
use Rattle.jac_resolve.proofs.Underway.{grown_same, grown_then, refused_still}

pub advances : (labels start old new : List ℕ) (k : ℕ) (added one : Bool) → shown_by labels k ≡ true → Advances labels start old added → MayAdd k old new one → Advances labels start new (added || one)
advances labels start old new k true true s a g = let less : hidden_count (shown_by new) labels < hidden_count (shown_by old) labels = fewer k (shown_by old) (shown_by new) g.0 g.1 labels s in omega arith
advances labels start old new k true false s a g = let same : shown_by new ≡ shown_by old = λ i j. g j i in subst (λ (w : ℕ → Bool). hidden_count w labels < hidden_count (shown_by start) labels) (sym same) a
advances labels start old new k false true s a g =
    let same : shown_by old ≡ shown_by start = λ i j. a j i in
    subst (λ (w : ℕ → Bool). hidden_count (shown_by new) labels < hidden_count w labels) same (fewer k (shown_by old) (shown_by new) g.0 g.1 labels s)
advances labels start old new k false false s a g = λ j. g j ∙ a j

within_if : (same was start among : Bool) → (same ≡ true → among ≡ true) → (was ≡ true → (start || among) ≡ true) → (same || was) ≡ true → (start || among) ≡ true
within_if true was start among there later s = or_right start among (there refl)
within_if false was start among there later s = later s

-- Each label that was added is among the labels.
pub stays_within : (labels start old new : List ℕ) (k : ℕ) (one : Bool) → shown_by labels k ≡ true → Within labels start old → MayAdd k old new one → Within labels start new
stays_within labels start old new k true s within g j h =
    within_if (k == j) (shown_by old j) (shown_by start j) (shown_by labels j)
    (λ e. ap (shown_by labels) (sym ((Decides-eqb k j).0 e)) ∙ s)
    (within j)
    (sym (g.1 j) ∙ h)
stays_within labels start old new k false s within g j h = within j (sym (g j) ∙ h)

pub within_same : (labels start : List ℕ) → Within labels start start
within_same labels start j s = or_left (shown_by start j) (shown_by labels j) s

pub within_then : (labels start old new : List ℕ) → Within labels start old → Within labels old new → Within labels start new
within_then labels start old new before more j s = then_if (shown_by old j) (shown_by start j) (shown_by labels j) (before j) (more j s)
  where
    then_if : (was a b : Bool) → (was ≡ true → (a || b) ≡ true) → (was || b) ≡ true → (a || b) ≡ true
    then_if true a b there h = there refl
    then_if false a b there h = or_right a b h

-- What was shown stays shown, and what was cached stays cached.
pub retains_same : (labels : List ℕ) (answers : PolicyMemo) → Retains labels labels answers answers
retains_same labels answers = record { shows = λ j s. s; grown = grown_same answers }

pub retains_then : (start old new : List ℕ) (first answers known : PolicyMemo) → Retains start old first answers → Retains old new answers known → Retains start new first known
retains_then start old new first answers known before more = record {
  shows = λ j s. more.shows j (before.shows j s);
  grown = grown_then first answers known before.grown more.grown;
}

pub retains_on : (start old new : List ℕ) (first answers known : PolicyMemo) (k : ℕ) (one : Bool) → Retains start old first answers → MayAdd k old new one → Grown answers known → Retains start new first known
retains_on start old new first answers known k true before g grown = record {
  shows = λ j s. g.1 j ∙ or_right (k == j) (shown_by old j) (before.shows j s);
  grown = grown_then first answers known before.grown grown;
}
retains_on start old new first answers known k false before g grown = record {
  shows = λ j s. g j ∙ before.shows j s;
  grown = grown_then first answers known before.grown grown;
}

-- The labels that are left are among all labels.
pub left_is_shown : (xs : List ℕ) (i k : ℕ) → shown_by (drop i xs) k ≡ true → shown_by xs k ≡ true
left_is_shown [] zero k h = h
left_is_shown [] (suc i) k h = h
left_is_shown (x ∷ xs) zero k h = h
left_is_shown (x ∷ xs) (suc i) k h = or_right (x == k) (shown_by xs k) (left_is_shown xs i k h)

pub first_is_shown : (xs : List ℕ) (i x : ℕ) → x ≡ get_or xs i x → i < length xs → shown_by xs x ≡ true
first_is_shown xs i x item below = left_is_shown xs i x (rw (next xs x i item below) (rw (itself x) refl))

module _ (app : Application) (worlds : Worlds) (viewer : Option ℕ) where
  -- None of the labels that were tried can be added, unless one was added.
  abbrev pub FillsBut : PolicyMemo → List ℕ → List ℕ → List ℕ → Bool → Type 0
  FillsBut answers labels left new true = ⊤
  FillsBut answers labels left new false = (k : ℕ) → shown_by labels k ≡ true → shown_by left k ≡ false → shown_by new k ≡ false → RemembersForbidden app worlds viewer answers (with_label k (shown_by new))

  pub filled : (answers : PolicyMemo) (labels left new : List ℕ) (added : Bool) → left ≡ [] → FillsBut answers labels left new added → Fills app worlds viewer answers labels new added
  filled answers labels left new true none fills = tt
  filled answers labels left new false none fills = record { each = λ k among hidden. fills k among (ap (λ l. shown_by l k) none) hidden }

  -- The invariant of a round, before the labels that are left are tried.
  pub record Round (labels left new : List ℕ) (answers : PolicyMemo) (added : Bool) : Type 0 where
    pub underway : IsUnderway app worlds viewer new answers
    pub fills : FillsBut answers labels left new added

  fills_if : (answers : PolicyMemo) (x k : ℕ) (same rest : Bool) (new : List ℕ) → (x == k) ≡ same → rest ≡ false → shown_by new k ≡ false →
      (shown_by new x ≡ false → RemembersForbidden app worlds viewer answers (with_label x (shown_by new))) →
      ((same || rest) ≡ false → RemembersForbidden app worlds viewer answers (with_label k (shown_by new))) →
      RemembersForbidden app worlds viewer answers (with_label k (shown_by new))
  fills_if answers x k true rest new e left hidden tried before =
      let is : x ≡ k = (Decides-eqb x k).0 e in
      subst (λ (j : ℕ). RemembersForbidden app worlds viewer answers (with_label j (shown_by new))) is (tried (ap (shown_by new) is ∙ hidden))
  fills_if answers x k false rest new e left hidden tried before = before left

  fills_on : (answers known : PolicyMemo) (labels more old new : List ℕ) (x : ℕ) (added one : Bool) → Grown answers known → FillsBut answers labels (x ∷ more) old added → MayAdd x old new one →
      Tries app worlds viewer known x old new one → FillsBut known labels more new (added || one)
  fills_on answers known labels more old new x true one grown before g t = tt
  fills_on answers known labels more old new x false true grown before g t = tt
  fills_on answers known labels more old new x false false grown before g t = λ k among left hidden.
      let same : shown_by old ≡ shown_by new = λ i j. sym (g j) i in
      subst (λ (w : ℕ → Bool). RemembersForbidden app worlds viewer known (with_label k w)) same (still k among left (sym (g k) ∙ hidden))
    where
      still : FillsBut known labels more old false
      still k among left hidden =
          fills_if known x k (x == k) (shown_by more k) old refl left hidden t
          (λ s. refused_still app worlds viewer (with_label k (shown_by old)) answers known grown (before k among s hidden))

  -- One more label was tried.
  pub round_on : (labels left old new : List ℕ) (answers known : PolicyMemo) (x : ℕ) (more : List ℕ) (added one : Bool) → left ≡ x ∷ more → Grown answers known → Round labels left old answers added →
      MayAdd x old new one → Tries app worlds viewer known x old new one → IsUnderway app worlds viewer new known → Round labels more new known (added || one)
  round_on labels left old new answers known x more added one is grown before g t underway = record {
    underway = underway;
    fills = fills_on answers known labels more old new x added one grown (subst (λ (l : List ℕ). FillsBut answers labels l old added) is before.fills) g t;
  }

  -- Before any label is tried.
  pub round_start : (labels new : List ℕ) (answers : PolicyMemo) → IsUnderway app worlds viewer new answers → Round labels labels new answers false
  round_start labels new answers underway = record {
    underway = underway;
    fills = λ k among left hidden. absurd (let both : true ≡ false = sym among ∙ left in cc);
  }

  -- If none of the live labels can be added, the labels are settled.
  pub passed_settled : (answers : PolicyMemo) (live labels : List ℕ) → IsAscending labels → AreLive app worlds live → IsPassed app worlds viewer answers live labels → IsSettled app worlds viewer labels
  passed_settled answers live labels ascending are passed = record {
    ascending = ascending;
    live = λ k s. are.only k (passed.within k s);
    allowed = passed.underway.allowed;
    full = λ k lives hidden. (let one = passed.refused.each k (are.every k lives) hidden in record { label = one.label; is_shown = one.is_shown; forbidden = one.forbidden });
  }

pub none_left : (xs : List ℕ) (i : ℕ) → length xs ≤ i → drop i xs ≡ []
none_left [] zero past = refl
none_left [] (suc i) past = refl
none_left (x ∷ xs) zero past = absurd (omega (arith, past))
none_left (x ∷ xs) (suc i) past = none_left xs i (omega (arith, past))

-- The cached results are right, and so is what was checked so far.
pub record SoFar (right asked : Type 0) : Type 0 where
  pub remembered : right
  pub so_far : asked

-- The invariant of a round: what holds even if the contents of the keeper aren't known, and a
-- further property.
pub record InRound (labels start new : List ℕ) (added : Bool) (old known : PolicyMemo) (before now : ℕ) (beside : Type 0) : Type 0 where
  pub later : before ≤ now
  pub advances : Advances labels start new added
  pub within : Within labels start new
  pub retains : Retains start new old known
  pub working : beside

-- The invariant between two rounds.
pub record InRounds (labels start new : List ℕ) (old known : PolicyMemo) (before now : ℕ) (beside : Type 0) : Type 0 where
  pub later : before ≤ now
  pub within : Within labels start new
  pub retains : Retains start new old known
  pub working : beside
