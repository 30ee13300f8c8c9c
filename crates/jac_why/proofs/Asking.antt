-- Which of the shown labels are evaluated again with one more label, and the first of them that
-- then isn't allowed.
use Rattle.std.proofs.Common.{◌≡◌, ◌∙◌, ◌<◌, ◌≤◌, refl, ap, sym, subst, arith, inl, inr, ℕ, ◌==◌, ◌&&◌, ◌||◌, Bool, true, false, true≢false, if◌then◌else◌, List, [], ◌∷◌, Option, Some, None}
use Rattle.std.specs.Option.{option_map}
use Rattle.std.proofs.lemmas.Bool.{cases_lt, or_right}
use Rattle.std.proofs.lemmas.Bool.Decides.{eqb_tells, Decides-eqb, nat_tests}
use Rattle.jac_world.specs.World.{shown_by, IsAscending}
use Rattle.jac_lang.specs.Syntax.{Application}
use Rattle.jac_rows.specs.declared.plain.PlainState.{PlainState}
use Rattle.jac_plain.specs.Policies.{is_allowed, with_label, AreAllowed}
use Rattle.jac_shown_rows.specs.Consulted.{Agrees}
use Rattle.jac_shown_rows.proofs.Growing.{agrees_same}
use Rattle.jac_why.specs.declared.watch.Watchers.{Watchers}
use Rattle.jac_why.specs.Named.{as_reason}
use Rattle.jac_why.specs.Watched.{asks_again, IsUnmoved, IsWatching, AreWatching}
use Rattle.jac_why.specs.Context.{PlainContext}
use Rattle.jac_why.specs.Whys.{beside, world_beside, first_forbidden, why_hidden}
use Rattle.jac_world.proofs.Inserting.{shown-inserted, ascending-inserted}
use Rattle.jac_why.proofs.Inserting.{grown}

-- An assignment with one more label that wasn't consulted.

left_out : (p a : Bool) → p ≡ false → a ≡ (p || a)
left_out true a h = cc
left_out false a h = refl

apart : (xs : List ℕ) (k j : ℕ) → shown_by xs k ≡ false → shown_by xs j ≡ true → (k == j) ≡ false
apart xs k j hidden seen =
    elim (eqb_tells k j) [
      | inl e ↦ absurd (true≢false (sym seen ∙ ap (shown_by xs) (sym e.1) ∙ hidden))
      | inr e ↦ e.0
    ]

agrees_with : (consulted labels : List ℕ) (k : ℕ) → shown_by consulted k ≡ false → Agrees consulted (shown_by labels) (with_label k (shown_by labels))
agrees_with consulted labels k hidden = record { each = λ j seen. left_out (k == j) (shown_by labels j) (apart consulted k j hidden seen) }

module _ (context : PlainContext) where
  abbrev Says : ℕ → List ℕ → Bool → Type 0
  Says label consulted holds = (w : ℕ → Bool) → Agrees consulted (shown_by context.labels) w → holds ≡ is_allowed context.app (context.worlds w) context.viewer label

  unmoved_by : (label : ℕ) (consulted : List ℕ) (holds : Bool) → Says label consulted holds → (k : ℕ) → shown_by consulted k ≡ false → IsUnmoved context k label
  unmoved_by label consulted holds says k hidden = sym (says (with_label k (shown_by context.labels)) (agrees_with consulted context.labels k hidden)) ∙ says (shown_by context.labels) (agrees_same consulted (shown_by context.labels))

  or_known : (p q : Bool) (r : Bool) → p ≡ ((q && true) || r) → p ≡ false → q ≡ false
  or_known p true r is none = absurd (true≢false (sym is ∙ none))
  or_known p false r is none = refl

  kept_by : (p q r : Bool) → p ≡ (q || r) → r ≡ true → p ≡ true
  kept_by p true r is h = is
  kept_by p false r is h = is ∙ h

  only_by : (p q same r : Bool) → p ≡ ((q && same) || r) → p ≡ true → (same || r) ≡ true
  only_by p true same r is h = sym is ∙ h
  only_by p false same r is h = or_right same r (sym is ∙ h)

  -- A label watches all labels that its policy consulted.
  pub watching_by : (label : ℕ) (consulted : List ℕ) (holds : Bool) (old new : Watchers) → Says label consulted holds
      → ((k j : ℕ) → asks_again new k j ≡ ((shown_by consulted k && label == j) || asks_again old k j)) → IsWatching context label old new
  watching_by label consulted holds old new says added = record {
    kept = λ k j h. kept_by (asks_again new k j) (shown_by consulted k && label == j) (asks_again old k j) (added k j) h;
    only = λ k j h. only_by (asks_again new k j) (shown_by consulted k) (label == j) (asks_again old k j) (added k j) h;
    unmoved = λ k none. unmoved_by label consulted holds says k
        (or_known (asks_again new k label) (shown_by consulted k) (asks_again old k label) (added k label ∙ ap (λ b. (shown_by consulted k && b) || asks_again old k label) (itself label)) none);
  }
    where
      itself : (x : ℕ) → (x == x) ≡ true
      itself x = grind (arith, nat_tests)

  -- At the start all are left.
  pub watching_none : (watchers : Watchers) → ((k j : ℕ) → asks_again watchers k j ≡ false) → AreWatching context context.labels watchers
  watching_none watchers none = record {
    among = λ k j h. absurd (true≢false (sym h ∙ none k j));
    unmoved = λ k j seen left h. absurd (true≢false (sym seen ∙ left));
  }

  not_kept : (old new : Bool) → (old ≡ true → new ≡ true) → new ≡ false → old ≡ false
  not_kept true new kept none = absurd (true≢false (sym (kept refl) ∙ none))
  not_kept false new kept none = refl

  among_by : (same old : Bool) (x j : ℕ) → (x == j) ≡ same → (same || old) ≡ true → shown_by context.labels x ≡ true → (old ≡ true → shown_by context.labels j ≡ true) → shown_by context.labels j ≡ true
  among_by true old x j is h here there = ap (shown_by context.labels) (sym ((Decides-eqb x j).0 is)) ∙ here
  among_by false old x j is h here there = there h

  unmoved_if : (x k j : ℕ) (rest : List ℕ) (same : Bool) (old new : Watchers) → (x == j) ≡ same → shown_by rest j ≡ false → asks_again new k j ≡ false
      → IsWatching context x old new → ((same || shown_by rest j) ≡ false → asks_again old k j ≡ false → IsUnmoved context k j) → IsUnmoved context k j
  unmoved_if x k j rest true old new is left none one before =
      let here : x ≡ j = (Decides-eqb x j).0 is in
      subst (λ (i : ℕ). IsUnmoved context k i) here (one.unmoved k (ap (asks_again new k) here ∙ none))
  unmoved_if x k j rest false old new is left none one before = before left (not_kept (asks_again old k j) (asks_again new k j) (one.kept k j) none)

  -- One more label is a watcher.
  pub watching_on : (left rest : List ℕ) (x : ℕ) (old new : Watchers) → left ≡ x ∷ rest → shown_by context.labels x ≡ true
      → IsWatching context x old new → AreWatching context left old → AreWatching context rest new
  watching_on left rest x old new is here one so_far = record {
    among = λ k j h. among_by (x == j) (asks_again old k j) x j refl (one.only k j h) here (so_far.among k j);
    unmoved = λ k j seen hidden none. unmoved_if x k j rest (x == j) old new refl hidden none one (λ out before. so_far.unmoved k j seen (ap (λ l. shown_by l j) is ∙ out) before);
  }

  pub watching_all : (left : List ℕ) (watchers : Watchers) → left ≡ [] → AreWatching context left watchers → AreWatching context [] watchers
  watching_all left watchers none so_far = subst (λ (l : List ℕ). AreWatching context l watchers) none so_far

-- In a rising list, the first label that isn't allowed is the least one.

module _ (app : Application) (t : PlainState) (viewer : Option ℕ) where
  abbrev Allowed : ℕ → Bool
  Allowed k = is_allowed app t viewer k

  abbrev First : List ℕ → Option ℕ
  First ks = first_forbidden app t viewer ks

  -- The label is one of these, and the least that isn't allowed.
  record IsLeast (ks : List ℕ) (k : ℕ) : Type 0 where
    pub seen : shown_by ks k ≡ true
    pub forbidden : Allowed k ≡ false
    pub before : (j : ℕ) → j < k → shown_by ks j ≡ true → Allowed j ≡ true

  abbrev IsFirst : List ℕ → Option ℕ → Type 0
  IsFirst ks None = (j : ℕ) → shown_by ks j ≡ true → Allowed j ≡ true
  IsFirst ks (Some k) = IsLeast ks k

  itself_too : (x : ℕ) → (x == x) ≡ true
  itself_too x = grind (arith, nat_tests)

  seen_here : (x : ℕ) (xs : List ℕ) → shown_by (x ∷ xs) x ≡ true
  seen_here x xs = ap (λ b. b || shown_by xs x) (itself_too x)

  at_least : (x : ℕ) (xs : List ℕ) → IsAscending (x ∷ xs) → (j : ℕ) → shown_by (x ∷ xs) j ≡ true → x ≤ j
  at_least x [] up j seen =
      elim (eqb_tells x j) [
        | inl e ↦ let same : x ≡ j = e.1 in omega (arith, same)
        | inr e ↦ absurd (true≢false (sym seen ∙ ap (λ b. b || false) e.0))
      ]
  at_least x (y ∷ ys) up j seen =
      elim (eqb_tells x j) [
        | inl e ↦ let same : x ≡ j = e.1 in omega (arith, same)
        | inr e ↦
            let later : y ≤ j = at_least y ys up.1 j (sym (ap (λ b. b || shown_by (y ∷ ys) j) e.0) ∙ seen) in
            let above : x < y = up.0 in
            omega (arith, later, above)
      ]

  -- Whether the first label is allowed, and what is found after it.
  first_if : (x : ℕ) (xs : List ℕ) (b : Bool) → Allowed x ≡ b → IsAscending (x ∷ xs) → (o : Option ℕ) → IsFirst xs o → IsFirst (x ∷ xs) (if b then o else Some x)
  first_if x xs true is up None rest = λ j seen. step (x == j) j refl seen
    where
      step : (same : Bool) (j : ℕ) → (x == j) ≡ same → (same || shown_by xs j) ≡ true → Allowed j ≡ true
      step true j e h = ap Allowed (sym ((Decides-eqb x j).0 e)) ∙ is
      step false j e h = rest j h
  first_if x xs true is up (Some k) rest = record {
    seen = or_right (x == k) (shown_by xs k) rest.seen;
    forbidden = rest.forbidden;
    before = λ j less seen. step (x == j) j refl less seen;
  }
    where
      step : (same : Bool) (j : ℕ) → (x == j) ≡ same → j < k → (same || shown_by xs j) ≡ true → Allowed j ≡ true
      step true j e less h = ap Allowed (sym ((Decides-eqb x j).0 e)) ∙ is
      step false j e less h = rest.before j less h
  first_if x xs false is up o rest = record {
    seen = seen_here x xs;
    forbidden = is;
    before = λ j less seen. let past : x ≤ j = at_least x xs up j seen in absurd (omega (arith, less, past));
  }

  first_is : (xs : List ℕ) → IsAscending xs → IsFirst xs (First xs)
  first_is [] up = λ j seen. absurd (true≢false (sym seen))
  first_is (x ∷ xs) up = first_if x xs (Allowed x) refl up (First xs) (first_is xs up.1)

  module _ (xs ys : List ℕ) (within : (j : ℕ) → shown_by xs j ≡ true → shown_by ys j ≡ true) (others : (j : ℕ) → shown_by ys j ≡ true → shown_by xs j ≡ false → Allowed j ≡ true) where
    -- A label that isn't allowed is in the shorter list.
    among : (j : ℕ) (b : Bool) → shown_by xs j ≡ b → shown_by ys j ≡ true → Allowed j ≡ false → shown_by xs j ≡ true
    among j true is seen forbidden = is
    among j false is seen forbidden = absurd (true≢false (sym (others j seen is) ∙ forbidden))

    clash : (j : ℕ) → Allowed j ≡ true → Allowed j ≡ false → ⊥
    clash j a b = true≢false (sym a ∙ b)

    same_first : (o p : Option ℕ) → IsFirst xs o → IsFirst ys p → o ≡ p
    same_first None None fewer more = refl
    same_first None (Some k) fewer more = absurd (clash k (fewer k (among k (shown_by xs k) refl more.seen more.forbidden)) more.forbidden)
    same_first (Some k) None fewer more = absurd (clash k (more k (within k fewer.seen)) fewer.forbidden)
    same_first (Some k) (Some j) fewer more =
        elim (cases_lt k j) [
          | inl less ↦ absurd (clash k (more.before k less (within k fewer.seen)) fewer.forbidden)
          | inr le ↦
              elim (cases_lt j k) [
                | inl less ↦ absurd (clash j (fewer.before j less (among j (shown_by xs j) refl more.seen more.forbidden)) more.forbidden)
                | inr ge ↦ let same : k ≡ j = omega (arith, le, ge) in ap (λ (n : ℕ). Some n) same
              ]
        ]

    pub first_same : IsAscending xs → IsAscending ys → First xs ≡ First ys
    first_same up up_too = same_first (First xs) (First ys) (first_is xs up) (first_is ys up_too)

-- Of the labels that are evaluated again with a label, and that label, the first that isn't allowed
-- is the first of all.

module _ (context : PlainContext) (watchers : Watchers) (k : ℕ) (asked : List ℕ)
    (up : IsAscending context.labels) (up_asked : IsAscending asked) (allowed : AreAllowed context.app context.worlds context.viewer context.labels) (watching : AreWatching context [] watchers)
    (are : (j : ℕ) → shown_by asked j ≡ (k == j || asks_again watchers k j)) where
  within_if : (same again : Bool) (j : ℕ) → (again ≡ true → shown_by context.labels j ≡ true) → (same || again) ≡ true → (same || shown_by context.labels j) ≡ true
  within_if true again j known h = refl
  within_if false again j known h = known h

  asked_within : (j : ℕ) → shown_by asked j ≡ true → shown_by (beside context k) j ≡ true
  asked_within j seen = shown-inserted k context.labels j ∙ within_if (k == j) (asks_again watchers k j) j (watching.among k j) (sym (are j) ∙ seen)

  neither : (same again : Bool) → (same || again) ≡ false → (same ≡ false) × (again ≡ false)
  neither true again h = absurd (true≢false h)
  neither false again h = (refl, h)

  other_if : (same seen : Bool) → same ≡ false → (same || seen) ≡ true → seen ≡ true
  other_if true seen none h = cc
  other_if false seen none h = h

  others_allowed : (j : ℕ) → shown_by (beside context k) j ≡ true → shown_by asked j ≡ false → is_allowed context.app (world_beside context k) context.viewer j ≡ true
  others_allowed j seen out =
      let parts = neither (k == j) (asks_again watchers k j) (sym (are j) ∙ out) in
      let here : shown_by context.labels j ≡ true = other_if (k == j) (shown_by context.labels j) parts.0 (sym (shown-inserted k context.labels j) ∙ seen) in
      subst (λ (w : ℕ → Bool). is_allowed context.app (context.worlds w) context.viewer j ≡ true) (sym (grown k context.labels))
      (watching.unmoved k j here refl parts.1 ∙ allowed j here)

  pub why_among : option_map as_reason (first_forbidden context.app (world_beside context k) context.viewer asked) ≡ why_hidden context k
  why_among = ap (option_map as_reason) (first_same context.app (world_beside context k) context.viewer asked (beside context k) asked_within others_allowed up_asked (ascending-inserted k context.labels up))
