-- The first label that isn't allowed, and what keeps a label hidden.
use Rattle.std.proofs.Common.{◌≡◌, ◌∙◌, ◌↔◌, arith, refl, ap, sym, subst, ℕ, ◌==◌, ◌&&◌, ◌||◌, not, Bool, true, false, true≢false, if◌then◌else◌, List, [], ◌∷◌, ◌++◌, append_assoc, Option, Some, None, is_some}
use Rattle.std.specs.List.{list_all}
use Rattle.std.specs.Option.{option_map}
use Rattle.std.proofs.lemmas.List.Folds.{list_all-append}
use Rattle.std.proofs.lemmas.Bool.{and_parts, or_left, or_right, and_from}
use Rattle.std.proofs.lemmas.Bool.Decides.{Decides-eqb, nat_tests}
use Rattle.jac_value.specs.Ids.{model_of_id, record_of_label, group_of_label}
use Rattle.jac_world.specs.World.{shown_by}
use Rattle.jac_lang.specs.Syntax.{Application}
use Rattle.jac_rows.specs.declared.plain.PlainState.{PlainState}
use Rattle.jac_plain.specs.Policies.{is_allowed, with_label, AreAllowed, IsLiveLabel, IsSettled, ShowsForbidden}
use Rattle.jac_why.specs.declared.reasons.Explanation.{Explanation}
use Rattle.jac_why.specs.declared.reasons.Reason.{Reason}
use Rattle.jac_why.specs.Named.{as_reason, names_its_label}
use Rattle.jac_why.specs.Context.{PlainContext}
use Rattle.jac_why.specs.Whys.{first_forbidden, beside, world_beside, why_hidden, stands_against, is_standing, why_of, why_at, all_whys, AreExplained}
use Rattle.jac_why.proofs.Inserting.{grown}

abbrev label_in : ℕ → Option ℕ → ℕ
label_in d None = d
label_in d (Some k) = k

abbrev reason_in : Reason → Option Reason → Reason
reason_in d None = d
reason_in d (Some r) = r

itself : (x : ℕ) → (x == x) ≡ true
itself x = grind (arith, nat_tests)

was_not : (b : Bool) → not b ≡ true → b ≡ false
was_not true h = cc
was_not false h = refl

module _ (app : Application) (t : PlainState) (viewer : Option ℕ) where
  abbrev Allowed : ℕ → Bool
  Allowed k = is_allowed app t viewer k

  abbrev First : List ℕ → Option ℕ
  First ks = first_forbidden app t viewer ks

  -- One of the labels isn't allowed.
  record IsForbidden (labels : List ℕ) (k : ℕ) : Type 0 where
    pub is_shown : shown_by labels k ≡ true
    pub forbidden : Allowed k ≡ false

  first_if : (x k : ℕ) (xs : List ℕ) (b : Bool) → Allowed x ≡ b → (if b then First xs else Some x) ≡ Some k → (First xs ≡ Some k → IsForbidden xs k) → IsForbidden (x ∷ xs) k
  first_if x k xs true e h later = let found = later h in record { is_shown = or_right (x == k) (shown_by xs k) found.is_shown; forbidden = found.forbidden }
  first_if x k xs false e h later =
      let is : x ≡ k = ap (label_in x) h in
      record { is_shown = or_left (x == k) (shown_by xs k) (ap (λ j. x == j) (sym is) ∙ itself x); forbidden = ap Allowed (sym is) ∙ e }

  first_is : (labels : List ℕ) (k : ℕ) → First labels ≡ Some k → IsForbidden labels k
  first_is [] k h = absurd cc
  first_is (x ∷ xs) k h = first_if x k xs (Allowed x) refl h (first_is xs k)

  none_if : (x k : ℕ) (xs : List ℕ) (b same : Bool) → Allowed x ≡ b → (x == k) ≡ same → (if b then First xs else Some x) ≡ None → (same || shown_by xs k) ≡ true →
      (First xs ≡ None → shown_by xs k ≡ true → Allowed k ≡ true) → Allowed k ≡ true
  none_if x k xs true true e f h s later = ap Allowed (sym ((Decides-eqb x k).0 f)) ∙ e
  none_if x k xs true false e f h s later = later h s
  none_if x k xs false same e f h s later = absurd cc

  pub none_all : (labels : List ℕ) → First labels ≡ None → (k : ℕ) → shown_by labels k ≡ true → Allowed k ≡ true
  none_all [] h k s = cc
  none_all (x ∷ xs) h k s = none_if x k xs (Allowed x) (x == k) refl refl h s (λ a b. none_all xs a k b)

  all_if : (x : ℕ) (xs : List ℕ) (b : Bool) → Allowed x ≡ b → Allowed x ≡ true → First xs ≡ None → (if b then First xs else Some x) ≡ None
  all_if x xs true e own rest = rest
  all_if x xs false e own rest = absurd (true≢false (sym own ∙ e))

  pub all_none : (labels : List ℕ) → ((k : ℕ) → shown_by labels k ≡ true → Allowed k ≡ true) → First labels ≡ None
  all_none [] each = refl
  all_none (x ∷ xs) each = all_if x xs (Allowed x) refl (each x (or_left (x == x) (shown_by xs x) (itself x))) (all_none xs (λ k s. each k (or_right (x == k) (shown_by xs k) s)))

  -- If a label is allowed, the first label that isn't is among the rest.
  pub first_on : (labels rest : List ℕ) (x : ℕ) (all : Option ℕ) (answer : Bool) → labels ≡ x ∷ rest → answer ≡ Allowed x → answer ≡ true → First labels ≡ all → First rest ≡ all
  first_on labels rest x all answer is says holds so_far = ap (λ (b : Bool). if b then First rest else Some x) (sym holds ∙ says) ∙ ap First (sym is) ∙ so_far

  -- It is the label that was evaluated.
  pub first_here : (labels rest : List ℕ) (x : ℕ) (all : Option ℕ) (answer : Bool) → labels ≡ x ∷ rest → answer ≡ Allowed x → answer ≡ false → First labels ≡ all → Some x ≡ all
  first_here labels rest x all answer is says fails so_far = ap (λ (b : Bool). if b then First rest else Some x) (sym fails ∙ says) ∙ ap First (sym is) ∙ so_far

  -- There is no such label.
  pub first_none : (labels : List ℕ) (all : Option ℕ) → labels ≡ [] → First labels ≡ all → None ≡ all
  first_none labels all none so_far = ap First (sym none) ∙ so_far

named : (k : ℕ) → names_its_label (as_reason k) ≡ true
named k =
    and_from (model_of_id (record_of_label k) == model_of_id (record_of_label k)) (group_of_label k == group_of_label k)
    (itself (model_of_id (record_of_label k))) (itself (group_of_label k))

none_of : (o : Option ℕ) → option_map as_reason o ≡ None → o ≡ None
none_of None h = refl
none_of (Some k) h = absurd cc

module _ (context : PlainContext) where
  abbrev Then : ℕ → List ℕ → Option ℕ
  Then k = first_forbidden context.app (world_beside context k) context.viewer

  stands_if : (k : ℕ) (reason : Reason) (o : Option ℕ) → Then k (beside context k) ≡ o → option_map as_reason o ≡ Some reason → stands_against context k reason ≡ true
  stands_if k reason None e h = absurd cc
  stands_if k reason (Some j) e h =
      let found = first_is context.app (world_beside context k) context.viewer (beside context k) j e in
      let is : as_reason j ≡ reason = ap (reason_in (as_reason j)) h in
      let allowed : Bool = is_allowed context.app (world_beside context k) context.viewer j in
      subst (λ (r : Reason). stands_against context k r ≡ true) is
      (and_from (shown_by (beside context k) j) (names_its_label (as_reason j) && not allowed) found.is_shown
      (and_from (names_its_label (as_reason j)) (not allowed) (named j) (ap not found.forbidden)))

  some_if : (k : ℕ) (o : Option ℕ) → Then k (beside context k) ≡ o → ShowsForbidden context.app context.worlds context.viewer (shown_by (beside context k)) → is_some (option_map as_reason o) ≡ true
  some_if k None e one = absurd (true≢false (sym (none_all context.app (world_beside context k) context.viewer (beside context k) e one.label one.is_shown) ∙ one.forbidden))
  some_if k (Some j) e one = refl

  pub law_stands : (k : ℕ) (reason : Reason) → why_hidden context k ≡ Some reason → stands_against context k reason ≡ true
  law_stands k reason h = stands_if k reason (Then k (beside context k)) refl h

  pub law_full : AreExplained context → (k : ℕ) → IsLiveLabel context.app context.worlds k → shown_by context.labels k ≡ false → ShowsForbidden context.app context.worlds context.viewer (with_label k (shown_by context.labels))
  law_full explained k live hidden =
      let r = explained.reason k live hidden in
      let allowed : Bool = is_allowed context.app (world_beside context k) context.viewer r.label in
      let parts = and_parts (shown_by (beside context k) r.label) (names_its_label r && not allowed) (explained.stands k live hidden) in
      let refusing : ShowsForbidden context.app context.worlds context.viewer (shown_by (beside context k)) = record {
        label = r.label;
        is_shown = parts.0;
        forbidden = was_not allowed (and_parts (names_its_label r) (not allowed) parts.1).1;
      } in
      subst (λ (w : ℕ → Bool). ShowsForbidden context.app context.worlds context.viewer w) (grown k context.labels) refusing

  pub law_settled : IsSettled context.app context.worlds context.viewer context.labels → (k : ℕ) → IsLiveLabel context.app context.worlds k → shown_by context.labels k ≡ false → is_some (why_hidden context k) ≡ true
  law_settled settled k live hidden =
      some_if k (Then k (beside context k)) refl
      (subst (λ (w : ℕ → Bool). ShowsForbidden context.app context.worlds context.viewer w) (sym (grown k context.labels)) (settled.full k live hidden))

  pub law_none : (k : ℕ) → (why_hidden context k ≡ None ↔ AreAllowed context.app context.worlds context.viewer (beside context k))
  law_none k = (
    λ h. none_all context.app (world_beside context k) context.viewer (beside context k) (none_of (Then k (beside context k)) h),
    λ each. ap (option_map as_reason) (all_none context.app (world_beside context k) context.viewer (beside context k) each),
  )

  abbrev AllStand : List Explanation → Type 0
  AllStand es = list_all (is_standing context) es ≡ true

  one_stands : (k : ℕ) (o : Option Reason) → why_hidden context k ≡ o → AllStand (why_of k o)
  one_stands k None is = refl
  one_stands k (Some reason) is = and_from (stands_against context k reason) true (law_stands k reason is) refl

  at_stands : (k : ℕ) (b : Bool) → AllStand (if b then [] else why_of k (why_hidden context k))
  at_stands k true = refl
  at_stands k false = one_stands k (why_hidden context k) refl

  -- Each reason that is found keeps its label hidden.
  pub all_stand : (live : List ℕ) → AllStand (all_whys context live)
  all_stand [] = refl
  all_stand (k ∷ ks) =
      list_all-append (is_standing context) (why_at context k) (all_whys context ks)
      ∙ and_from (list_all (is_standing context) (why_at context k)) (list_all (is_standing context) (all_whys context ks)) (at_stands k (shown_by context.labels k)) (all_stand ks)

  -- One more label was examined.
  pub whys_on : (left more : List ℕ) (x : ℕ) (made new all : List Explanation) → left ≡ x ∷ more → new ≡ made ++ why_at context x → made ++ all_whys context left ≡ all → new ++ all_whys context more ≡ all
  whys_on left more x made new all is added so_far =
      ap (λ (es : List Explanation). es ++ all_whys context more) added
      ∙ append_assoc made (why_at context x) (all_whys context more)
      ∙ ap (λ (ls : List ℕ). made ++ all_whys context ls) (sym is)
      ∙ so_far
