-- If whether a label is allowed doesn't depend on the assignment, exactly one list of labels is
-- settled.
use Rattle.std.proofs.Common.{◌≡◌, ◌∙◌, ◌↔◌, sym, refl, ap, subst, arith, inl, inr, ℕ, zero, suc, ◌<◌, ◌==◌, ◌&&◌, ◌||◌, Bool, true, false, true≢false, if◌then◌else◌, List, [], ◌∷◌, ◌++◌, Option, Some, None}
use Rattle.std.proofs.lemmas.Bool.{and_parts, and_from, or_left, or_right, cases_lt}
use Rattle.std.proofs.lemmas.Bool.Decides.{nat_tests, eqb_tells, Decides-eqb}
use Rattle.std.proofs.lemmas.List.Folds.{list_any-append}
use Rattle.jac_value.specs.Ids.{label_of, record_of_label, group_of_label, model_of_id, labels_below}
use Rattle.jac_world.specs.World.{shown_by, IsAscending, StartsAboveBy, with_number}
use Rattle.jac_lang.specs.Syntax.{FieldGroup, Application}
use Rattle.jac_rows.specs.Project.{project_at}
use Rattle.jac_rows.specs.Tables.{rows_of}
use Rattle.jac_rows.specs.declared.plain.PlainRow.{PlainRow}
use Rattle.jac_rows.specs.declared.plain.PlainState.{PlainState}
use Rattle.jac_rows.specs.declared.state.State.{State}
use Rattle.jac_plain.specs.World.{World, record_with}
use Rattle.jac_plain.specs.Expressions.{stands}
use Rattle.jac_plain.specs.Requests.{Worlds}
use Rattle.jac_plain.specs.Policies.{has_record, is_some_group, labelled_group, policy_world, policy_is_true, is_allowed, with_label, IsLiveLabel, IsSettled}
use Rattle.jac_open_app_laws.specs.Open.{is_open_app, AreAlike, AreEven, IsEven, nothing, is_policy_true, IsGranted}
use Rattle.jac_open_app_laws.specs.Allowed.{passing_numbers, labels_of_records, labels_of_tables, allowed_labels}
use Rattle.jac_world.proofs.Inserting.{shown-inserted, ascending-inserted}
use Rattle.jac_open_app_laws.proofs.Masked.{same_record, same_allowed}

itself : (x : ℕ) → (x == x) ≡ true
itself x = grind (arith, nat_tests)

bool_eq : (a b : Bool) → (a ≡ true → b ≡ true) → (b ≡ true → a ≡ true) → a ≡ b
bool_eq true b p q = sym (p refl)
bool_eq false true p q = q refl
bool_eq false false p q = refl

-- Rising lists that show the same labels are equal.

above_too : (j k : ℕ) (xs : List ℕ) → j < k → StartsAboveBy (λ x. x) k xs → StartsAboveBy (λ x. x) j xs
above_too j k [] lt a = tt
above_too j k (x ∷ xs) lt a = omega (arith, lt, a)

hidden_below : (k : ℕ) (xs : List ℕ) → StartsAboveBy (λ x. x) k xs → IsAscending xs → shown_by xs k ≡ false
hidden_below k [] a r = refl
hidden_below k (x ∷ xs) a r =
    let other : (x == k) ≡ false = grind (arith, nat_tests) in
    rw other (hidden_below k xs (above_too k x xs a r.0) r.1)

hidden_before : (k y : ℕ) (ys : List ℕ) → k < y → IsAscending (y ∷ ys) → shown_by (y ∷ ys) k ≡ false
hidden_before k y ys lt r = hidden_below k (y ∷ ys) lt r

first_shown : (x : ℕ) (xs : List ℕ) → shown_by (x ∷ xs) x ≡ true
first_shown x xs = or_left (x == x) (shown_by xs x) (itself x)

first_same : (x y : ℕ) (xs ys : List ℕ) → IsAscending (x ∷ xs) → IsAscending (y ∷ ys)
    → ((k : ℕ) → shown_by (x ∷ xs) k ≡ shown_by (y ∷ ys) k) → x ≡ y
first_same x y xs ys a b h =
    elim (cases_lt x y) [
      | inl lt ↦ absurd (true≢false (sym (first_shown x xs) ∙ h x ∙ hidden_before x y ys lt b))
      | inr le ↦
          elim (cases_lt y x) [
            | inl lt ↦ absurd (true≢false (sym (first_shown y ys) ∙ sym (h y) ∙ hidden_before y x xs lt a))
            | inr ge ↦ omega (arith, le, ge)
          ]
    ]

left_out : (p q a b : Bool) → p ≡ false → q ≡ false → (p || a) ≡ (q || b) → a ≡ b
left_out true q a b e f h = cc
left_out false true a b e f h = cc
left_out false false a b e f h = h

hidden_at : (x k : ℕ) (xs : List ℕ) → x ≡ k → IsAscending (x ∷ xs) → shown_by xs k ≡ false
hidden_at x k xs is a = ap (shown_by xs) (sym is) ∙ hidden_below x xs a.0 a.1

rest_same : (x y k : ℕ) (xs ys : List ℕ) → x ≡ y → IsAscending (x ∷ xs) → IsAscending (y ∷ ys)
    → shown_by (x ∷ xs) k ≡ shown_by (y ∷ ys) k → shown_by xs k ≡ shown_by ys k
rest_same x y k xs ys same a b h =
    elim (eqb_tells x k) [
      | inl e ↦ hidden_at x k xs e.1 a ∙ sym (hidden_at y k ys (sym same ∙ e.1) b)
      | inr e ↦ left_out (x == k) (y == k) (shown_by xs k) (shown_by ys k) e.0 (ap (λ z. z == k) (sym same) ∙ e.0) h
    ]

pub ascending_same : (xs ys : List ℕ) → IsAscending xs → IsAscending ys → ((k : ℕ) → shown_by xs k ≡ shown_by ys k)
    → xs ≡ ys
ascending_same [] [] a b h = refl
ascending_same [] (y ∷ ys) a b h = absurd (true≢false (sym (first_shown y ys) ∙ sym (h y)))
ascending_same (x ∷ xs) [] a b h = absurd (true≢false (sym (first_shown x xs) ∙ h x))
ascending_same (x ∷ xs) (y ∷ ys) a b h =
    let same : x ≡ y = first_same x y xs ys a b h in
    let rest : xs ≡ ys = ascending_same xs ys a.1 b.1 (λ k. rest_same x y k xs ys same a b (h k)) in
    λ i. same i ∷ rest i

-- The numbers that pass a test.

with_one : (p t s : Bool) → (p ≡ true → t ≡ true) → (p || (t && s)) ≡ (t && (p || s))
with_one true true s h = refl
with_one true false s h = absurd (true≢false (sym (h refl)))
with_one false t s h = refl

without_one : (p t s : Bool) → (p ≡ true → t ≡ false) → (t && s) ≡ (t && (p || s))
without_one true true s h = absurd (true≢false (h refl))
without_one true false s h = refl
without_one false t s h = refl

picked_if : (test : ℕ → Bool) (k j : ℕ) (s : Bool) (rest : List ℕ) (b : Bool) → test k ≡ b
    → shown_by rest j ≡ (test j && s) → shown_by (if b then with_number k rest else rest) j ≡ (test j && (k == j || s))
picked_if test k j s rest true e h = shown-inserted k rest j ∙ ap (λ x. k == j || x) h ∙ with_one (k == j) (test j) s (λ is. ap test (sym ((Decides-eqb k j).0 is)) ∙ e)
picked_if test k j s rest false e h = h ∙ without_one (k == j) (test j) s (λ is. ap test (sym ((Decides-eqb k j).0 is)) ∙ e)

shown-picked : (test : ℕ → Bool) (ks : List ℕ) (j : ℕ) → shown_by (passing_numbers test ks) j ≡ (test j && shown_by ks j)
shown-picked test [] j = elim (test j) as (λ b. false ≡ (b && false)) [ true ↦ refl | false ↦ refl ]
shown-picked test (k ∷ ks) j = picked_if test k j (shown_by ks j) (passing_numbers test ks) (test k) refl (shown-picked test ks j)

ascending_if : (k : ℕ) (rest : List ℕ) (b : Bool) → IsAscending rest
    → IsAscending (if b then with_number k rest else rest)
ascending_if k rest true a = ascending-inserted k rest a
ascending_if k rest false a = a

ascending-picked : (test : ℕ → Bool) (ks : List ℕ) → IsAscending (passing_numbers test ks)
ascending-picked test [] = tt
ascending-picked test (k ∷ ks) = ascending_if k (passing_numbers test ks) (test k) (ascending-picked test ks)

-- The labels of the records of tables.

first_has : (xs ys : List ℕ) (k : ℕ) → shown_by xs k ≡ true → shown_by (xs ++ ys) k ≡ true
first_has xs ys k h = list_any-append (λ x. x == k) xs ys ∙ or_left (shown_by xs k) (shown_by ys k) h

second_has : (xs ys : List ℕ) (k : ℕ) → shown_by ys k ≡ true → shown_by (xs ++ ys) k ≡ true
second_has xs ys k h = list_any-append (λ x. x == k) xs ys ∙ or_right (shown_by xs k) (shown_by ys k) h

below_has : (id n k : ℕ) → record_of_label k ≡ id → group_of_label k < n → shown_by (labels_below id n) k ≡ true
below_has id zero k is lt = absurd (omega (arith, lt))
below_has id (suc n) k is lt =
    elim (cases_lt (group_of_label k) n) [
      | inl less ↦ first_has (labels_below id n) (label_of id n ∷ []) k (below_has id n k is less)
      | inr le ↦
          let last : label_of id n ≡ k = omega (arith, is, lt, le) in
          second_has (labels_below id n) (label_of id n ∷ []) k (or_left (label_of id n == k) false ((Decides-eqb (label_of id n) k).1 last))
    ]

record_if : (id k : ℕ) (r : PlainRow) (rows : List PlainRow) (b : Bool) → (r.id == id) ≡ b
    → record_of_label k ≡ id → stands (if b then Some r else record_with id rows) ≡ true
    → (stands (record_with id rows) ≡ true → shown_by (labels_of_records rows) k ≡ true)
    → shown_by (labels_of_records (r ∷ rows)) k ≡ true
record_if id k r rows true e is s later =
    first_has (labels_below r.id 8) (labels_of_records rows) k (below_has r.id 8 k (is ∙ sym ((Decides-eqb r.id id).0 e)) (omega arith))
record_if id k r rows false e is s later = second_has (labels_below r.id 8) (labels_of_records rows) k (later s)

in_records : (id k : ℕ) (rows : List PlainRow) → record_of_label k ≡ id → stands (record_with id rows) ≡ true
    → shown_by (labels_of_records rows) k ≡ true
in_records id k [] is s = cc
in_records id k (r ∷ rows) is s = record_if id k r rows (r.id == id) refl is s (in_records id k rows is)

in_tables : (k m : ℕ) (tables : List (List PlainRow)) → shown_by (labels_of_records (rows_of tables m)) k ≡ true
    → shown_by (labels_of_tables tables) k ≡ true
in_tables k zero [] h = cc
in_tables k (suc m) [] h = cc
in_tables k zero (rows ∷ tables) h = first_has (labels_of_records rows) (labels_of_tables tables) k h
in_tables k (suc m) (rows ∷ tables) h = second_has (labels_of_records rows) (labels_of_tables tables) k (in_tables k m tables h)

and_same : (t s : Bool) → (t ≡ true → s ≡ true) → (t && s) ≡ t
and_same true s h = h refl
and_same false s h = refl

allowed_among : (app : Application) (t : PlainState) (viewer : Option ℕ) (k : ℕ)
    → is_allowed app t viewer k ≡ true → shown_by (labels_of_tables t.tables) k ≡ true
allowed_among app t viewer k h =
    let id = record_of_label k in
    in_tables k (model_of_id id) t.tables (in_records id k (rows_of t.tables (model_of_id id)) refl (and_parts (has_record t k) (is_policy_true app t viewer k) h).0)

-- The labels that are allowed in a state, as a list.
pub shown_allowed : (app : Application) (t : PlainState) (viewer : Option ℕ) (k : ℕ)
    → shown_by (allowed_labels app t viewer) k ≡ is_allowed app t viewer k
shown_allowed app t viewer k =
    shown-picked (is_allowed app t viewer) (labels_of_tables t.tables) k ∙ and_same (is_allowed app t viewer k) (shown_by (labels_of_tables t.tables) k) (allowed_among app t viewer k)

group_there : (found : Option FieldGroup) (w : World) → policy_is_true found w ≡ true
    → is_some_group found ≡ true
group_there None w h = h
group_there (Some g) w h = refl

-- A label that is allowed in some world is live.
live_if : (app : Application) (worlds : Worlds) (viewer : Option ℕ) (w : ℕ → Bool) (k : ℕ)
    → is_allowed app (worlds w) viewer k ≡ true → IsLiveLabel app worlds k
live_if app worlds viewer w k h =
    let parts = and_parts (has_record (worlds w) k) (is_policy_true app (worlds w) viewer k) h in
    record { group = group_there (labelled_group app k) (policy_world app (worlds w) viewer (record_of_label k)) parts.1; seen_by = w; stands = parts.0 }

module _ (app : Application) (worlds : Worlds) (viewer : Option ℕ) (g : ℕ → Bool) (same : (w : ℕ → Bool) (k : ℕ) → is_allowed app (worlds w) viewer k ≡ g k) where
  still_allowed : (labels : List ℕ) (k j : ℕ) (b : Bool) → (k == j) ≡ b → g k ≡ true
      → IsSettled app worlds viewer labels → (b || shown_by labels j) ≡ true → g j ≡ true
  still_allowed labels k j true e h settled s = ap g (sym ((Decides-eqb k j).0 e)) ∙ h
  still_allowed labels k j false e h settled s = sym (same (shown_by labels) j) ∙ settled.allowed j s

  shown_if : (labels : List ℕ) (k : ℕ) (b : Bool) → shown_by labels k ≡ b → IsSettled app worlds viewer labels
      → g k ≡ true → b ≡ true
  shown_if labels k true e settled h = refl
  shown_if labels k false e settled h =
      let refusing = settled.full k (live_if app worlds viewer nothing k (same nothing k ∙ h)) e in
      absurd (true≢false (
      sym (still_allowed labels k refusing.label (k == refusing.label) refl h settled refusing.is_shown)
      ∙ sym (same (with_label k (shown_by labels)) refusing.label) ∙ refusing.forbidden))

  -- The settled labels are the allowed ones.
  pub settled_shows : (labels : List ℕ) → IsSettled app worlds viewer labels → (k : ℕ) → shown_by labels k ≡ g k
  settled_shows labels settled k =
      bool_eq (shown_by labels k) (g k) (λ s. sym (same (shown_by labels) k) ∙ settled.allowed k s) (shown_if labels k (shown_by labels k) refl settled)

  pub shows_settled : (labels : List ℕ) → IsAscending labels → ((k : ℕ) → shown_by labels k ≡ g k)
      → IsSettled app worlds viewer labels
  shows_settled labels rising h = record {
    ascending = rising;
    live = λ k s. live_if app worlds viewer nothing k (same nothing k ∙ sym (h k) ∙ s);
    allowed = λ k s. same (shown_by labels) k ∙ sym (h k) ∙ s;
    full = λ k live hidden. record {
      label = k;
      is_shown = or_left (k == k) (shown_by labels k) (itself k);
      forbidden = same (with_label k (shown_by labels)) k ∙ sym (h k) ∙ hidden;
    };
  }

module _ (app : Application) (worlds : Worlds) (viewer : Option ℕ) (clear : is_open_app app ≡ true) (even : AreEven app worlds) where
  everywhere : (w : ℕ → Bool) (k : ℕ)
      → is_allowed app (worlds w) viewer k ≡ is_allowed app (worlds nothing) viewer k
  everywhere w k = same_allowed app (worlds w) (worlds nothing) viewer k clear (even w nothing)

  granted_if : (k : ℕ) → is_allowed app (worlds nothing) viewer k ≡ true → IsGranted app worlds viewer k
  granted_if k h = record {
    live = live_if app worlds viewer nothing k h;
    policy = (and_parts (has_record (worlds nothing) k) (is_policy_true app (worlds nothing) viewer k) h).1;
  }

  allowed_if : (k : ℕ) → IsGranted app worlds viewer k → is_allowed app (worlds nothing) viewer k ≡ true
  allowed_if k granted =
      and_from (has_record (worlds nothing) k) (is_policy_true app (worlds nothing) viewer k)
      (same_record app (worlds nothing) (worlds granted.live.seen_by) k (even nothing granted.live.seen_by) ∙ granted.live.stands) granted.policy

  pub open_settled : (labels : List ℕ) → IsAscending labels
      → (IsSettled app worlds viewer labels ↔ ((k : ℕ) → (shown_by labels k ≡ true ↔ IsGranted app worlds viewer k)))
  open_settled labels rising = (
    λ settled k. (
      λ s. granted_if k (sym (settled_shows app worlds viewer (is_allowed app (worlds nothing) viewer) everywhere labels settled k) ∙ s),
      λ granted. settled_shows app worlds viewer (is_allowed app (worlds nothing) viewer) everywhere labels settled k ∙ allowed_if k granted,
    ),
    λ shows. shows_settled app worlds viewer (is_allowed app (worlds nothing) viewer) everywhere labels rising
        (λ k. bool_eq (shown_by labels k) (is_allowed app (worlds nothing) viewer k) (λ s. allowed_if k ((shows k).0 s)) (λ h. (shows k).1 (granted_if k h))),
  )

  pub one_settled : (labels : List ℕ)
      → (IsSettled app worlds viewer labels ↔ (labels ≡ allowed_labels app (worlds nothing) viewer))
  one_settled labels = (
    λ settled. ascending_same labels (allowed_labels app (worlds nothing) viewer) settled.ascending
        (ascending-picked (is_allowed app (worlds nothing) viewer) (labels_of_tables (worlds nothing).tables))
        (λ k. settled_shows app worlds viewer (is_allowed app (worlds nothing) viewer) everywhere labels settled k ∙ sym (shown_allowed app (worlds nothing) viewer k)),
    λ is. subst (λ (l : List ℕ). IsSettled app worlds viewer l) (sym is)
        (shows_settled app worlds viewer (is_allowed app (worlds nothing) viewer) everywhere (allowed_labels app (worlds nothing) viewer)
        (ascending-picked (is_allowed app (worlds nothing) viewer) (labels_of_tables (worlds nothing).tables))
        (shown_allowed app (worlds nothing) viewer)),
  )

pub even_allowed : (app : Application) (s : State) (viewer : Option ℕ) (k : ℕ) (v w : ℕ → Bool)
    → is_open_app app ≡ true → IsEven app s
    → is_allowed app (project_at v s) viewer k ≡ is_allowed app (project_at w s) viewer k
even_allowed app s viewer k v w clear even = same_allowed app (project_at v s) (project_at w s) viewer k clear (even v w)

pub law_settled : (app : Application) (worlds : Worlds) (viewer : Option ℕ) (labels : List ℕ)
    → is_open_app app ≡ true → AreEven app worlds → IsAscending labels
    → (IsSettled app worlds viewer labels ↔ ((k : ℕ) → (shown_by labels k ≡ true ↔ IsGranted app worlds viewer k)))
law_settled app worlds viewer labels clear even rising = open_settled app worlds viewer clear even labels rising

pub law_one : (app : Application) (worlds : Worlds) (viewer : Option ℕ) (labels : List ℕ)
    → is_open_app app ≡ true → AreEven app worlds
    → (IsSettled app worlds viewer labels ↔ (labels ≡ allowed_labels app (worlds nothing) viewer))
law_one app worlds viewer labels clear even = one_settled app worlds viewer clear even labels

-- The allowed labels of states that are alike are the same.
same_list : (app : Application) (t u : PlainState) (viewer : Option ℕ) → is_open_app app ≡ true
    → AreAlike app t u → allowed_labels app t viewer ≡ allowed_labels app u viewer
same_list app t u viewer clear alike =
    ascending_same (allowed_labels app t viewer) (allowed_labels app u viewer) (ascending-picked (is_allowed app t viewer) (labels_of_tables t.tables))
    (ascending-picked (is_allowed app u viewer) (labels_of_tables u.tables)) (λ k. shown_allowed app t viewer k ∙ same_allowed app t u viewer k clear alike ∙ sym (shown_allowed app u viewer k))

pub law_same : (app : Application) (worlds others : Worlds) (viewer : Option ℕ) (labels : List ℕ)
    → is_open_app app ≡ true → AreEven app worlds → AreEven app others
    → AreAlike app (worlds nothing) (others nothing)
    → (IsSettled app worlds viewer labels ↔ IsSettled app others viewer labels)
law_same app worlds others viewer labels clear even evens alike =
    let same = same_list app (worlds nothing) (others nothing) viewer clear alike in (
      λ settled. (one_settled app others viewer clear evens labels).1 ((one_settled app worlds viewer clear even labels).0 settled ∙ same),
      λ settled. (one_settled app worlds viewer clear even labels).1 ((one_settled app others viewer clear evens labels).0 settled ∙ sym same),
    )

-- Any settled labels of the one family and of the other are the same.
pub both_settled : (app : Application) (worlds others : Worlds) (viewer : Option ℕ) (labels more : List ℕ)
    → is_open_app app ≡ true → AreEven app worlds → AreEven app others
    → AreAlike app (worlds nothing) (others nothing) → IsSettled app worlds viewer labels
    → IsSettled app others viewer more → labels ≡ more
both_settled app worlds others viewer labels more clear even evens alike settled other =
    (one_settled app worlds viewer clear even labels).0 settled
    ∙ same_list app (worlds nothing) (others nothing) viewer clear alike
    ∙ sym ((one_settled app others viewer clear evens more).0 other)

pub law_shown : (app : Application) (s t : State) (viewer : Option ℕ) (labels others : List ℕ)
    → is_open_app app ≡ true → IsEven app s → IsEven app t
    → AreAlike app (project_at nothing s) (project_at nothing t)
    → IsSettled app (λ w. project_at w s) viewer labels → IsSettled app (λ w. project_at w t) viewer others
    → labels ≡ others
law_shown app s t viewer labels others clear even evens alike settled other = both_settled app (λ w. project_at w s) (λ w. project_at w t) viewer labels others clear even evens alike settled other
