-- A label that no mark covers is spared.
use Rattle.std.proofs.Common.{◌≡◌, ◌∙◌, refl, sym, ap, subst, arith, ℕ, zero, suc, ◌+◌, ◌<◌, ◌^◌, ◌==◌, ◌&&◌, ◌||◌, not, nat_lt, Bool, true, false, if◌then◌else◌, List, [], ◌∷◌, ◌++◌, ◌↔◌}
use Rattle.std.specs.Prelude.{Option, Some, None, slice_get, length}
use Rattle.std.specs.List.{list_any, list_all}
use Rattle.std.proofs.lemmas.Bool.{and_parts, or_parts, and_from, eqb-true}
use Rattle.std.proofs.lemmas.Bool.Decides.{nat_tests}
use Rattle.jac_value.specs.Ids.{model_of_id, record_of_label, group_of_label, label_of}
use Rattle.jac_value.specs.declared.value.Value.TheVariants as value
use Rattle.jac_world.specs.World.{shown_by, holds}
use Rattle.jac_lang.specs.Lookup.{groups_in}
use Rattle.jac_lang.specs.Syntax.{Entity, FieldGroup, Application}
use Rattle.jac_rows.specs.Good.{IsSound}
use Rattle.jac_rows.specs.Project.{rows_at, project_at}
use Rattle.jac_rows.specs.Tables.{rows_of}
use Rattle.jac_rows.specs.declared.row.Row.{Row}
use Rattle.jac_rows.specs.declared.state.State.{State}
use Rattle.jac_keep.specs.declared.alteration.Alteration.{Alteration}
use Rattle.jac_keep.specs.Alterations.{AreOwn, ArePlaced, alters}
use Rattle.jac_keep.specs.MatchingRecords.{has_cell, holds_cell}
use Rattle.jac_keep.specs.Records.{with_id}
use Rattle.jac_plain.specs.World.{record_with}
use Rattle.jac_plain.specs.Expressions.{stands}
use Rattle.jac_plain.specs.Policies.{has_group, has_record, is_some_group, labelled_group, policy_world, policy_is_true, is_allowed, IsLiveLabel}
use Rattle.jac_policy_cache.specs.Affected.{is_same_viewer, is_for, is_in_group, IsCovered}
use Rattle.jac_policy_cache.specs.declared.invalidation.Invalidation.{Invalidation}
use Rattle.jac_policy_cache.specs.declared.invalidation.AffectedGroup.{AffectedGroup}
use Rattle.jac_policy_deps.specs.declared.mark.Mark.{Mark}
use Rattle.jac_policy_deps.specs.declared.mark.Mark.TheVariants as mark
use Rattle.jac_policy_deps.specs.declared.dependency.Dependency.{Dependency}
use Rattle.jac_policy_deps.specs.declared.dependency.Dependency.TheVariants as dependency
use Rattle.jac_policy_deps.specs.declared.dependency.Referent.{Referent}
use Rattle.jac_policy_deps.specs.declared.dependency.Referent.TheVariants as referent
use Rattle.jac_policy_deps.specs.Dependencies.{dependencies, is_same_referent}
use Rattle.jac_policy_deps.specs.Altered.{state_over, is_altered, is_outside, is_viewer_altered, RowsAltered, rows_altered, referred_by, row_refers, is_linked, is_found, is_link_altered, is_one_altered, alters_none, test_of, group_dependencies}
use Rattle.jac_policy_deps.specs.Marks.{group_mark, audience_of, affected_group, id_where, own_mark, own_marks, viewer_marks, linked_mark, link_mark, linked_marks, cell_mark, row_mark, found_marks, marks_if, some_marks, one_marks, dependency_marks, is_same_dependency, comes_again, each_dependency_marks, policy_marks, groups_marks, models_marks, row_labels, holder_labels, marks_label, is_one, marked_labels, marked_groups}
use Rattle.jac_policy_deps.proofs.Clearing.{same_referent}
use Rattle.jac_policy_deps.proofs.Replaced.{AreSmall, are_small, or_cases}
use Rattle.jac_index_choice.proofs.Finding.{rows_of-shown}
use Rattle.jac_policy_deps.proofs.Sparing.{same_has, spared_allowed, spared_live}

none_parts : (q : Mark → Bool) (xs ys : List Mark) → list_any q (xs ++ ys) ≡ false → (list_any q xs ≡ false) × (list_any q ys ≡ false)
none_parts q [] ys h = (refl, h)
none_parts q (x ∷ xs) ys h =
    let parts = or_parts (q x) (list_any q (xs ++ ys)) h in
    let later = none_parts q xs ys parts.1 in
    (rw (parts.0, later.0) refl, later.1)

none_one : (q : Mark → Bool) (x : Mark) → list_any q (x ∷ []) ≡ false → q x ≡ false
none_one q x h = (or_parts (q x) false h).0

not_of : (b : Bool) → b ≡ false → not b ≡ true
not_of true h = absurd cc
not_of false h = refl

unless : (b : Bool) → (b ≡ true → true ≡ false) → b ≡ false
unless true f = f refl
unless false f = refl

itself : (n : ℕ) → (n == n) ≡ true
itself n = grind arith

label_again : (k : ℕ) → label_of (record_of_label k) (group_of_label k) ≡ k
label_again k = omega arith

-- The marks of a policy are among all marks.
in_groups : (q : Mark → Bool) (models : List Entity) (m g i n : ℕ) (over : List Alteration) (rows : List Row) (groups : List FieldGroup) (group : FieldGroup)
    → n ≡ g + i → slice_get groups i ≡ Some group → list_any q (groups_marks models m g over rows groups) ≡ false → list_any q (policy_marks models m n over rows group) ≡ false
in_groups q models m g zero n over rows [] group at e h = absurd cc
in_groups q models m g (suc i) n over rows [] group at e h = absurd cc
in_groups q models m g zero n over rows (x ∷ groups) group at e h =
    let same : x ≡ group = cc in
    let here : n ≡ g = omega (arith, at) in
    let first : list_any q (policy_marks models m g over rows x) ≡ false =
    (none_parts q (policy_marks models m g over rows x) (groups_marks models m (g + 1) over rows groups) h).0 in
    subst (λ y. list_any q (policy_marks models m n over rows y) ≡ false) same
    (subst (λ j. list_any q (policy_marks models m j over rows x) ≡ false) (sym here) first)
in_groups q models m g (suc i) n over rows (x ∷ groups) group at e h =
    in_groups q models m (g + 1) i n over rows groups group (omega (arith, at)) e
    (none_parts q (policy_marks models m g over rows x) (groups_marks models m (g + 1) over rows groups) h).1

in_models : (q : Mark → Bool) (models : List Entity) (m i n : ℕ) (over : List Alteration) (rows : List Row) (all : List Entity) (entity : Entity)
    → n ≡ m + i → slice_get all i ≡ Some entity → list_any q (models_marks models m over rows all) ≡ false → list_any q (groups_marks models n 0 over rows entity.groups) ≡ false
in_models q models m zero n over rows [] entity at e h = absurd cc
in_models q models m (suc i) n over rows [] entity at e h = absurd cc
in_models q models m zero n over rows (x ∷ all) entity at e h =
    let same : x ≡ entity = cc in
    let here : n ≡ m = omega (arith, at) in
    let first : list_any q (groups_marks models m 0 over rows x.groups) ≡ false =
    (none_parts q (groups_marks models m 0 over rows x.groups) (models_marks models (m + 1) over rows all) h).0 in
    subst (λ (y : Entity). list_any q (groups_marks models n 0 over rows y.groups) ≡ false) same
    (subst (λ j. list_any q (groups_marks models j 0 over rows x.groups) ≡ false) (sym here) first)
in_models q models m (suc i) n over rows (x ∷ all) entity at e h =
    in_models q models (m + 1) i n over rows all entity (omega (arith, at)) e
    (none_parts q (groups_marks models m 0 over rows x.groups) (models_marks models (m + 1) over rows all) h).1

no_group : (g : ℕ) (group : FieldGroup) → slice_get (groups_in None) g ≡ Some group → false ≡ true
no_group zero group e = absurd cc
no_group (suc g) group e = absurd cc

in_entity : (q : Mark → Bool) (models : List Entity) (m g : ℕ) (over : List Alteration) (rows : List Row) (found : Option Entity) (group : FieldGroup)
    → slice_get models m ≡ found → slice_get (groups_in found) g ≡ Some group → list_any q (models_marks models 0 over rows models) ≡ false
    → list_any q (policy_marks models m g over rows group) ≡ false
in_entity q models m g over rows None group is e h = let wrong : false ≡ true = no_group g group e in absurd cc
in_entity q models m g over rows (Some entity) group is e h =
    in_groups q models m 0 g g over rows entity.groups group (omega arith) e (in_models q models 0 m m over rows models entity (omega arith) is h)

-- If no mark of a label's own group covers it, the label's record isn't replaced.
own_if : (q : Mark → Bool) (k id : ℕ) (b : Bool) → q (mark.One k) ≡ true → id ≡ record_of_label k → (model_of_id id == model_of_id (record_of_label k)) ≡ b
    → list_any q (own_mark (id_where b id) (group_of_label k)) ≡ false → true ≡ false
own_if q k id true is same e h =
    let label : label_of id (group_of_label k) ≡ k = ap (λ i. label_of i (group_of_label k)) same ∙ label_again k in
    sym is ∙ ap (λ j. q (mark.One j)) (sym label) ∙ none_one q (mark.One (label_of id (group_of_label k))) h
own_if q k id false is same e h = sym (ap (λ i. model_of_id i == model_of_id (record_of_label k)) same ∙ itself (model_of_id (record_of_label k))) ∙ e

not_own : (q : Mark → Bool) (k : ℕ) (over : List Alteration) → q (mark.One k) ≡ true
    → list_any q (own_marks (model_of_id (record_of_label k)) (group_of_label k) over) ≡ false → is_altered over (record_of_label k) ≡ false
not_own q k [] is h = refl
not_own q k (a ∷ more) is h =
    let m : ℕ = model_of_id (record_of_label k) in
    let g : ℕ = group_of_label k in
    let parts = none_parts q (own_mark (id_where (model_of_id a.id == m) a.id) g) (own_marks m g more) h in
    let here : (a.id == record_of_label k) ≡ false =
    unless (a.id == record_of_label k) (λ e. own_if q k a.id (model_of_id a.id == m) is (eqb-true a.id (record_of_label k) e) refl parts.0) in
    rw here (not_own q k more is parts.1)

same_dependency : (x y : Dependency) → is_same_dependency x y ≡ true → x ≡ y
same_dependency (dependency.One s) (dependency.One t) e = ap dependency.One (same_referent s t e)
same_dependency (dependency.Table m) (dependency.Table n) e = ap dependency.Table (eqb-true m n e)
same_dependency (dependency.Found s m f) (dependency.Found t n g) e =
    let parts = and_parts (is_same_referent s t) ((m == n) && (f == g)) e in
    let later = and_parts (m == n) (f == g) parts.1 in
    rw (same_referent s t parts.0, eqb-true m n later.0, eqb-true f g later.1) refl
same_dependency dependency.Any dependency.Any e = refl
same_dependency x y e = absurd cc

-- The labels of the records that a row leads to.
label_kept : (b : Bool) (g j : ℕ) (r : Row) (rows : List Row) → b ≡ true → (label_of r.id g == j) ≡ true → shown_by (row_labels g (if b then r ∷ rows else rows)) j ≡ true
label_kept true g j r rows e h = rw h refl
label_kept false g j r rows e h = absurd cc

label_later : (b c : Bool) (g j : ℕ) (r : Row) (rows : List Row) → (label_of r.id g == j) ≡ c → shown_by (row_labels g rows) j ≡ true → shown_by (row_labels g (if b then r ∷ rows else rows)) j ≡ true
label_later true true g j r rows e h = rw e refl
label_later true false g j r rows e h = rw e h
label_later false c g j r rows e h = h

holder_shown : (p : ℕ → Bool) (q : Row → Bool) (g id : ℕ) (rows : List Row) → p id ≡ true → list_any (λ r. (r.id == id) && q r) rows ≡ true
    → shown_by (row_labels g (with_id p rows)) (label_of id g) ≡ true
holder_shown p q g id [] is h = absurd cc
holder_shown p q g id (r ∷ rows) is h =
    or_cases (shown_by (row_labels g (with_id p (r ∷ rows))) (label_of id g) ≡ true) ((r.id == id) && q r) (list_any (λ r. (r.id == id) && q r) rows)
    (λ e. let same : id ≡ r.id = sym (eqb-true r.id id (and_parts (r.id == id) (q r) e).0) in
    label_kept (p r.id) g (label_of id g) r (with_id p rows) (ap p (sym same) ∙ is)
    (ap (λ i. label_of i g == label_of id g) (sym same) ∙ itself (label_of id g)))
    (λ e. label_later (p r.id) (label_of r.id g == label_of id g) g (label_of id g) r (with_id p rows) refl (holder_shown p q g id rows is e)) h

-- The marks of what a policy depends on.
module _ (viewer : Option ℕ) (k : ℕ) (over : List Alteration) (among : RowsAltered) (small : record_of_label k < 2 ^ 124) where
  abbrev model : ℕ
  model = model_of_id (record_of_label k)

  abbrev group : ℕ
  group = group_of_label k

  abbrev hit : Mark → Bool
  hit = marks_label among.tables viewer k

  both_if : (a b c : Bool) → a ≡ true → b ≡ true → ((a && b) && c) ≡ c
  both_if true true c p q = refl
  both_if true false c p q = absurd cc
  both_if false b c p q = absurd cc

  group_is : (v : Option (Option ℕ)) → hit (group_mark model group v) ≡ is_for (audience_of v) viewer
  group_is None = both_if (model == model) (group == group) true (itself model) (itself group)
  group_is (Some x) = both_if (model == model) (group == group) (is_same_viewer x viewer) (itself model) (itself group)

  everybody : hit (group_mark model group None) ≡ true
  everybody = group_is None

  one_is : (j : ℕ) → j ≡ k → hit (mark.One j) ≡ true
  one_is j e = ap (λ i. i == k) e ∙ itself k

  asker_not : (id : ℕ) (others : List Alteration) → viewer ≡ Some id → list_any hit (viewer_marks model group others) ≡ false → is_altered others id ≡ false
  asker_not id [] is h = refl
  asker_not id (a ∷ more) is h =
      let parts = or_parts (hit (group_mark model group (Some (Some a.id)))) (list_any hit (viewer_marks model group more)) h in
      let here : (a.id == id) ≡ false = ap (λ v. is_same_viewer (Some a.id) v) (sym is) ∙ sym (group_is (Some (Some a.id))) ∙ parts.0 in
      rw here (asker_not id more is parts.1)

  viewer_not : (v : Option ℕ) → viewer ≡ v → list_any hit (viewer_marks model group over) ≡ false → not (is_viewer_altered over v) ≡ true
  viewer_not None is h = refl
  viewer_not (Some id) is h = not_of (is_altered over id) (asker_not id over is h)

  table_not : (b : Bool) → list_any hit (marks_if b model group) ≡ false → not b ≡ true
  table_not true h = sym (none_one hit (group_mark model group None) h) ∙ everybody
  table_not false h = refl

  any_not : (others : List Alteration) → list_any hit (some_marks others model group) ≡ false → alters_none others ≡ true
  any_not [] h = refl
  any_not (a ∷ more) h = sym (none_one hit (group_mark model group None) h) ∙ everybody

  small_if : (y : ℕ) → y ≡ record_of_label k → nat_lt y (2 ^ 124) ≡ true
  small_if y e = ap (λ i. nat_lt i (2 ^ 124)) e ∙ grind (arith, nat_tests, small)

  label_hit : (y : ℕ) → y ≡ record_of_label k → list_any hit (own_mark (id_where (nat_lt y (2 ^ 124)) y) group) ≡ true
  label_hit y e =
      ap (λ b. list_any hit (own_mark (id_where b y) group)) (small_if y e)
      ∙ ap (λ b. b || false) (one_is (label_of y group) (ap (λ i. label_of i group) e ∙ label_again k))

  linked_if : (n f y : ℕ) (b : Bool) → (n == model) ≡ b → hit (linked_mark b model group f y) ≡ false → holds_cell f (value.Ref (Some y)) (rows_of among.tables n) (record_of_label k) ≡ false
  linked_if n f y true e h =
      let v = value.Ref (Some y) in
      let there : List Row = rows_of among.tables model in
      subst (λ m. holds_cell f v (rows_of among.tables m) (record_of_label k) ≡ false) (sym (eqb-true n model e))
      (unless (holds_cell f v there (record_of_label k))
      (λ holds. sym (subst (λ j. shown_by (holder_labels among.tables model group f y) j ≡ true) (label_again k)
      (holder_shown (holds_cell f v there) (has_cell f v) group (record_of_label k) there holds holds)) ∙ h))
  linked_if n f y false e h = let wrong : true ≡ false = sym everybody ∙ h in absurd cc

  link_not : (n f : ℕ) (x : Option (Option ℕ)) → list_any hit (link_mark model group n f x) ≡ false → is_linked among.tables n f (record_of_label k) x ≡ false
  link_not n f None h = sym everybody ∙ none_one hit (group_mark model group None) h
  link_not n f (Some None) h = sym everybody ∙ none_one hit (group_mark model group None) h
  link_not n f (Some (Some y)) h = linked_if n f y (n == model) refl (none_one hit (linked_mark (n == model) model group f y) h)

  links_not : (n f : ℕ) (others : List Alteration) → list_any hit (linked_marks model group n f others) ≡ false → is_link_altered among.tables n f (record_of_label k) others ≡ false
  links_not n f [] h = refl
  links_not n f (a ∷ more) h =
      let parts = none_parts hit (link_mark model group n f (Some (Some a.id))) (linked_marks model group n f more) h in
      let here : is_linked among.tables n f (record_of_label k) (Some (Some a.id)) ≡ false = link_not n f (Some (Some a.id)) parts.0 in
      rw here (links_not n f more parts.1)

  one_not : (s : Referent) → list_any hit (one_marks model group over s) ≡ false → not (is_one_altered over among.tables (record_of_label k) viewer s) ≡ true
  one_not referent.This h = not_of (is_altered over (record_of_label k)) (not_own hit k over (one_is k refl) h)
  one_not (referent.Field n f) h = not_of (is_link_altered among.tables n f (record_of_label k) over) (links_not n f over h)
  one_not referent.Viewer h = viewer_not viewer refl h

  cell_not : (s : Referent) (x : Option (Option ℕ)) → list_any hit (cell_mark model group s x) ≡ false → is_found among.tables (record_of_label k) viewer s x ≡ false
  cell_not referent.This None h = refl
  cell_not referent.This (Some None) h = refl
  cell_not referent.This (Some (Some y)) h =
      unless (y == record_of_label k) (λ e. sym (label_hit y (eqb-true y (record_of_label k) e)) ∙ h)
  cell_not (referent.Field n f) x h = link_not n f x h
  cell_not referent.Viewer None h = refl
  cell_not referent.Viewer (Some x) h = sym (group_is (Some x)) ∙ none_one hit (group_mark model group (Some x)) h

  row_not : (s : Referent) (n f : ℕ) (r : Row) (b : Bool) → (model_of_id r.id == n) ≡ b
      → list_any hit (if b then cell_mark model group s (referred_by (slice_get r.cells f)) else []) ≡ false
      → (b && is_found among.tables (record_of_label k) viewer s (referred_by (slice_get r.cells f))) ≡ false
  row_not s n f r true e h = cell_not s (referred_by (slice_get r.cells f)) h
  row_not s n f r false e h = refl

  found_not : (s : Referent) (n f : ℕ) (some : List Row) → list_any hit (found_marks model group s n f some) ≡ false → list_any (row_refers n f (is_found among.tables (record_of_label k) viewer s)) some ≡ false
  found_not s n f [] h = refl
  found_not s n f (r ∷ some) h =
      let parts = none_parts hit (row_mark model group s n f r) (found_marks model group s n f some) h in
      let here : row_refers n f (is_found among.tables (record_of_label k) viewer s) r ≡ false = row_not s n f r (model_of_id r.id == n) refl parts.0 in
      rw here (found_not s n f some parts.1)

  dependency_not : (x : Dependency) → list_any hit (dependency_marks model group over among.rows x) ≡ false → test_of over among (record_of_label k) viewer x ≡ true
  dependency_not (dependency.One s) h = one_not s h
  dependency_not (dependency.Table n) h = table_not (alters n over) h
  dependency_not (dependency.Found s n f) h = not_of (list_any (row_refers n f (is_found among.tables (record_of_label k) viewer s)) among.rows) (found_not s n f among.rows h)
  dependency_not dependency.Any h = any_not over h

  same_test : (x y : Dependency) → is_same_dependency x y ≡ true → test_of over among (record_of_label k) viewer y ≡ true → test_of over among (record_of_label k) viewer x ≡ true
  same_test x y e h = subst (λ z. test_of over among (record_of_label k) viewer z ≡ true) (sym (same_dependency x y e)) h

  again_test : (x : Dependency) (xs : List Dependency) → comes_again x xs ≡ true → list_all (test_of over among (record_of_label k) viewer) xs ≡ true → test_of over among (record_of_label k) viewer x ≡ true
  again_test x [] e h = absurd cc
  again_test x (y ∷ xs) e h =
      let parts = and_parts (test_of over among (record_of_label k) viewer y) (list_all (test_of over among (record_of_label k) viewer) xs) h in
      or_cases (test_of over among (record_of_label k) viewer x ≡ true) (is_same_dependency x y) (comes_again x xs)
      (λ i. same_test x y i parts.0) (λ i. again_test x xs i parts.1) e

  first_not : (x : Dependency) (xs : List Dependency) (b : Bool) → comes_again x xs ≡ b → list_any hit (if b then [] else dependency_marks model group over among.rows x) ≡ false
      → list_all (test_of over among (record_of_label k) viewer) xs ≡ true → test_of over among (record_of_label k) viewer x ≡ true
  first_not x xs true e h all = again_test x xs e all
  first_not x xs false e h all = dependency_not x h

  pub each_not : (xs : List Dependency) → list_any hit (each_dependency_marks model group over among.rows xs) ≡ false → list_all (test_of over among (record_of_label k) viewer) xs ≡ true
  each_not [] h = refl
  each_not (x ∷ xs) h =
      let parts = none_parts hit (if comes_again x xs then [] else dependency_marks model group over among.rows x) (each_dependency_marks model group over among.rows xs) h in
      let later = each_not xs parts.1 in
      rw (first_not x xs (comes_again x xs) refl parts.0 later) later

-- All marks.
abbrev pub all_marks : Application → List Alteration → List Row → List Mark
all_marks app over rows = models_marks app.models 0 over rows app.models

dependencies_spared : (app : Application) (over : List Alteration) (among : RowsAltered) (viewer : Option ℕ) (k : ℕ) (found : Option FieldGroup) → record_of_label k < 2 ^ 124 → labelled_group app k ≡ found
    → list_any (marks_label among.tables viewer k) (all_marks app over among.rows) ≡ false → list_all (test_of over among (record_of_label k) viewer) (group_dependencies app.models found) ≡ true
dependencies_spared app over among viewer k None small is h = refl
dependencies_spared app over among viewer k (Some g) small is h =
    let rows : List Row = among.rows in
    let hit = marks_label among.tables viewer k in
    let m : ℕ = model_of_id (record_of_label k) in
    let n : ℕ = group_of_label k in
    let all = in_entity hit app.models m n over rows (slice_get app.models m) g refl is h in
    each_not viewer k over among small (dependencies app.models g.policy)
    (none_parts hit (own_marks m n over) (each_dependency_marks m n over rows (dependencies app.models g.policy)) all).1

own_spared : (app : Application) (over : List Alteration) (tables : List (List Row)) (rows : List Row) (k : ℕ) (found : Option FieldGroup) → labelled_group app k ≡ found → is_some_group found ≡ true
    → list_any (is_one tables k) (all_marks app over rows) ≡ false → is_outside over (record_of_label k) ≡ true
own_spared app over tables rows k None is some h = absurd cc
own_spared app over tables rows k (Some g) is some h =
    let m : ℕ = model_of_id (record_of_label k) in
    let n : ℕ = group_of_label k in
    let all = in_entity (is_one tables k) app.models m n over rows (slice_get app.models m) g refl is h in
    not_of (is_altered over (record_of_label k))
    (not_own (is_one tables k) k over (itself k) (none_parts (is_one tables k) (own_marks m n over) (each_dependency_marks m n over rows (dependencies app.models g.policy)) all).0)

-- From an invalidation to marks.
or_join : (a b c d : Bool) → d ≡ (b || c) → (a || d) ≡ ((a || b) || c)
or_join true b c d e = refl
or_join false b c d e = e

shown_append : (xs ys : List ℕ) (k : ℕ) → shown_by (xs ++ ys) k ≡ (shown_by xs k || shown_by ys k)
shown_append [] ys k = refl
shown_append (x ∷ xs) ys k = or_join (x == k) (shown_by xs k) (shown_by ys k) (shown_by (xs ++ ys) k) (shown_append xs ys k)

labels_are : (tables : List (List Row)) (k : ℕ) (marks : List Mark) → shown_by (marked_labels tables marks) k ≡ list_any (is_one tables k) marks
labels_are tables k [] = refl
labels_are tables k (mark.One j ∷ marks) = ap (λ b. (j == k) || b) (labels_are tables k marks)
labels_are tables k (mark.Linked m g f id ∷ marks) =
    shown_append (holder_labels tables m g f id) (marked_labels tables marks) k
    ∙ ap (λ b. shown_by (holder_labels tables m g f id) k || b) (labels_are tables k marks)
labels_are tables k (mark.All m g ∷ marks) = labels_are tables k marks
labels_are tables k (mark.Only m g v ∷ marks) = labels_are tables k marks

groups_are : (tables : List (List Row)) (viewer : Option ℕ) (k : ℕ) (marks : List Mark) → list_any (is_one tables k) marks ≡ false
    → list_any (λ (g : AffectedGroup). is_in_group g k && is_for g.viewer viewer) (marked_groups marks) ≡ false → list_any (marks_label tables viewer k) marks ≡ false
groups_are tables viewer k [] a b = refl
groups_are tables viewer k (mark.One j ∷ marks) a b =
    let parts = or_parts (j == k) (list_any (is_one tables k) marks) a in
    rw parts.0 (groups_are tables viewer k marks parts.1 b)
groups_are tables viewer k (mark.Linked m g f id ∷ marks) a b =
    let parts = or_parts (shown_by (holder_labels tables m g f id) k) (list_any (is_one tables k) marks) a in
    rw parts.0 (groups_are tables viewer k marks parts.1 b)
groups_are tables viewer k (mark.All m g ∷ marks) a b =
    let parts = or_parts (is_in_group (affected_group m g None) k && is_for (audience_of None) viewer) (list_any (λ (g : AffectedGroup). is_in_group g k && is_for g.viewer viewer) (marked_groups marks)) b in
    rw parts.0 (groups_are tables viewer k marks a parts.1)
groups_are tables viewer k (mark.Only m g v ∷ marks) a b =
    let parts = or_parts (is_in_group (affected_group m g (Some v)) k && is_for (audience_of (Some v)) viewer) (list_any (λ (g : AffectedGroup). is_in_group g k && is_for g.viewer viewer) (marked_groups marks)) b in
    rw parts.0 (groups_are tables viewer k marks a parts.1)

-- A record past the end doesn't exist.
stands_if : (u : ℕ → Bool) (h b : Bool) (id : ℕ) (r : Row) (rows : List Row) → (r.id == id) ≡ b → b ≡ false → stands (record_with id (rows_at u rows)) ≡ false
    → stands (record_with id (if h then record { id = r.id; cells = r.cells } ∷ rows_at u rows else rows_at u rows)) ≡ false
stands_if u true true id r rows e f h = absurd cc
stands_if u true false id r rows e f h = rw e h
stands_if u false b id r rows e f h = h

none_with : (u : ℕ → Bool) (id : ℕ) (rows : List Row) → AreSmall rows → (id < 2 ^ 124 → false ≡ true) → stands (record_with id (rows_at u rows)) ≡ false
none_with u id [] small big = refl
none_with u id (r ∷ rows) small big =
    stands_if u (holds u r.guard) (r.id == id) id r rows refl
    (unless (r.id == id) (λ e. sym (big (subst (λ i. i < 2 ^ 124) (eqb-true r.id id e) small.0))))
    (none_with u id rows small.1 big)

and_false : (a : Bool) → (a && false) ≡ false
and_false true = refl
and_false false = refl

-- What an invalidation of the marks covers.
module _ (app : Application) (s : State) (over : List Alteration) (sound : IsSound s) (own : AreOwn over) (placed : ArePlaced over (length s.tables)) where
  abbrev among : RowsAltered
  among = rows_altered s.tables over

  abbrev rows : List Row
  rows = among.rows

  abbrev behind : State
  behind = state_over over s

  group_there : (k : ℕ) (b : Bool) → has_group app k ≡ b → list_any (is_one s.tables k) (all_marks app over rows) ≡ false
      → IsLiveLabel app (λ u. project_at u s) k ↔ IsLiveLabel app (λ u. project_at u behind) k
  group_there k true is h =
      spared_live app s over sound own placed k (own_spared app over s.tables rows k (labelled_group app k) refl is h)
  group_there k false is h = (
    (λ live. let wrong : false ≡ true = sym is ∙ live.group in absurd cc),
    (λ live. let wrong : false ≡ true = sym is ∙ live.group in absurd cc),
  )

  has_none : (u : ℕ → Bool) (k : ℕ) → (record_of_label k < 2 ^ 124 → false ≡ true) → has_record (project_at u s) k ≡ false
  has_none u k big =
      let id : ℕ = record_of_label k in
      ap (λ l. stands (record_with id l)) (rows_of-shown u s.tables (model_of_id id))
      ∙ none_with u id (rows_of s.tables (model_of_id id)) (are_small s (model_of_id id) sound) big

  size_there : (viewer : Option ℕ) (k : ℕ) (b : Bool) → nat_lt (record_of_label k) (2 ^ 124) ≡ b → is_outside over (record_of_label k) ≡ true
      → list_any (marks_label s.tables viewer k) (all_marks app over rows) ≡ false
      → (u : ℕ → Bool) → is_allowed app (project_at u behind) viewer k ≡ is_allowed app (project_at u s) viewer k
  size_there viewer k true is stay h u =
      let small : record_of_label k < 2 ^ 124 = grind (arith, nat_tests, is) in
      spared_allowed app s over sound own placed viewer k
      (and_from (is_outside over (record_of_label k)) (list_all (test_of over among (record_of_label k) viewer) (group_dependencies app.models (labelled_group app k))) stay
      (dependencies_spared app over among viewer k (labelled_group app k) small refl h)) u
  size_there viewer k false is stay h u =
      let big : record_of_label k < 2 ^ 124 → false ≡ true = λ small. grind (arith, nat_tests, is, small) in
      let before : has_record (project_at u s) k ≡ false = has_none u k big in
      let later : has_record (project_at u behind) k ≡ false = same_has app s over sound own placed u (record_of_label k) stay ∙ before in
      ap (λ b. b && policy_is_true (labelled_group app k) (policy_world app (project_at u behind) viewer (record_of_label k))) later
      ∙ ap (λ b. b && policy_is_true (labelled_group app k) (policy_world app (project_at u s) viewer (record_of_label k))) (sym before)

  policy_there : (viewer : Option ℕ) (k : ℕ) (found : Option FieldGroup) → labelled_group app k ≡ found
      → list_any (is_one s.tables k) (all_marks app over rows) ≡ false → list_any (marks_label s.tables viewer k) (all_marks app over rows) ≡ false
      → (u : ℕ → Bool) → is_allowed app (project_at u behind) viewer k ≡ is_allowed app (project_at u s) viewer k
  policy_there viewer k None is a b u =
      ap (λ g. has_record (project_at u behind) k && policy_is_true g (policy_world app (project_at u behind) viewer (record_of_label k))) is
      ∙ and_false (has_record (project_at u behind) k)
      ∙ sym (and_false (has_record (project_at u s) k))
      ∙ ap (λ g. has_record (project_at u s) k && policy_is_true g (policy_world app (project_at u s) viewer (record_of_label k))) (sym is)
  policy_there viewer k (Some g) is a b u =
      size_there viewer k (nat_lt (record_of_label k) (2 ^ 124)) refl (own_spared app over s.tables rows k (Some g) is refl a) b u

  pub covered : (t : Invalidation) (viewer : Option ℕ) → ((k : ℕ) → shown_by t.labels k ≡ shown_by (marked_labels s.tables (all_marks app over rows)) k)
      → t.groups.items ≡ marked_groups (all_marks app over rows)
      → IsCovered app (λ u. project_at u s) (λ u. project_at u behind) t viewer
  covered t viewer labels groups = record {
    living = λ k h. group_there k (has_group app k) refl (sym (labels_are s.tables k (all_marks app over rows)) ∙ sym (labels k) ∙ h);
    allowed = λ k h u.
        let parts = or_parts (shown_by t.labels k) (list_any (λ (g : AffectedGroup). is_in_group g k && is_for g.viewer viewer) t.groups.items) h in
        let one : list_any (is_one s.tables k) (all_marks app over rows) ≡ false = sym (labels_are s.tables k (all_marks app over rows)) ∙ sym (labels k) ∙ parts.0 in
        let each : list_any (λ (g : AffectedGroup). is_in_group g k && is_for g.viewer viewer) (marked_groups (all_marks app over rows)) ≡ false =
        subst (λ (l : List AffectedGroup). list_any (λ (g : AffectedGroup). is_in_group g k && is_for g.viewer viewer) l ≡ false) groups parts.1 in
        policy_there viewer k (labelled_group app k) refl one (groups_are s.tables viewer k (all_marks app over rows) one each) u;
  }
