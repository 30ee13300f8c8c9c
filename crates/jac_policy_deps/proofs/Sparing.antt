-- Labels that replaced records spare are allowed as before.
use Rattle.std.proofs.Common.{◌≡◌, ◌∙◌, refl, sym, ap, subst, arith, ℕ, ◌==◌, ◌&&◌, ◌||◌, not, Bool, true, false, if◌then◌else◌, List, [], ◌∷◌, ◌↔◌}
use Rattle.std.specs.Prelude.{Option, Some, None, map, slice_get, unwrap_or, length}
use Rattle.std.specs.List.{list_any, list_all}
use Rattle.std.proofs.lemmas.Bool.{and_parts, or_left, or_right}
use Rattle.jac_value.specs.Ids.{model_of_id, record_of_label}
use Rattle.jac_value.specs.SameValue.{same_value}
use Rattle.jac_value.specs.Values.{default_value}
use Rattle.jac_value.specs.declared.value.Kind.{Kind}
use Rattle.jac_value.specs.declared.value.Kind.TheVariants as kind
use Rattle.jac_value.specs.declared.value.Value.{Value}
use Rattle.jac_value.specs.declared.value.Value.TheVariants as value
use Rattle.jac_value.specs.contracts.value.ValuePartialEq.TheImpl as equality
use Rattle.jac_world.specs.World.{holds}
use Rattle.jac_lang.specs.Lookup.{fields_at, kind_at}
use Rattle.jac_lang.specs.Syntax.{Entity, Expression, FieldGroup, Application}
use Rattle.jac_rows.specs.Good.{IsSound}
use Rattle.jac_rows.specs.Project.{rows_at, project_at}
use Rattle.jac_rows.specs.Tables.{rows_of}
use Rattle.jac_rows.specs.declared.plain.PlainRow.{PlainRow}
use Rattle.jac_rows.specs.declared.row.Row.{Row}
use Rattle.jac_rows.specs.declared.state.State.{State}
use Rattle.jac_keep.specs.declared.alteration.Alteration.{Alteration}
use Rattle.jac_keep.specs.Alterations.{AreOwn, ArePlaced, alters, overlaid}
use Rattle.jac_keep.specs.MatchingRecords.{is_cell, holds_cell}
use Rattle.jac_keep.specs.Records.{with_id}
use Rattle.jac_keep.proofs.AlteringLaws.{rows_of-overlaid}
use Rattle.jac_keep.proofs.Forgotten.{rows_unaltered}
use Rattle.jac_keep.proofs.SoundLaws.{tables_of_sound}
use Rattle.jac_plain.specs.World.{World, record_with, cell_of}
use Rattle.jac_plain.specs.Expressions.{is_true, mean, stands}
use Rattle.jac_plain.specs.Policies.{has_id, has_record, labelled_group, policy_world, policy_is_true, is_allowed, IsLiveLabel}
use Rattle.jac_plain.specs.Records.{with_ids}
use Rattle.jac_index_choice.proofs.Finding.{rows_at_with_id, rows_of-shown}
use Rattle.jac_policy_deps.specs.declared.dependency.Referent.{Referent}
use Rattle.jac_policy_deps.specs.declared.dependency.Referent.TheVariants as referent
use Rattle.jac_policy_deps.specs.Dependencies.{dependencies}
use Rattle.jac_policy_deps.specs.Cleared.{is_clear, referent_in, field_in, IsTest}
use Rattle.jac_policy_deps.specs.Altered.{state_over, is_altered, is_outside, is_viewer_altered, RowsAltered, rows_altered, referred_by, is_to, row_refers, is_linked, is_found, is_link_altered, is_one_altered, alters_none, test_of, group_dependencies, is_spared}
use Rattle.jac_policy_deps.proofs.Clearing.{same_answers, rows_cleared, record_stays}
use Rattle.jac_policy_deps.proofs.Replaced.{OfModel, stay_same, of_model, altered_alters, or_cases, cell_refers, found_before, found_behind}

-- A cell that reads as a reference refers to the same record.
refers_is : (c : Option Value) (k : Kind) (x : Option ℕ) → unwrap_or c (default_value k) ≡ value.Ref x → is_to x (referred_by c) ≡ true
refers_is None kind.Int x e = absurd cc
refers_is None kind.Text x e = absurd cc
refers_is None kind.Bool x e = absurd cc
refers_is None (kind.Ref m) None e = refl
refers_is None (kind.Ref m) (Some y) e = absurd cc
refers_is (Some (value.Ref None)) k None e = refl
refers_is (Some (value.Ref None)) k (Some y) e = absurd cc
refers_is (Some (value.Ref (Some z))) k None e = absurd cc
refers_is (Some (value.Ref (Some z))) k (Some y) e =
    let same : z ≡ y = cc in
    grind (arith, same)
refers_is (Some (value.Int i)) k x e = absurd cc
refers_is (Some (value.Text t)) k x e = absurd cc
refers_is (Some (value.Bool b)) k x e = absurd cc

cell_is : (c : Option Value) (k : Kind) (x : Option ℕ) → equality.ghosts.eq (unwrap_or c (default_value k)) (value.Ref x) ≡ true → is_to x (referred_by c) ≡ true
cell_is c k x e = refers_is c k x (same_value (unwrap_or c (default_value k)) (value.Ref x) e)

both_or : (a b c : Bool) → a ≡ true → b ≡ true → ((a && b) || c) ≡ true
both_or true true c p q = refl
both_or true false c p q = absurd cc
both_or false b c p q = absurd cc

-- If a record's field has a value in one world, the record has a row with a cell that may have it.
read_if : (h s : Bool) (r : Row) (u : ℕ → Bool) (rows : List Row) (f : ℕ) (k : Kind) (v : Value) (q : Option Value → Bool) (id : ℕ) → (r.id == id) ≡ s
    → ((c : Option Value) → equality.ghosts.eq (unwrap_or c (default_value k)) v ≡ true → q c ≡ true)
    → (stands (record_with id (rows_at u rows)) ≡ true → equality.ghosts.eq (cell_of (record_with id (rows_at u rows)) f (default_value k)) v ≡ true
    → list_any (λ r. (r.id == id) && q (slice_get r.cells f)) rows ≡ true)
    → stands (record_with id (if h then record { id = r.id; cells = r.cells } ∷ rows_at u rows else rows_at u rows)) ≡ true
    → equality.ghosts.eq (cell_of (record_with id (if h then record { id = r.id; cells = r.cells } ∷ rows_at u rows else rows_at u rows)) f (default_value k)) v ≡ true
    → list_any (λ r. (r.id == id) && q (slice_get r.cells f)) (r ∷ rows) ≡ true
read_if true true r u rows f k v q id s may ih stood e =
    let cell : equality.ghosts.eq (unwrap_or (slice_get r.cells f) (default_value k)) v ≡ true = rw s at e in
    both_or (r.id == id) (q (slice_get r.cells f)) (list_any (λ r. (r.id == id) && q (slice_get r.cells f)) rows) s (may (slice_get r.cells f) cell)
read_if true false r u rows f k v q id s may ih stood e =
    let there : stands (record_with id (rows_at u rows)) ≡ true = rw s at stood in
    let cell : equality.ghosts.eq (cell_of (record_with id (rows_at u rows)) f (default_value k)) v ≡ true = rw s at e in
    or_right ((r.id == id) && q (slice_get r.cells f)) (list_any (λ r. (r.id == id) && q (slice_get r.cells f)) rows) (ih there cell)
read_if false s r u rows f k v q id same may ih stood e =
    or_right ((r.id == id) && q (slice_get r.cells f)) (list_any (λ r. (r.id == id) && q (slice_get r.cells f)) rows) (ih stood e)

read_cell : (u : ℕ → Bool) (rows : List Row) (f : ℕ) (k : Kind) (v : Value) (q : Option Value → Bool) (id : ℕ)
    → ((c : Option Value) → equality.ghosts.eq (unwrap_or c (default_value k)) v ≡ true → q c ≡ true)
    → stands (record_with id (rows_at u rows)) ≡ true
    → equality.ghosts.eq (cell_of (record_with id (rows_at u rows)) f (default_value k)) v ≡ true
    → list_any (λ r. (r.id == id) && q (slice_get r.cells f)) rows ≡ true
read_cell u [] f k v q id may stood e = absurd cc
read_cell u (r ∷ rows) f k v q id may stood e = read_if (holds u r.guard) (r.id == id) r u rows f k v q id refl may (read_cell u rows f k v q id may) stood e

-- If a record's field refers to another record in some world, some row does.
is_itself : (v : Value) (y : ℕ) → v ≡ value.Ref (Some y) → equality.ghosts.eq v (value.Ref (Some y)) ≡ true
is_itself v y e = rw e (grind arith)

no_default : (k : Kind) (y : ℕ) → default_value k ≡ value.Ref (Some y) → ⊥
no_default kind.Int y e = cc
no_default kind.Text y e = cc
no_default kind.Bool y e = cc
no_default (kind.Ref m) y e = cc

has_it : (k : Kind) (y : ℕ) (c : Option Value) → equality.ghosts.eq (unwrap_or c (default_value k)) (value.Ref (Some y)) ≡ true → is_cell (value.Ref (Some y)) c ≡ true
has_it k y None e = absurd (no_default k y (same_value (default_value k) (value.Ref (Some y)) e))
has_it k y (Some c) e = e

stands_there : (r : Option PlainRow) (f : ℕ) (k : Kind) (y : ℕ) → cell_of r f (default_value k) ≡ value.Ref (Some y) → stands r ≡ true
stands_there None f k y e = absurd (no_default k y e)
stands_there (Some r) f k y e = refl

own_holds : (u : ℕ → Bool) (rows : List Row) (f : ℕ) (k : Kind) (y id : ℕ) → cell_of (record_with id (rows_at u rows)) f (default_value k) ≡ value.Ref (Some y)
    → holds_cell f (value.Ref (Some y)) rows id ≡ true
own_holds u rows f k y id e =
    read_cell u rows f k (value.Ref (Some y)) (is_cell (value.Ref (Some y))) id (has_it k y)
    (stands_there (record_with id (rows_at u rows)) f k y e) (is_itself (cell_of (record_with id (rows_at u rows)) f (default_value k)) y e)

-- A record may refer to whatever a cell with the value refers to.
linked_is : (tables : List (List Row)) (m f this : ℕ) (v : Value) (k : Kind) (c : Option Value)
    → ((y : ℕ) → v ≡ value.Ref (Some y) → holds_cell f (value.Ref (Some y)) (rows_of tables m) this ≡ true)
    → equality.ghosts.eq (unwrap_or c (default_value k)) v ≡ true → is_linked tables m f this (referred_by c) ≡ true
linked_is tables m f this v k None holds e = refl
linked_is tables m f this v k (Some (value.Ref None)) holds e = refl
linked_is tables m f this v k (Some (value.Ref (Some y))) holds e = holds y (sym (same_value (value.Ref (Some y)) v e))
linked_is tables m f this v k (Some (value.Int i)) holds e = refl
linked_is tables m f this v k (Some (value.Text t)) holds e = refl
linked_is tables m f this v k (Some (value.Bool b)) holds e = refl

-- A replaced record that this record refers to is found.
link_altered : (tables : List (List Row)) (m f this : ℕ) (over : List Alteration) (y : ℕ) → holds_cell f (value.Ref (Some y)) (rows_of tables m) this ≡ true
    → is_altered over y ≡ true → is_link_altered tables m f this over ≡ true
link_altered tables m f this [] y holds is = absurd cc
link_altered tables m f this (a ∷ more) y holds is =
    or_cases (is_link_altered tables m f this (a ∷ more) ≡ true) (a.id == y) (is_altered more y)
    (λ e. let same : y ≡ a.id = grind (arith, e) in
    or_left (holds_cell f (value.Ref (Some a.id)) (rows_of tables m) this) (is_link_altered tables m f this more)
    (subst (λ i. holds_cell f (value.Ref (Some i)) (rows_of tables m) this ≡ true) same holds))
    (λ e. or_right (is_linked tables m f this (Some (Some a.id))) (is_link_altered tables m f this more) (link_altered tables m f this more y holds e)) is

clear_if : (over : List Alteration) (v : Value) → ((y : ℕ) → v ≡ value.Ref (Some y) → is_outside over y ≡ true) → is_clear (is_outside over) v ≡ true
clear_if over (value.Ref None) f = refl
clear_if over (value.Ref (Some y)) f = f y refl
clear_if over (value.Int i) f = refl
clear_if over (value.Text t) f = refl
clear_if over (value.Bool b) f = refl

-- Rows of records that aren't replaced.
not_altered : (b : Bool) → (b ≡ true → false ≡ true) → not b ≡ true
not_altered true f = absurd (bad (f refl))
  where
    bad : false ≡ true → ⊥
    bad e = cc
not_altered false f = refl

keep_if : (b : Bool) (r : Row) (xs ys : List Row) → b ≡ true → xs ≡ ys → (if b then r ∷ xs else xs) ≡ r ∷ ys
keep_if true r xs ys e h = ap (λ l. r ∷ l) h
keep_if false r xs ys e h = absurd cc

all_stay : (over : List Alteration) (m : ℕ) (rows : List Row) → OfModel m rows → alters m over ≡ false → with_id (is_outside over) rows ≡ rows
all_stay over m [] all none = refl
all_stay over m (r ∷ rows) all none =
    keep_if (is_outside over r.id) r (with_id (is_outside over) rows) rows
    (not_altered (is_altered over r.id) (λ h. sym none ∙ ap (λ n. alters n over) (sym all.0) ∙ altered_alters over r.id h))
    (all_stay over m rows all.1 none)

-- The states before and after have the same records that stay.
same_record : (u : ℕ → Bool) (s : State) (over : List Alteration) → IsSound s → AreOwn over → (m id : ℕ) → is_outside over id ≡ true
    → record_with id (rows_of (map (rows_at u) (overlaid over s.tables)) m) ≡ record_with id (rows_of (map (rows_at u) s.tables) m)
same_record u s over sound own m id stay =
    let before : List (List PlainRow) = map (rows_at u) s.tables in
    let behind : List (List PlainRow) = map (rows_at u) (overlaid over s.tables) in
    sym (record_stays (is_outside over) id (rows_of behind m) stay)
    ∙ ap (record_with id) (sym (rows_cleared (is_outside over) behind m))
    ∙ ap (λ tables. record_with id (rows_of tables m)) (stay_same u over s.tables own (tables_of_sound s sound))
    ∙ ap (record_with id) (rows_cleared (is_outside over) before m)
    ∙ record_stays (is_outside over) id (rows_of before m) stay

-- What the test requires of a world's tables.
pub record AreTested (over : List Alteration) (among : RowsAltered) (u : ℕ → Bool) (this : ℕ) (tables : List (List Row)) : Type 0 where
  pub whole : (m : ℕ) → alters m over ≡ false → with_id (is_outside over) (rows_of tables m) ≡ rows_of tables m
  pub found : (m f : ℕ) (x : Option (Option ℕ) → Bool) (id : ℕ) → is_altered over id ≡ true
      → list_any (λ r. (r.id == id) && cell_refers f x r) (rows_of tables m) ≡ true → list_any (row_refers m f x) among.rows ≡ true
  pub itself : (m : ℕ) → record_with this (rows_of (map (rows_at u) tables) m) ≡ record_with this (rows_of (map (rows_at u) among.tables) m)

pub tested_before : (s : State) (over : List Alteration) (u : ℕ → Bool) (this : ℕ) → IsSound s → AreTested over (rows_altered s.tables over) u this s.tables
tested_before s over u this sound = record {
  whole = λ m none. all_stay over m (rows_of s.tables m) (of_model s m sound) none;
  found = λ m f x id is h. found_before s.tables over m f x id (of_model s m sound) is h;
  itself = λ m. refl;
}

pub tested_behind : (s : State) (over : List Alteration) (u : ℕ → Bool) (this : ℕ) → IsSound s → AreOwn over → ArePlaced over (length s.tables)
    → is_outside over this ≡ true → AreTested over (rows_altered s.tables over) u this (overlaid over s.tables)
tested_behind s over u this sound own placed stay = record {
  whole = λ m none. ap (with_id (is_outside over)) (rows_unaltered m over s.tables none)
      ∙ all_stay over m (rows_of s.tables m) (of_model s m sound) none
      ∙ sym (rows_unaltered m over s.tables none);
  found = λ m f x id is h. found_behind s.tables over m f x id own (of_model s m sound) is
      (subst (λ (l : List Row). list_any (λ r. (r.id == id) && cell_refers f x r) l ≡ true) (rows_of-overlaid m over s.tables placed) h);
  itself = λ m. same_record u s over sound own m this stay;
}

not_true : (b : Bool) → not b ≡ true → b ≡ false
not_true true h = absurd cc
not_true false h = refl

stays_or : (b c : Bool) → not c ≡ true → (b ≡ true → c ≡ true) → not b ≡ true
stays_or true true n f = absurd cc
stays_or true false n f = let wrong : false ≡ true = f refl in absurd cc
stays_or false c n f = refl

stays_any : (over : List Alteration) (id : ℕ) → alters_none over ≡ true → is_outside over id ≡ true
stays_any [] id h = refl
stays_any (a ∷ more) id h = absurd cc

viewer_stays : (over : List Alteration) (viewer : Option ℕ) → not (is_viewer_altered over viewer) ≡ true → is_clear (is_outside over) (value.Ref viewer) ≡ true
viewer_stays over None h = refl
viewer_stays over (Some id) h = h

abbrev world_at : List Entity → ℕ → Option ℕ → (ℕ → Bool) → List (List Row) → World
world_at models this viewer u tables = record { models = models; this = Some this; viewer = viewer; tables = map (rows_at u) tables }

module _ (models : List Entity) (this : ℕ) (viewer : Option ℕ) (u : ℕ → Bool) (over : List Alteration) (among : RowsAltered) (tables : List (List Row)) (tested : AreTested over among u this tables) where
  abbrev world : World
  world = world_at models this viewer u tables

  link_holds : (m f y : ℕ) → referent_in world (referent.Field m f) ≡ value.Ref (Some y) → holds_cell f (value.Ref (Some y)) (rows_of among.tables m) this ≡ true
  link_holds m f y e =
      let k : Kind = kind_at models (fields_at models m) f in
      let cell : cell_of (record_with this (rows_at u (rows_of among.tables m))) f (default_value k) ≡ value.Ref (Some y) =
      ap (λ l. cell_of (record_with this l) f (default_value k)) (sym (rows_of-shown u among.tables m))
      ∙ ap (λ r. cell_of r f (default_value k)) (sym (tested.itself m)) ∙ e in
      own_holds u (rows_of among.tables m) f k y this cell

  may_find : (s : Referent) (k : Kind) (c : Option Value) → equality.ghosts.eq (unwrap_or c (default_value k)) (referent_in world s) ≡ true → is_found among.tables this viewer s (referred_by c) ≡ true
  may_find referent.This k c e = cell_is c k (Some this) e
  may_find (referent.Field m f) k c e = linked_is among.tables m f this (referent_in world (referent.Field m f)) k c (λ y is. link_holds m f y is) e
  may_find referent.Viewer k c e = cell_is c k viewer e

  found_stays : (s : Referent) (m f id : ℕ) → not (list_any (row_refers m f (is_found among.tables this viewer s)) among.rows) ≡ true
      → stands (record_with id (rows_of (map (rows_at u) tables) m)) ≡ true
      → equality.ghosts.eq (field_in world m f id) (referent_in world s) ≡ true
      → is_outside over id ≡ true
  found_stays s m f id none stood e =
      let k : Kind = kind_at models (fields_at models m) f in
      let x = is_found among.tables this viewer s in
      let there : stands (record_with id (rows_at u (rows_of tables m))) ≡ true =
      subst (λ (l : List PlainRow). stands (record_with id l) ≡ true) (rows_of-shown u tables m) stood in
      let cell : equality.ghosts.eq (cell_of (record_with id (rows_at u (rows_of tables m))) f (default_value k)) (referent_in world s) ≡ true =
      subst (λ (l : List PlainRow). equality.ghosts.eq (cell_of (record_with id l) f (default_value k)) (referent_in world s) ≡ true) (rows_of-shown u tables m) e in
      stays_or (is_altered over id) (list_any (row_refers m f x) among.rows) none
      (λ is. tested.found m f x id is (read_cell u (rows_of tables m) f k (referent_in world s) (λ c. x (referred_by c)) id (may_find s k) there cell))

  one_stays : is_outside over this ≡ true → (s : Referent) → not (is_one_altered over among.tables this viewer s) ≡ true → is_clear (is_outside over) (referent_in world s) ≡ true
  one_stays own referent.This h = own
  one_stays own (referent.Field m f) h =
      clear_if over (referent_in world (referent.Field m f))
      (λ y is. stays_or (is_altered over y) (is_link_altered among.tables m f this over) h
      (λ hit. link_altered among.tables m f this over y (link_holds m f y is) hit))
  one_stays own referent.Viewer h = viewer_stays over viewer h

  pub is_test : is_outside over this ≡ true → IsTest (is_outside over) (test_of over among this viewer) world
  is_test own = record {
    own = own;
    one = λ s h. one_stays own s h;
    table = λ m h.
        ap (with_ids (is_outside over)) (rows_of-shown u tables m)
        ∙ sym (rows_at_with_id u (is_outside over) (rows_of tables m))
        ∙ ap (rows_at u) (tested.whole m (not_true (alters m over) h))
        ∙ sym (rows_of-shown u tables m);
    found = λ s m f id h stood e. found_stays s m f id h stood e;
    any = λ h id. stays_any over id h;
  }

-- The states before and after show the same for records that stay.
module _ (app : Application) (s : State) (over : List Alteration) (sound : IsSound s) (own : AreOwn over) (placed : ArePlaced over (length s.tables)) where
  pub same_has : (u : ℕ → Bool) (id : ℕ) → is_outside over id ≡ true → has_id (project_at u (state_over over s)) id ≡ has_id (project_at u s) id
  same_has u id stay = ap stands (same_record u s over sound own (model_of_id id) id stay)

  same_mean : (u : ℕ → Bool) (viewer : Option ℕ) (id : ℕ) (e : Expression) → is_outside over id ≡ true
      → list_all (test_of over (rows_altered s.tables over) id viewer) (dependencies app.models e) ≡ true
      → mean (policy_world app (project_at u (state_over over s)) viewer id) e [] ≡ mean (policy_world app (project_at u s) viewer id) e []
  same_mean u viewer id e stay h =
      let among : RowsAltered = rows_altered s.tables over in
      let test = test_of over among id viewer in
      sym (same_answers (is_outside over) test (policy_world app (project_at u (state_over over s)) viewer id) e
      (is_test app.models id viewer u over among (overlaid over s.tables) (tested_behind s over u id sound own placed stay) stay) h)
      ∙ ap (λ (tables : List (List PlainRow)). mean (record { models = app.models; this = Some id; viewer = viewer; tables = tables }) e [])
      (stay_same u over s.tables own (tables_of_sound s sound))
      ∙ same_answers (is_outside over) test (policy_world app (project_at u s) viewer id) e
      (is_test app.models id viewer u over among s.tables (tested_before s over u id sound) stay) h

  same_policy : (u : ℕ → Bool) (viewer : Option ℕ) (id : ℕ) (g : Option FieldGroup) → is_outside over id ≡ true
      → list_all (test_of over (rows_altered s.tables over) id viewer) (group_dependencies app.models g) ≡ true
      → policy_is_true g (policy_world app (project_at u (state_over over s)) viewer id) ≡ policy_is_true g (policy_world app (project_at u s) viewer id)
  same_policy u viewer id None stay h = refl
  same_policy u viewer id (Some g) stay h = ap is_true (same_mean u viewer id g.policy stay h)

  pub spared_allowed : (viewer : Option ℕ) (k : ℕ) → is_spared app over (rows_altered s.tables over) viewer k ≡ true → (u : ℕ → Bool)
      → is_allowed app (project_at u (state_over over s)) viewer k ≡ is_allowed app (project_at u s) viewer k
  spared_allowed viewer k spared u =
      let id : ℕ = record_of_label k in
      let g : Option FieldGroup = labelled_group app k in
      let parts = and_parts (is_outside over id) (list_all (test_of over (rows_altered s.tables over) id viewer) (group_dependencies app.models g)) spared in
      ap (λ b. b && policy_is_true g (policy_world app (project_at u (state_over over s)) viewer id)) (same_has u id parts.0)
      ∙ ap (λ b. has_record (project_at u s) k && b) (same_policy u viewer id g parts.0 parts.1)

  pub spared_live : (k : ℕ) → is_outside over (record_of_label k) ≡ true
      → IsLiveLabel app (λ u. project_at u s) k ↔ IsLiveLabel app (λ u. project_at u (state_over over s)) k
  spared_live k stay = (
    (λ live. record { group = live.group; seen_by = live.seen_by; stands = same_has live.seen_by (record_of_label k) stay ∙ live.stands }),
    (λ live. record { group = live.group; seen_by = live.seen_by; stands = sym (same_has live.seen_by (record_of_label k) stay) ∙ live.stands }),
  )
