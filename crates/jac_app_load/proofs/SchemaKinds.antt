-- The schema text of a well application gives the shapes of its models.
use Rattle.std.proofs.Common.{◌≡◌, ◌≢◌, ◌∙◌, refl, sym, ap, arith, ℕ, suc, ◌+◌, ◌≤◌, max, nat_le, nat_lt, cond, Bool, true, false, not, ◌&&◌, if◌then◌else◌, List, [], ◌∷◌, ◌++◌, length, Option, Some, None, is_some, codes, IsTrue}
use Rattle.std.specs.Prelude.{slice_index, unwrap_or}
use Rattle.std.specs.Char.{is_ascii_alphabetic}
use Rattle.std.specs.List.{All, position_or_len}
use Rattle.std.specs.Option.{option_map, option_and_then}
use Rattle.std.proofs.lemmas.Bool.Decides.{nat_tests}
use Rattle.std.proofs.lemmas.List.Elements.{All-head, All-tail}
use Rattle.std.proofs.lemmas.Bool.{and_parts, and_from}
use Rattle.jac_value.specs.Names.{is_name, is_reserved}
use Rattle.jac_value.specs.declared.value.Kind.{Kind}
use Rattle.jac_value.specs.declared.value.Kind.TheVariants as kind
use Rattle.jac_tree.specs.Grammar.{are_atom_bytes}
use Rattle.jac_tree.specs.Plain.{PlainTree, PlainTrees, count, nesting, nesting_all}
use Rattle.jac_tree.specs.Printed.{printed_tree, HasAtoms, HaveAtoms}
use Rattle.jac_lang.specs.declared.field_kinds.Field.{Field}
use Rattle.jac_lang.specs.declared.field_kinds.KindName.{KindName}
use Rattle.jac_lang.specs.declared.field_kinds.KindName.TheVariants as kinds
use Rattle.jac_lang.specs.Lookup.{same_text, model_place, kind_named}
use Rattle.jac_lang.specs.Syntax.{Assigned, FieldGroup, Entity, Application}
use Rattle.jac_lang.specs.Written.{IsName, IsWrittenAssigned, IsWrittenKind, IsWrittenField, IsWrittenGroup, IsWrittenModel}
use Rattle.jac_plain.specs.Models.{kinds_of_fields, shapes_of_models, shapes_of}
use Rattle.jac_keep.specs.Schema as schema
use Rattle.jac_keep.specs.Schema.{IsSchema, each_of, place_from, reference_kind, kind_of_tree, kind_of_field, behind_nested, kinds_of_lists, kinds_of_model, starts_nested, nested_of_models, shapes_by}
use Rattle.jac_check.specs.Schema.{kind_tree, field_tree, field_trees, guard_trees, group_trees, fields_tree, groups_tree, nested_atom_before, list_trees, model_tree, model_trees, schema_tree}
use Rattle.jac_check.specs.Well.{is_viewer, is_kind, are_fields, are_groups, are_models, is_well}

-- A name is an atom.
some_byte : (a : List ℕ) → is_ascii_alphabetic (slice_index a 0) ≡ true → a ≢ []
some_byte [] h = λ _. absurd (cc)
some_byte (b ∷ bs) h = λ e. absurd (cc)

atom_of_name : (a : List ℕ) → IsName a → HasAtoms (PlainTree.atom a)
atom_of_name a named =
    let outer = and_parts (nat_le (length a) 64 && is_ascii_alphabetic (slice_index a 0) && not (is_reserved a)) (are_atom_bytes a) named in
    let inner = and_parts (nat_le (length a) 64 && is_ascii_alphabetic (slice_index a 0)) (not (is_reserved a)) outer.0 in
    let begins = and_parts (nat_le (length a) 64) (is_ascii_alphabetic (slice_index a 0)) inner.0 in
    (some_byte a begins.1, outer.1)

schema_word : HasAtoms (PlainTree.atom (codes "schema"))
schema_word = ((λ e. absurd (cc)), refl)

model_word : HasAtoms (PlainTree.atom (codes "model"))
model_word = ((λ e. absurd (cc)), refl)

fields_word : HasAtoms (PlainTree.atom (codes "fields"))
fields_word = ((λ e. absurd (cc)), refl)

groups_word : HasAtoms (PlainTree.atom (codes "groups"))
groups_word = ((λ e. absurd (cc)), refl)

hides_word : HasAtoms (PlainTree.atom (codes "hides"))
hides_word = ((λ e. absurd (cc)), refl)

nested_word : HasAtoms (PlainTree.atom (codes "nested"))
nested_word = ((λ e. absurd (cc)), refl)

ref_word : HasAtoms (PlainTree.atom (codes "ref"))
ref_word = ((λ e. absurd (cc)), refl)

-- Each atom of the schema is an atom.
kind_atoms : (k : KindName) → IsWrittenKind k → HasAtoms (kind_tree k)
kind_atoms kinds.Int w = ((λ e. absurd (cc)), refl)
kind_atoms kinds.Text w = ((λ e. absurd (cc)), refl)
kind_atoms kinds.Bool w = ((λ e. absurd (cc)), refl)
kind_atoms (kinds.Ref m) w = (ref_word, (atom_of_name m w, tt))

fields_atoms : (fs : List Field) → All IsWrittenField fs → HaveAtoms (field_trees fs)
fields_atoms [] w = tt
fields_atoms (f ∷ fs) w =
    let one = All-head IsWrittenField f fs w in
    ((atom_of_name f.name one.0, (kind_atoms f.kind one.1, tt)), fields_atoms fs (All-tail IsWrittenField f fs w))

guards_atoms : (gs : List Assigned) → All IsWrittenAssigned gs → HaveAtoms (guard_trees gs)
guards_atoms [] w = tt
guards_atoms (g ∷ gs) w = (atom_of_name g.field (All-head IsWrittenAssigned g gs w).0, guards_atoms gs (All-tail IsWrittenAssigned g gs w))

hiding_atoms : (hides : Bool) (gs : List Assigned) → All IsWrittenAssigned gs
    → HasAtoms (if hides then PlainTree.atom (codes "hides") else PlainTree.list (guard_trees gs))
hiding_atoms true gs w = hides_word
hiding_atoms false gs w = guards_atoms gs w

groups_atoms : (gs : List FieldGroup) → All IsWrittenGroup gs → HaveAtoms (group_trees gs)
groups_atoms [] w = tt
groups_atoms (g ∷ gs) w = (hiding_atoms g.hides g.guards (All-head IsWrittenGroup g gs w).guards, groups_atoms gs (All-tail IsWrittenGroup g gs w))

nested_atoms : (nested : Bool) (ts : PlainTrees) → HaveAtoms ts → HaveAtoms (nested_atom_before nested ts)
nested_atoms true ts h = (nested_word, h)
nested_atoms false ts h = h

models_atoms : (ms : List Entity) → All IsWrittenModel ms → HaveAtoms (model_trees ms)
models_atoms [] w = tt
models_atoms (m ∷ ms) w =
    let one = All-head IsWrittenModel m ms w in
    let lists : HaveAtoms (list_trees m) = ((fields_word, fields_atoms m.fields one.fields), ((groups_word, groups_atoms m.groups one.groups), tt)) in
    ((model_word, (atom_of_name m.name one.name, nested_atoms m.nested (list_trees m) lists)), models_atoms ms (All-tail IsWrittenModel m ms w))

-- The nesting depth of the schema.
kind_shallow : (k : KindName) → nesting (kind_tree k) ≤ 1
kind_shallow kinds.Int = omega arith
kind_shallow kinds.Text = omega arith
kind_shallow kinds.Bool = omega arith
kind_shallow (kinds.Ref m) = omega arith

max_most : (a b n : ℕ) → a ≤ n → b ≤ n → max a b ≤ n
max_most a b n h k = omega (arith, h, k)

fields_shallow : (fs : List Field) → nesting_all (field_trees fs) ≤ 2
fields_shallow [] = omega arith
fields_shallow (f ∷ fs) =
    max_most _ _ 2 (omega (arith, max_most 0 _ 1 (omega arith) (max_most _ 0 1 (kind_shallow f.kind) (omega arith)))) (fields_shallow fs)

guards_shallow : (gs : List Assigned) → nesting_all (guard_trees gs) ≤ 0
guards_shallow [] = omega arith
guards_shallow (g ∷ gs) = max_most 0 _ 0 (omega arith) (guards_shallow gs)

hiding_shallow : (hides : Bool) (gs : List Assigned)
    → nesting (if hides then PlainTree.atom (codes "hides") else PlainTree.list (guard_trees gs)) ≤ 1
hiding_shallow true gs = omega arith
hiding_shallow false gs = omega (arith, guards_shallow gs)

groups_shallow : (gs : List FieldGroup) → nesting_all (group_trees gs) ≤ 1
groups_shallow [] = omega arith
groups_shallow (g ∷ gs) = max_most _ _ 1 (hiding_shallow g.hides g.guards) (groups_shallow gs)

nested_shallow : (nested : Bool) (ts : PlainTrees) (n : ℕ) → nesting_all ts ≤ n → nesting_all (nested_atom_before nested ts) ≤ n
nested_shallow true ts n h = max_most 0 _ n (omega arith) h
nested_shallow false ts n h = h

fields_tree_shallow : (fs : List Field) → nesting (fields_tree fs) ≤ 3
fields_tree_shallow fs = omega (arith, max_most 0 _ 2 (omega arith) (fields_shallow fs))

groups_tree_shallow : (gs : List FieldGroup) → nesting (groups_tree gs) ≤ 3
groups_tree_shallow gs = omega (arith, max_most 0 _ 1 (omega arith) (groups_shallow gs))

model_shallow : (m : Entity) → nesting (model_tree m) ≤ 4
model_shallow m =
    omega (
      arith,
      max_most 0 _ 3 (omega arith) (max_most 0 _ 3 (omega arith) (nested_shallow m.nested (list_trees m) 3
          (max_most _ _ 3 (fields_tree_shallow m.fields) (max_most _ 0 3 (groups_tree_shallow m.groups) (omega arith))))),
    )

models_shallow : (ms : List Entity) → nesting_all (model_trees ms) ≤ 4
models_shallow [] = omega arith
models_shallow (m ∷ ms) = max_most _ _ 4 (model_shallow m) (models_shallow ms)

schema_shallow : (ms : List Entity) → nesting (schema_tree ms) ≤ 64
schema_shallow ms = omega (arith, max_most 0 _ 4 (omega arith) (models_shallow ms))

-- The place of a model among the trees is its place among the models.
place_step : (b : Bool) (k n l : ℕ) (rest : Option ℕ) → rest ≡ cond (nat_lt n l) (Some (k + 1 + n)) None
    → (if b then Some k else rest) ≡ cond (nat_lt (cond (not b) (1 + n) 0) (suc l)) (Some (k + cond (not b) (1 + n) 0)) None
place_step true k n l rest same = found (nat_lt 0 (suc l)) (grind (nat_tests, arith))
  where
    found : (c : Bool) → c ≡ true → Some k ≡ cond c (Some (k + 0)) None
    found true h = ap (λ (i : ℕ). Some i) (omega arith)
    found false h = cc
place_step false k n l rest same =
    let later : nat_lt (1 + n) (suc l) ≡ nat_lt n l = grind (nat_tests, arith) in
    let place : k + 1 + n ≡ k + (1 + n) = omega arith in
    same ∙ ap (λ (i : ℕ). cond (nat_lt n l) (Some i) None) place ∙ ap (λ (c : Bool). cond c (Some (k + (1 + n))) None) (sym later)

places : (k : ℕ) (name : List ℕ) (ms : List Entity)
    → place_from k name (model_trees ms) ≡ (let n = position_or_len (λ (m : Entity). same_text m.name name) ms in cond (nat_lt n (length ms)) (Some (k + n)) None)
places k name [] = refl
places k name (m ∷ ms) =
    place_step (same_text m.name name) k (position_or_len (λ (m : Entity). same_text m.name name) ms) (length ms) _ (places (k + 1) name ms)

place_known : (ms : List Entity) (name : List ℕ) → place_from 0 name (model_trees ms) ≡ model_place ms name
place_known ms name = places 0 name ms ∙ ap (λ (i : ℕ). cond (nat_lt (position_or_len (λ (m : Entity). same_text m.name name) ms) (length ms)) (Some i) None) (omega arith)

known : (o : Option ℕ) (d : ℕ) → is_some o ≡ true → option_map kind.Ref o ≡ Some (kind.Ref (unwrap_or o d))
known None d h = cc
known (Some p) d h = refl

-- What the parts of the schema are read as.
kind_read : (models : List Entity) (k : KindName) → is_kind models k ≡ true → kind_of_tree (model_trees models) (kind_tree k) ≡ Some (kind_named models k)
kind_read models kinds.Int h = refl
kind_read models kinds.Text h = refl
kind_read models kinds.Bool h = refl
kind_read models (kinds.Ref m) h =
    ap (λ (o : Option ℕ). option_map kind.Ref o) (place_known models m) ∙ known (model_place models m) (length models) h

if_true : {A : Type 0} (b : Bool) (x y : A) → b ≡ true → (if b then x else y) ≡ x
if_true true x y h = refl
if_true false x y h = cc

field_read : (models : List Entity) (f : Field) → IsWrittenField f → is_kind models f.kind ≡ true
    → kind_of_field (model_trees models) (field_tree f) ≡ Some (kind_named models f.kind)
field_read models f w h = if_true (is_name f.name) _ None w.0 ∙ kind_read models f.kind h

each_more : {A : Type 0} (o : Option A) (x : A) (os : Option (List A)) (xs : List A) → o ≡ Some x → os ≡ Some xs
    → option_and_then (λ first. option_map (λ rest. first ∷ rest) os) o ≡ Some (x ∷ xs)
each_more o x os xs h k = rw (h, k) refl

fields_read : (models : List Entity) (earlier fs : List Field) → All IsWrittenField fs → are_fields models earlier fs ≡ true
    → each_of (kind_of_field (model_trees models)) (field_trees fs) ≡ Some (kinds_of_fields models fs)
fields_read models earlier [] w h = refl
fields_read models earlier (f ∷ fs) w h =
    let parts = and_parts _ (are_fields models (earlier ++ f ∷ []) fs) h in
    each_more _ (kind_named models f.kind) _ (kinds_of_fields models fs) (field_read models f (All-head IsWrittenField f fs w) (and_parts _ _ parts.0).1)
    (fields_read models (earlier ++ f ∷ []) fs (All-tail IsWrittenField f fs w) parts.1)

guards_read : (gs : List Assigned) → All IsWrittenAssigned gs → schema.are_name_trees (guard_trees gs) ≡ true
guards_read [] w = refl
guards_read (g ∷ gs) w = and_from (is_name g.field) _ (All-head IsWrittenAssigned g gs w).0 (guards_read gs (All-tail IsWrittenAssigned g gs w))

hiding_read : (hides : Bool) (gs : List Assigned) → All IsWrittenAssigned gs
    → schema.is_group (if hides then PlainTree.atom (codes "hides") else PlainTree.list (guard_trees gs)) ≡ true
hiding_read true gs w = refl
hiding_read false gs w = guards_read gs w

groups_read : (gs : List FieldGroup) → All IsWrittenGroup gs → schema.are_group_trees (group_trees gs) ≡ true
groups_read [] w = refl
groups_read (g ∷ gs) w = and_from _ _ (hiding_read g.hides g.guards (All-head IsWrittenGroup g gs w).guards) (groups_read gs (All-tail IsWrittenGroup g gs w))

behind_it : (nested : Bool) (m : Entity) → behind_nested (nested_atom_before nested (list_trees m)) ≡ list_trees m
behind_it true m = refl
behind_it false m = refl

lists_read : (models : List Entity) (m : Entity) → IsWrittenModel m → are_fields models [] m.fields ≡ true
    → kinds_of_lists (model_trees models) (list_trees m) ≡ Some (kinds_of_fields models m.fields)
lists_read models m w h = if_true _ _ None (groups_read m.groups w.groups) ∙ fields_read models [] m.fields w.fields h

model_read : (models : List Entity) (m : Entity) → IsWrittenModel m → are_fields models [] m.fields ≡ true
    → kinds_of_model (model_trees models) (model_tree m) ≡ Some (kinds_of_fields models m.fields)
model_read models m w h =
    if_true (is_name m.name) _ None w.name
    ∙ (ap (λ (ts : PlainTrees). kinds_of_lists (model_trees models) ts) (behind_it m.nested m) ∙ lists_read models m w h)

-- The kinds of the models' fields. Below, which models are nested.
abbrev kinds_of_all : List Entity → List Entity → List (List Kind)
kinds_of_all models [] = []
kinds_of_all models (m ∷ ms) = kinds_of_fields models m.fields ∷ kinds_of_all models ms

abbrev nested_of_all : List Entity → List Bool
nested_of_all [] = []
nested_of_all (m ∷ ms) = m.nested ∷ nested_of_all ms

models_read : (app : Application) (earlier ms : List Entity) → All IsWrittenModel ms → are_models app earlier ms ≡ true
    → each_of (kinds_of_model (model_trees app.models)) (model_trees ms) ≡ Some (kinds_of_all app.models ms)
models_read app earlier [] w h = refl
models_read app earlier (m ∷ ms) w h =
    let parts = and_parts _ (are_models app (earlier ++ m ∷ []) ms) h in
    let inside = and_parts _ _ parts.0 in
    each_more _ (kinds_of_fields app.models m.fields) _ (kinds_of_all app.models ms)
    (model_read app.models m (All-head IsWrittenModel m ms w) (and_parts _ (are_groups app m [] m.groups) inside.1).0)
    (models_read app (earlier ++ m ∷ []) ms (All-tail IsWrittenModel m ms w) parts.1)

starts_so : (nested : Bool) (m : Entity) → starts_nested (nested_atom_before nested (list_trees m)) ≡ nested
starts_so true m = refl
starts_so false m = refl

nested_read : (ms : List Entity) → nested_of_models (model_trees ms) ≡ nested_of_all ms
nested_read [] = refl
nested_read (m ∷ ms) = rw (starts_so m.nested m, nested_read ms) refl

shapes_read : (models ms : List Entity) → shapes_by (kinds_of_all models ms) (nested_of_all ms) ≡ shapes_of_models models ms
shapes_read models [] = refl
shapes_read models (m ∷ ms) = rw (shapes_read models ms) refl

-- The kinds and the nested models that were read give the shapes of the models.
shapes_seen : (kinds : Option (List (List Kind))) (nested : List Bool) (models : List Entity) → kinds ≡ Some (kinds_of_all models models) → nested ≡ nested_of_all models
    → option_map (λ ks. shapes_by ks nested) kinds ≡ Some (shapes_of_models models models)
shapes_seen kinds nested models h k = rw (h, k, shapes_read models models) refl

counted : (ms : List Entity) → count (model_trees ms) ≡ length ms
counted [] = refl
counted (m ∷ ms) = let rest = counted ms in omega (arith, rest)

few : (ms : List Entity) → length ms ≤ 64 → nat_le (count (model_trees ms)) 64 ≡ true
few ms h = let n = counted ms in grind (nat_tests, arith, n, h)

pub well_schema : (app : Application) → IsTrue (is_well app) → length app.models ≤ 64 → All IsWrittenModel app.models → IsSchema (printed_tree (schema_tree app.models)) (shapes_of app)
well_schema app well few_models written =
    let models : are_models app [] app.models ≡ true = (and_parts _ _ (and_parts (is_viewer app.models app.viewer) _ well).1).0 in
    record {
      tree = schema_tree app.models;
      atoms = (schema_word, models_atoms app.models written);
      shallow = schema_shallow app.models;
      spelled = refl;
      read = shapes_seen _ _ app.models (if_true _ _ None (few app.models few_models) ∙ models_read app [] app.models written models) (nested_read app.models);
    }
