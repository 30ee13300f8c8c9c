-- The schema of a store: the text that names its models and fields.
use Rattle.std.specs.Prelude.{◌≡◌, ◌≤◌, ℕ, zero, suc, ◌+◌, Bool, true, false, nat_le, ◌&&◌, if◌then◌else◌, List, [], ◌∷◌, Option, Some, None, length, codes}
use Rattle.std.specs.Option.{option_map, option_and_then}
use Rattle.std.specs.Str.{bytes_eq}
use Rattle.jac_value.specs.Names.{is_name}
use Rattle.jac_value.specs.declared.value.Kind.{Kind}
use Rattle.jac_value.specs.declared.value.Kind.TheVariants as kinds
use Rattle.jac_rows.specs.declared.row.Row.{Row}
use Rattle.jac_rows.specs.declared.state.State.{State}
use Rattle.jac_rows.specs.Good.{ModelShape, IsGoodByGuards}
use Rattle.jac_tree.specs.Plain.{PlainTree, PlainTrees, nesting, count, is_word, tail_of}
use Rattle.jac_tree.specs.Printed.{printed_tree, HasAtoms}

-- What each tree is read as, if all can be read.
abbrev pub each_of : {A : Type 0} → (PlainTree → Option A) → PlainTrees → Option (List A)
each_of read PlainTrees.none = Some []
each_of read (PlainTrees.more t ts) = option_and_then (λ first. option_map (λ rest. first ∷ rest)
    (each_of read ts)) (read t)

-- A name: `NAME`.
abbrev pub is_name_tree : PlainTree → Bool
is_name_tree (PlainTree.atom a) = is_name a
is_name_tree (PlainTree.text x) = false
is_name_tree (PlainTree.list ts) = false

abbrev pub are_name_trees : PlainTrees → Bool
are_name_trees PlainTrees.none = true
are_name_trees (PlainTrees.more t ts) = is_name_tree t && are_name_trees ts

-- Whether the parts of a model, after the word `model`, begin with this name.
abbrev pub begins_with_name : List ℕ → Option PlainTrees → Bool
begins_with_name name None = false
begins_with_name name (Some PlainTrees.none) = false
begins_with_name name (Some (PlainTrees.more x parts)) = is_word name x

-- The place of the first model of this name. The first of these trees has the place k.
abbrev pub place_from : ℕ → List ℕ → PlainTrees → Option ℕ
place_from k name PlainTrees.none = None
place_from k name (PlainTrees.more t ts) = if begins_with_name name (tail_of (codes "model") t)
    then Some k else place_from (k + 1) name ts

-- The place of the model that the tree names, if there is one.
abbrev pub place_named : PlainTrees → PlainTree → Option ℕ
place_named models (PlainTree.atom a) = place_from 0 a models
place_named models (PlainTree.text x) = None
place_named models (PlainTree.list ts) = None

-- `int`, `text` or `bool`.
abbrev pub plain_kind : List ℕ → Option Kind
plain_kind a =
    if bytes_eq a (codes "int") then Some kinds.Int else
    if bytes_eq a (codes "text") then Some kinds.Text else
    if bytes_eq a (codes "bool") then Some kinds.Bool else None

-- A reference: the tree after `ref` is the name of a model, and there is no other.
abbrev pub reference_kind : PlainTrees → PlainTrees → Option Kind
reference_kind models (PlainTrees.more x PlainTrees.none) = option_map kinds.Ref
    (place_named models x)
reference_kind models ts = None

-- A kind: `int`, `text`, `bool`, or `(ref NAME)`, which becomes the place of the first model of
-- this name.
abbrev pub kind_of_tree : PlainTrees → PlainTree → Option Kind
kind_of_tree models (PlainTree.atom a) = plain_kind a
kind_of_tree models t = option_and_then (reference_kind models) (tail_of (codes "ref") t)

-- The kind of a field: `(NAME KIND)`.
abbrev pub kind_of_field : PlainTrees → PlainTree → Option Kind
kind_of_field models (PlainTree.list (PlainTrees.more x (PlainTrees.more k PlainTrees.none))) =
    if is_name_tree x then kind_of_tree models k else None
kind_of_field models t = None

-- The kinds of the fields: `(fields (NAME KIND) ..)`.
abbrev pub kinds_of_trees : PlainTrees → PlainTree → Option (List Kind)
kinds_of_trees models t = option_and_then (each_of (kind_of_field models))
    (tail_of (codes "fields") t)

-- A group: `hides`, or `(FIELD ..)`, the fields that it guards.
abbrev pub is_group : PlainTree → Bool
is_group (PlainTree.atom a) = bytes_eq a (codes "hides")
is_group (PlainTree.text x) = false
is_group (PlainTree.list names) = are_name_trees names

abbrev pub are_group_trees : PlainTrees → Bool
are_group_trees PlainTrees.none = true
are_group_trees (PlainTrees.more t ts) = is_group t && are_group_trees ts

-- Groups: `(groups GROUP ..)`. The argument is the trees after `groups`, if the tree begins with
-- it.
abbrev pub have_groups : Option PlainTrees → Bool
have_groups None = false
have_groups (Some ts) = are_group_trees ts

-- Whether the first tree is the atom `nested`.
abbrev pub starts_nested : PlainTrees → Bool
starts_nested PlainTrees.none = false
starts_nested (PlainTrees.more n ts) = is_word (codes "nested") n

-- The trees, without a first atom `nested`.
abbrev pub behind_nested : PlainTrees → PlainTrees
behind_nested PlainTrees.none = PlainTrees.none
behind_nested (PlainTrees.more n ts) = if is_word (codes "nested") n then ts
    else PlainTrees.more n ts

-- The kinds of `(fields ..) (groups ..)`.
abbrev pub kinds_of_lists : PlainTrees → PlainTrees → Option (List Kind)
kinds_of_lists models (PlainTrees.more fields (PlainTrees.more groups PlainTrees.none)) =
    if have_groups (tail_of (codes "groups") groups) then kinds_of_trees models fields
    else None
kinds_of_lists models ts = None

-- The kinds of `NAME nested? (fields ..) (groups ..)`.
abbrev pub kinds_of_parts : PlainTrees → PlainTrees → Option (List Kind)
kinds_of_parts models PlainTrees.none = None
kinds_of_parts models (PlainTrees.more x ts) = if is_name_tree x
    then kinds_of_lists models (behind_nested ts) else None

-- Whether the parts of a model, after the word `model`, have the atom `nested` after the name.
abbrev pub is_nested_in : Option PlainTrees → Bool
is_nested_in None = false
is_nested_in (Some PlainTrees.none) = false
is_nested_in (Some (PlainTrees.more x ts)) = starts_nested ts

abbrev pub nested_of_models : PlainTrees → List Bool
nested_of_models PlainTrees.none = []
nested_of_models (PlainTrees.more t ts) = is_nested_in (tail_of (codes "model") t)
    ∷ nested_of_models
    ts

-- The kinds of `(model NAME nested? (fields ..) (groups ..))`.
abbrev pub kinds_of_model : PlainTrees → PlainTree → Option (List Kind)
kinds_of_model models t = option_and_then (kinds_of_parts models) (tail_of (codes "model") t)

-- The kinds of each model, if there are at most 64 models.
abbrev pub kinds_of_models : PlainTrees → Option (List (List Kind))
kinds_of_models models = if nat_le (count models) 64 then each_of (kinds_of_model models) models
    else None

-- The kinds of each model of `(schema MODEL ..)`. A MODEL is as in `kinds_of_model`.
abbrev pub kinds_of_schema : PlainTree → Option (List (List Kind))
kinds_of_schema t = option_and_then kinds_of_models (tail_of (codes "schema") t)

-- For each model, whether it is nested.
abbrev pub nested_by : Option PlainTrees → List Bool
nested_by None = []
nested_by (Some models) = nested_of_models models

abbrev pub nested_of_schema : PlainTree → List Bool
nested_of_schema t = nested_by (tail_of (codes "schema") t)

-- The shape of each model: its kinds, and whether it is nested.
abbrev pub shapes_by : List (List Kind) → List Bool → List ModelShape
shapes_by [] nested = []
shapes_by (ks ∷ kinds) [] = record { kinds = ks; nested = false } ∷ shapes_by kinds []
shapes_by (ks ∷ kinds) (n ∷ nested) = record { kinds = ks; nested = n } ∷ shapes_by kinds nested

abbrev pub shapes_of_schema : PlainTree → Option (List ModelShape)
shapes_of_schema t = option_map (λ kinds. shapes_by kinds (nested_of_schema t)) (kinds_of_schema t)

-- The text is a schema, and these are the shapes of its models. The text is the printed form of a
-- tree with a nesting of at most 64.
pub record IsSchema (text : List ℕ) (shapes : List ModelShape) : Type 0 where
  pub tree : PlainTree
  pub atoms : HasAtoms tree
  pub shallow : nesting tree ≤ 64
  pub spelled : text ≡ printed_tree tree
  pub read : shapes_of_schema tree ≡ Some shapes

-- This many empty tables.
abbrev pub empties : ℕ → List (List Row)
empties zero = []
empties (suc n) = [] ∷ empties n

-- The state has a table for each of these models and no others, and is good by its guards.
pub record IsFit (shapes : List ModelShape) (s : State) : Type 0 where
  pub good : IsGoodByGuards shapes s
  pub tables : length s.tables ≡ length shapes
