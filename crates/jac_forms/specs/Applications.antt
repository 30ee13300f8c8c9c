-- How trees represent applications.
use Rattle.std.specs.Prelude.{ℕ, ◌+◌, Bool, true, false, nat_le, if◌then◌else◌, Option, Some, None, List, [], ◌∷◌, codes}
use Rattle.std.specs.Str.{bytes_eq}
use Rattle.jac_lang.specs.Syntax.{Expression, Assigned, FieldGroup, Entity, Page, Application}
use Rattle.jac_lang.specs.declared.field_kinds.Field.{Field}
use Rattle.jac_lang.specs.declared.field_kinds.KindName.{KindName}
use Rattle.jac_lang.specs.declared.field_kinds.KindName.TheVariants as kinds
use Rattle.jac_lang.specs.declared.pages.Verb.{Verb}
use Rattle.jac_lang.specs.declared.pages.Verb.TheVariants as verbs
use Rattle.jac_tree.specs.Plain.{PlainTree, PlainTrees, count, is_word, tail_of}
use Rattle.jac_value.specs.Paths.{is_path}
use Rattle.jac_forms.specs.Places.{child}
use Rattle.jac_forms.specs.Reads.{Read, got, wrong, many, read_map, read_and_then, up_to, got_where, read_behind, value_of}
use Rattle.jac_forms.specs.Names.{name_in_tree, each_in_trees}
use Rattle.jac_forms.specs.Expressions.{one_in_trees}
use Rattle.jac_forms.specs.Statements.{Body, assigned_in_tree, statements_in_trees, creates}
use Rattle.jac_forms.specs.declared.fault.Want.{Want}
use Rattle.jac_forms.specs.declared.fault.Want.TheVariants as wants
use Rattle.jac_forms.specs.declared.fault.What.TheVariants as whats

-- `int`, `text` or `bool`.
abbrev pub plain_kind_of : List ℕ → Option KindName
plain_kind_of a =
    if bytes_eq a (codes "int") then Some kinds.Int else
    if bytes_eq a (codes "text") then Some kinds.Text else
    if bytes_eq a (codes "bool") then Some kinds.Bool else None

-- One name. Anything else is a fault with `want`.
abbrev pub one_name_in_trees : Want → List ℕ → PlainTrees → Read (List ℕ)
one_name_in_trees want at (PlainTrees.more t PlainTrees.none) = name_in_tree (child at 1) t
one_name_in_trees want at ts = wrong want at

-- A kind: one of these words, or `(ref NAME)`.
abbrev pub kind_in_tree : List ℕ → PlainTree → Read KindName
kind_in_tree at (PlainTree.atom a) = got_where wants.Kind at (plain_kind_of a)
kind_in_tree at t = read_map kinds.Ref (read_behind wants.Kind at (one_name_in_trees wants.Kind at)
    (tail_of (codes "ref") t))

abbrev pub field : List ℕ → KindName → Field
field name kind = record { name = name; kind = kind }

-- `(NAME kind)`. Anything else is a fault with `want`.
abbrev pub field_in_tree : Want → List ℕ → PlainTree → Read Field
field_in_tree want at (PlainTree.list (PlainTrees.more x (PlainTrees.more k PlainTrees.none))) =
    read_and_then (λ name. read_map (field name) (kind_in_tree (child at 1) k))
    (name_in_tree (child at 0) x)
field_in_tree want at t = wrong want at

-- `(fields field ..)`, at most 32.
abbrev pub few_fields : List ℕ → PlainTrees → Read (List Field)
few_fields at ts = up_to whats.Fields at 32 (count ts) (each_in_trees (field_in_tree wants.Field) at
    1 ts)

abbrev pub fields_in_tree : List ℕ → PlainTree → Read (List Field)
fields_in_tree at t = read_behind wants.Fields at (few_fields at) (tail_of (codes "fields") t)

-- `(params field ..)`.
abbrev pub params_in_tree : List ℕ → PlainTree → Read (List Field)
params_in_tree at t = read_behind wants.Params at (each_in_trees (field_in_tree wants.Param) at 1)
    (tail_of (codes "params") t)

-- One or more guards.
abbrev pub some_guards : List ℕ → PlainTrees → Read (List Assigned)
some_guards at ts = if nat_le (count ts) 0 then wrong wants.Guard at
    else each_in_trees (assigned_in_tree wants.Guard) at 1 ts

-- `(guards (NAME expression)+)`.
abbrev pub guards_in_tree : List ℕ → PlainTree → Read (List Assigned)
guards_in_tree at t = read_behind wants.Guard at (some_guards at) (tail_of (codes "guards") t)

-- `(policy expression)`.
abbrev pub policy_in_tree : List ℕ → PlainTree → Read Expression
policy_in_tree at t = read_behind wants.Policy at (one_in_trees wants.Policy at)
    (tail_of (codes "policy") t)

-- What a group guards: fields, each with its public value, or the whole record.
pub record Guarding : Type 0 where
  pub guards : List Assigned
  pub hides : Bool

abbrev pub guarding : Bool → List Assigned → Guarding
guarding hides guards = record { guards = guards; hides = hides }

-- `hides`, or `(guards (NAME expression)+)`.
abbrev pub guarding_in_tree : List ℕ → PlainTree → Read Guarding
guarding_in_tree at t =
    if is_word (codes "hides") t then got (guarding true []) else read_map (guarding false)
    (guards_in_tree at t)

abbrev pub group : Guarding → Expression → FieldGroup
group g policy = record { guards = g.guards; hides = g.hides; policy = policy }

-- `(group hides policy)` or `(group guards policy)`.
abbrev pub group_in_trees : List ℕ → PlainTrees → Read FieldGroup
group_in_trees at (PlainTrees.more gs (PlainTrees.more p PlainTrees.none)) =
    read_and_then (λ g. read_map (group g) (policy_in_tree (child at 2) p))
    (guarding_in_tree (child at 1) gs)
group_in_trees at ts = wrong wants.Group at

abbrev pub group_in_tree : List ℕ → PlainTree → Read FieldGroup
group_in_tree at t = read_behind wants.Group at (group_in_trees at) (tail_of (codes "group") t)

abbrev pub entity : List ℕ → Bool → List Field → List FieldGroup → Entity
entity name nested fields groups = record {
  name = name;
  nested = nested;
  fields = fields;
  groups = groups;
}

-- A model. Child `k` is the list of its fields, and its groups follow, at most 8.
abbrev pub entity_behind : List ℕ → Bool → ℕ → PlainTree → PlainTrees → Read Entity
entity_behind at nested k x (PlainTrees.more fs gs) =
    up_to whats.Groups at 8 (count gs)
    (read_and_then (λ name. read_and_then (λ fields. read_map (entity name nested fields)
    (each_in_trees group_in_tree at (k + 1) gs)) (fields_in_tree (child at k) fs))
    (name_in_tree (child at 1) x))
entity_behind at nested k x PlainTrees.none = wrong wants.Item at

-- `(model NAME fields group ..)` or `(model NAME nested fields group ..)`.
abbrev pub entity_in_trees : List ℕ → PlainTrees → Read Entity
entity_in_trees at (PlainTrees.more x (PlainTrees.more n ts)) =
    if is_word (codes "nested") n then entity_behind at true 3 x ts else entity_behind at false 2 x
    (PlainTrees.more n ts)
entity_in_trees at ts = wrong wants.Item at

abbrev pub entity_in_tree : List ℕ → PlainTree → Read Entity
entity_in_tree at t = read_behind wants.Item at (entity_in_trees at) (tail_of (codes "model") t)

-- `get` or `post`.
abbrev pub method_in_tree : List ℕ → PlainTree → Read Verb
method_in_tree at t = if is_word (codes "get") t then got verbs.Get else if is_word (codes "post") t
    then got verbs.Post else wrong wants.Method at

-- A text that is a path.
abbrev pub path_in_tree : List ℕ → PlainTree → Read (List ℕ)
path_in_tree at (PlainTree.text x) = if is_path x then got x else wrong wants.Path at
path_in_tree at t = wrong wants.Path at

-- A view with at most 64 sites.
abbrev pub page_form : List ℕ → Verb → List ℕ → List Field → Body → Read Page
page_form at method path params body =
    if nat_le body.next 64 then got (record {
      method = method;
      path = path;
      params = params;
      body = body.statements;
    }) else many whats.Sites at (creates body.statements)

-- `(view method "path" params statement ..)`.
abbrev pub page_in_trees : List ℕ → PlainTrees → Read Page
page_in_trees at (PlainTrees.more m (PlainTrees.more p (PlainTrees.more ps ss))) =
    read_and_then (λ method. read_and_then
    (λ path. read_and_then (λ params. read_and_then (page_form at method path params)
    (statements_in_trees at 4 ss 0)) (params_in_tree (child at 3) ps))
    (path_in_tree (child at 2) p)) (method_in_tree (child at 1) m)
page_in_trees at ts = wrong wants.Item at

abbrev pub page_in_tree : List ℕ → PlainTree → Read Page
page_in_tree at t = read_behind wants.Item at (page_in_trees at) (tail_of (codes "view") t)

-- Whether the tree is a list with this word as its head.
abbrev pub is_headed : List ℕ → PlainTree → Bool
is_headed word (PlainTree.list (PlainTrees.more w ts)) = is_word word w
is_headed word t = false

-- The number of trees that are such lists.
abbrev pub headed_count : List ℕ → PlainTrees → ℕ
headed_count word PlainTrees.none = 0
headed_count word (PlainTrees.more t ts) = if is_headed word t then headed_count word ts + 1
    else headed_count word ts

-- The models and views of an application.
pub record Items : Type 0 where
  pub models : List Entity
  pub views : List Page

abbrev pub items : List Entity → List Page → Items
items models views = record { models = models; views = views }

abbrev pub after_model : Entity → Items → Items
after_model m is = items (m ∷ is.models) is.views

-- Models and then views. The first tree is child `k`.
abbrev pub items_in_trees : List ℕ → ℕ → PlainTrees → Read Items
items_in_trees at k PlainTrees.none = got (items [] [])
items_in_trees at k (PlainTrees.more t ts) =
    if is_headed (codes "model") t
    then read_and_then (λ m. read_map (after_model m) (items_in_trees at (k + 1) ts))
    (entity_in_tree (child at k) t)
    else read_map (items []) (each_in_trees page_in_tree at k (PlainTrees.more t ts))

abbrev pub application : Option (List ℕ) → Items → Application
application viewer is = record { viewer = viewer; models = is.models; views = is.views }

-- `(viewer NAME)`.
abbrev pub viewer_in_tree : List ℕ → PlainTree → Read (List ℕ)
viewer_in_tree at t = read_behind wants.Item at (one_name_in_trees wants.Item at)
    (tail_of (codes "viewer") t)

abbrev pub with_viewer : List ℕ → PlainTrees → List ℕ → Read Application
with_viewer at ts name = read_map (application (Some name)) (items_in_trees at 2 ts)

-- The viewer's model, if it is named, and the items.
abbrev pub application_of_items : List ℕ → PlainTrees → Read Application
application_of_items at PlainTrees.none = read_map (application None)
    (items_in_trees at 1 PlainTrees.none)
application_of_items at (PlainTrees.more t ts) =
    if is_headed (codes "viewer") t
    then read_and_then (with_viewer at ts) (viewer_in_tree (child at 1) t)
    else read_map (application None) (items_in_trees at 1 (PlainTrees.more t ts))

-- At most 64 models.
abbrev pub application_in_trees : List ℕ → PlainTrees → Read Application
application_in_trees at ts = up_to whats.Models at 64 (headed_count (codes "model") ts)
    (application_of_items at ts)

-- `(app (viewer NAME)? model .. view ..)`.
abbrev pub application_in_tree : List ℕ → PlainTree → Read Application
application_in_tree at t = read_behind wants.App at (application_in_trees at) (tail_of
    (codes "app") t)

-- The application that a tree represents.
abbrev pub application_of_tree : PlainTree → Option Application
application_of_tree t = value_of (application_in_tree [] t)
