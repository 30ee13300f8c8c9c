-- The schema of an application, as a tree: its models, their fields, and which groups guard them.
use Rattle.std.specs.Prelude.{ℕ, Bool, true, false, if◌then◌else◌, List, [], ◌∷◌, codes}
use Rattle.jac_lang.specs.declared.field_kinds.Field.{Field}
use Rattle.jac_lang.specs.declared.field_kinds.KindName.{KindName}
use Rattle.jac_lang.specs.declared.field_kinds.KindName.TheVariants as kinds
use Rattle.jac_lang.specs.Syntax.{Assigned, FieldGroup, Entity}
use Rattle.jac_tree.specs.Plain.{PlainTree, PlainTrees}

-- `(WORD ..)`.
abbrev pub headed_list : List ℕ → PlainTrees → PlainTree
headed_list word ts = PlainTree.list (PlainTrees.more (PlainTree.atom word) ts)

-- `int`, `text`, `bool` or `(ref NAME)`.
abbrev pub kind_tree : KindName → PlainTree
kind_tree kinds.Int = PlainTree.atom (codes "int")
kind_tree kinds.Text = PlainTree.atom (codes "text")
kind_tree kinds.Bool = PlainTree.atom (codes "bool")
kind_tree (kinds.Ref model) = headed_list (codes "ref") (PlainTrees.more (PlainTree.atom model)
    PlainTrees.none)

-- `(NAME KIND)`.
abbrev pub field_tree : Field → PlainTree
field_tree f = headed_list f.name (PlainTrees.more (kind_tree f.kind) PlainTrees.none)

abbrev pub field_trees : List Field → PlainTrees
field_trees [] = PlainTrees.none
field_trees (f ∷ fields) = PlainTrees.more (field_tree f) (field_trees fields)

-- The fields that a group guards.
abbrev pub guard_trees : List Assigned → PlainTrees
guard_trees [] = PlainTrees.none
guard_trees (g ∷ guards) = PlainTrees.more (PlainTree.atom g.field) (guard_trees guards)

-- `hides`, or the list of the fields that the group guards.
abbrev pub group_tree : FieldGroup → PlainTree
group_tree g = if g.hides then PlainTree.atom (codes "hides")
    else PlainTree.list (guard_trees g.guards)

abbrev pub group_trees : List FieldGroup → PlainTrees
group_trees [] = PlainTrees.none
group_trees (g ∷ groups) = PlainTrees.more (group_tree g) (group_trees groups)

-- `(fields (NAME KIND) ..)`.
abbrev pub fields_tree : List Field → PlainTree
fields_tree fields = headed_list (codes "fields") (field_trees fields)

-- `(groups GROUP ..)`.
abbrev pub groups_tree : List FieldGroup → PlainTree
groups_tree groups = headed_list (codes "groups") (group_trees groups)

-- The atom `nested`, if the model is nested, before the other trees.
abbrev pub nested_atom_before : Bool → PlainTrees → PlainTrees
nested_atom_before true ts = PlainTrees.more (PlainTree.atom (codes "nested")) ts
nested_atom_before false ts = ts

-- `(fields ..) (groups ..)`.
abbrev pub list_trees : Entity → PlainTrees
list_trees m = PlainTrees.more (fields_tree m.fields) (PlainTrees.more (groups_tree m.groups)
    PlainTrees.none)

-- `(model NAME nested? (fields ..) (groups ..))`.
abbrev pub model_tree : Entity → PlainTree
model_tree m = headed_list (codes "model") (PlainTrees.more (PlainTree.atom m.name)
    (nested_atom_before m.nested (list_trees m)))

abbrev pub model_trees : List Entity → PlainTrees
model_trees [] = PlainTrees.none
model_trees (m ∷ models) = PlainTrees.more (model_tree m) (model_trees models)

-- `(schema (model NAME nested? (fields (NAME KIND) ..) (groups GROUP ..)) ..)`.
abbrev pub schema_tree : List Entity → PlainTree
schema_tree models = headed_list (codes "schema") (model_trees models)
