-- The marks that replaced records leave: the labels and the groups whose policies may have another
-- result.
use Rattle.std.specs.Prelude.{ℕ, ◌+◌, ◌^◌, ◌&&◌, ◌==◌, nat_lt, Bool, true, false, if◌then◌else◌, List, [], ◌∷◌, ◌++◌, slice_get, Option, Some, None}
use Rattle.std.specs.List.{list_any}
use Rattle.jac_value.specs.declared.value.Value.TheVariants as value
use Rattle.jac_value.specs.Ids.{model_of_id, label_of}
use Rattle.jac_world.specs.World.{shown_by}
use Rattle.jac_lang.specs.Syntax.{Entity, FieldGroup}
use Rattle.jac_rows.specs.declared.row.Row.{Row}
use Rattle.jac_rows.specs.Tables.{rows_of}
use Rattle.jac_keep.specs.declared.alteration.Alteration.{Alteration}
use Rattle.jac_keep.specs.Alterations.{alters}
use Rattle.jac_keep.specs.MatchingRecords.{holders}
use Rattle.jac_policy_cache.specs.Affected.{is_in_group, is_for}
use Rattle.jac_policy_cache.specs.declared.invalidation.AffectedGroup.{AffectedGroup}
use Rattle.jac_policy_cache.specs.declared.invalidation.Audience.{Audience}
use Rattle.jac_policy_cache.specs.declared.invalidation.Audience.TheVariants as audience
use Rattle.jac_policy_deps.specs.declared.mark.Mark.{Mark}
use Rattle.jac_policy_deps.specs.declared.mark.Mark.TheVariants as mark
use Rattle.jac_policy_deps.specs.declared.dependency.Dependency.{Dependency}
use Rattle.jac_policy_deps.specs.declared.dependency.Dependency.TheVariants as dependency
use Rattle.jac_policy_deps.specs.declared.dependency.Referent.{Referent}
use Rattle.jac_policy_deps.specs.declared.dependency.Referent.TheVariants as referent
use Rattle.jac_policy_deps.specs.Dependencies.{dependencies, is_same_referent}
use Rattle.jac_policy_deps.specs.Altered.{referred_by}

abbrev pub audience_of : Option (Option ℕ) → Audience
audience_of None = audience.Everybody
audience_of (Some viewer) = audience.Only viewer

-- The mark of the group for one viewer, or for every viewer.
abbrev pub group_mark : ℕ → ℕ → Option (Option ℕ) → Mark
group_mark m g None = mark.All m g
group_mark m g (Some viewer) = mark.Only m g viewer

abbrev pub affected_group : ℕ → ℕ → Option (Option ℕ) → AffectedGroup
affected_group m g viewer = record { model = m; group = g; viewer = audience_of viewer }

abbrev pub id_where : Bool → ℕ → Option ℕ
id_where true id = Some id
id_where false id = None

abbrev pub own_mark : Option ℕ → ℕ → List Mark
own_mark (Some id) g = mark.One (label_of id g) ∷ []
own_mark None g = []

-- The marks of this group's labels of the replaced records of the model.
abbrev pub own_marks : ℕ → ℕ → List Alteration → List Mark
own_marks m g [] = []
own_marks m g (a ∷ more) = own_mark (id_where (model_of_id a.id == m) a.id) g ++ own_marks m g more

-- The marks of the group for each replaced record as the viewer.
abbrev pub viewer_marks : ℕ → ℕ → List Alteration → List Mark
viewer_marks m g [] = []
viewer_marks m g (a ∷ more) = group_mark m g (Some (Some a.id)) ∷ viewer_marks m g more

-- The labels of this group for each record of the model that has a row that refers to the record by
-- the field. If the field belongs to another model, the whole group.
abbrev pub linked_mark : Bool → ℕ → ℕ → ℕ → ℕ → Mark
linked_mark true m g f id = mark.Linked m g f id
linked_mark false m g f id = group_mark m g None

abbrev pub link_mark : ℕ → ℕ → ℕ → ℕ → Option (Option ℕ) → List Mark
link_mark m g n f (Some (Some id)) = linked_mark (n == m) m g f id ∷ []
link_mark m g n f (Some None) = group_mark m g None ∷ []
link_mark m g n f None = group_mark m g None ∷ []

-- These marks for each replaced record.
abbrev pub linked_marks : ℕ → ℕ → ℕ → ℕ → List Alteration → List Mark
linked_marks m g n f [] = []
linked_marks m g n f (a ∷ more) =
    link_mark m g n f (Some (Some a.id)) ++ linked_marks m g n f more

-- What a row's cell refers to is marked as the policy's own record, as a record that others refer
-- to, or as a viewer.
abbrev pub label_mark : ℕ → Option (Option ℕ) → List Mark
label_mark g (Some (Some id)) = own_mark (id_where (nat_lt id (2 ^ 124)) id) g
label_mark g (Some None) = []
label_mark g None = []

abbrev pub only_mark : ℕ → ℕ → Option (Option ℕ) → List Mark
only_mark m g (Some x) = group_mark m g (Some x) ∷ []
only_mark m g None = []

abbrev pub cell_mark : ℕ → ℕ → Referent → Option (Option ℕ) → List Mark
cell_mark m g referent.This x = label_mark g x
cell_mark m g (referent.Field n f) x = link_mark m g n f x
cell_mark m g referent.Viewer x = only_mark m g x

abbrev pub row_mark : ℕ → ℕ → Referent → ℕ → ℕ → Row → List Mark
row_mark m g s n f r = if model_of_id r.id == n
    then cell_mark m g s (referred_by (slice_get r.cells f)) else []

-- The marks of what the rows of the model at place `n` refer to by the field at place `f`.
abbrev pub found_marks : ℕ → ℕ → Referent → ℕ → ℕ → List Row → List Mark
found_marks m g s n f [] = []
found_marks m g s n f (r ∷ rows) = row_mark m g s n f r ++ found_marks m g s n f rows

abbrev pub marks_if : Bool → ℕ → ℕ → List Mark
marks_if true m g = group_mark m g None ∷ []
marks_if false m g = []

abbrev pub some_marks : List Alteration → ℕ → ℕ → List Mark
some_marks [] m g = []
some_marks (a ∷ more) m g = group_mark m g None ∷ []

abbrev pub one_marks : ℕ → ℕ → List Alteration → Referent → List Mark
one_marks m g over referent.This = own_marks m g over
one_marks m g over (referent.Field n f) = linked_marks m g n f over
one_marks m g over referent.Viewer = viewer_marks m g over

-- The marks of the replaced records for one dependency of the policy of the group at place `g` of
-- the model at place `m`.
abbrev pub dependency_marks : ℕ → ℕ → List Alteration → List Row → Dependency → List Mark
dependency_marks m g over rows (dependency.One s) = one_marks m g over s
dependency_marks m g over rows (dependency.Table n) = marks_if (alters n over) m g
dependency_marks m g over rows (dependency.Found s n f) = found_marks m g s n f rows
dependency_marks m g over rows dependency.Any = some_marks over m g

abbrev pub is_same_dependency : Dependency → Dependency → Bool
is_same_dependency (dependency.One s) (dependency.One t) = is_same_referent s t
is_same_dependency (dependency.Table m) (dependency.Table n) = m == n
is_same_dependency (dependency.Found s m f) (dependency.Found t n g) = is_same_referent s t &&
    (m == n && f == g)
is_same_dependency dependency.Any dependency.Any = true
is_same_dependency x y = false

-- The same dependency comes again in the list.
abbrev pub comes_again : Dependency → List Dependency → Bool
comes_again x more = list_any (is_same_dependency x) more

-- The marks of each dependency, where it comes for the last time.
abbrev pub each_dependency_marks : ℕ → ℕ → List Alteration → List Row → List Dependency → List Mark
each_dependency_marks m g over rows [] = []
each_dependency_marks m g over rows (x ∷ more) =
    (if comes_again x more then [] else dependency_marks m g over rows x)
    ++ each_dependency_marks m g over rows more

-- The marks of a group: its labels of the replaced records, and the marks of what its policy
-- depends on.
abbrev pub policy_marks : List Entity → ℕ → ℕ → List Alteration → List Row → FieldGroup → List Mark
policy_marks models m g over rows group =
    own_marks m g over ++ each_dependency_marks m g over rows (dependencies models group.policy)

-- The marks of a model's groups from the place `g` on.
abbrev pub groups_marks : List Entity → ℕ → ℕ → List Alteration → List Row
    → List FieldGroup → List Mark
groups_marks models m g over rows [] = []
groups_marks models m g over rows (group ∷ more) =
    policy_marks models m g over rows group ++ groups_marks models m (g + 1) over rows more

-- The marks of the models from the place `m` on.
abbrev pub models_marks : List Entity → ℕ → List Alteration → List Row → List Entity → List Mark
models_marks models m over rows [] = []
models_marks models m over rows (entity ∷ more) =
    groups_marks models m 0 over rows entity.groups ++ models_marks models (m + 1) over rows more

abbrev pub row_labels : ℕ → List Row → List ℕ
row_labels g [] = []
row_labels g (r ∷ rows) = label_of r.id g ∷ row_labels g rows

-- The labels of a group for the records of the model that have a row with the reference.
abbrev pub holder_labels : List (List Row) → ℕ → ℕ → ℕ → ℕ → List ℕ
holder_labels tables m g f id =
    row_labels g (holders f (value.Ref (Some id)) (rows_of tables m))

-- The mark covers the label, for this viewer.
abbrev pub marks_label : List (List Row) → Option ℕ → ℕ → Mark → Bool
marks_label tables viewer k (mark.One j) = j == k
marks_label tables viewer k (mark.Linked m g f id) = shown_by (holder_labels tables m g f id) k
marks_label tables viewer k (mark.All m g) =
    is_in_group (affected_group m g None) k && is_for (audience_of None) viewer
marks_label tables viewer k (mark.Only m g v) =
    is_in_group (affected_group m g (Some v)) k && is_for (audience_of (Some v)) viewer

abbrev pub is_one : List (List Row) → ℕ → Mark → Bool
is_one tables k (mark.One j) = j == k
is_one tables k (mark.Linked m g f id) = shown_by (holder_labels tables m g f id) k
is_one tables k (mark.All m g) = false
is_one tables k (mark.Only m g v) = false

abbrev pub marked_label : List (List Row) → Mark → List ℕ
marked_label tables (mark.One j) = j ∷ []
marked_label tables (mark.Linked m g f id) = holder_labels tables m g f id
marked_label tables (mark.All m g) = []
marked_label tables (mark.Only m g v) = []

abbrev pub marked_labels : List (List Row) → List Mark → List ℕ
marked_labels tables [] = []
marked_labels tables (x ∷ more) = marked_label tables x ++ marked_labels tables more

abbrev pub marked_group : Mark → List AffectedGroup
marked_group (mark.One j) = []
marked_group (mark.Linked m g f id) = []
marked_group (mark.All m g) = affected_group m g None ∷ []
marked_group (mark.Only m g v) = affected_group m g (Some v) ∷ []

abbrev pub marked_groups : List Mark → List AffectedGroup
marked_groups [] = []
marked_groups (x ∷ more) = marked_group x ++ marked_groups more
