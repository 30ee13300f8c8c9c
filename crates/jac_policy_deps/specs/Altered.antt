-- Whether a policy depends on replaced records, as they were before or as they are after.
use Rattle.std.specs.Prelude.{ℕ, Bool, true, false, ◌&&◌, ◌||◌, ◌==◌, not, List, [], ◌∷◌, ◌++◌, slice_get, Option, Some, None}
use Rattle.std.specs.List.{list_any, list_all}
use Rattle.jac_value.specs.declared.value.Value.{Value}
use Rattle.jac_value.specs.declared.value.Value.TheVariants as value
use Rattle.jac_value.specs.Ids.{model_of_id, record_of_label}
use Rattle.jac_lang.specs.Syntax.{Entity, FieldGroup, Application}
use Rattle.jac_rows.specs.declared.row.Row.{Row}
use Rattle.jac_rows.specs.declared.state.State.{State}
use Rattle.jac_rows.specs.Tables.{rows_of}
use Rattle.jac_keep.specs.declared.alteration.Alteration.{Alteration}
use Rattle.jac_keep.specs.Alterations.{alters, overlaid}
use Rattle.jac_keep.specs.MatchingRecords.{holds_cell}
use Rattle.jac_keep.specs.Records.{alternatives}
use Rattle.jac_plain.specs.Policies.{labelled_group}
use Rattle.jac_policy_cache.specs.Affected.{is_same_viewer}
use Rattle.jac_policy_deps.specs.declared.dependency.Dependency.{Dependency}
use Rattle.jac_policy_deps.specs.declared.dependency.Dependency.TheVariants as dependency
use Rattle.jac_policy_deps.specs.declared.dependency.Referent.{Referent}
use Rattle.jac_policy_deps.specs.declared.dependency.Referent.TheVariants as referent
use Rattle.jac_policy_deps.specs.Dependencies.{dependencies}

-- The state after the replacement of the records.
abbrev pub state_over : List Alteration → State → State
state_over over s = record s { tables = overlaid over s.tables }

-- The record is replaced.
abbrev pub is_altered : List Alteration → ℕ → Bool
is_altered [] id = false
is_altered (a ∷ more) id = a.id == id || is_altered more id

abbrev pub is_outside : List Alteration → ℕ → Bool
is_outside over id = not (is_altered over id)

abbrev pub is_viewer_altered : List Alteration → Option ℕ → Bool
is_viewer_altered over None = false
is_viewer_altered over (Some id) = is_altered over id

-- The rows of the replaced records, before and after the replacement.
abbrev pub alternatives_altered : List (List Row) → List Alteration → List Row
alternatives_altered tables [] = []
alternatives_altered tables (a ∷ more) =
    alternatives a.id (rows_of tables (model_of_id a.id))
    ++ (a.rows ++ alternatives_altered tables more)

-- The rows of the replaced records, and the tables in which the records are replaced.
pub record RowsAltered : Type 0 where
  pub tables : List (List Row)
  pub rows : List Row

abbrev pub rows_altered : List (List Row) → List Alteration → RowsAltered
rows_altered tables over = record {
  tables = tables;
  rows = alternatives_altered tables over;
}

-- What a cell refers to, if it may be a reference. A missing cell counts as an empty reference.
abbrev pub referred_by : Option Value → Option (Option ℕ)
referred_by None = Some None
referred_by (Some (value.Ref id)) = Some id
referred_by (Some (value.Int i)) = None
referred_by (Some (value.Text t)) = None
referred_by (Some (value.Bool b)) = None

abbrev pub is_to : Option ℕ → Option (Option ℕ) → Bool
is_to id None = false
is_to id (Some other) = is_same_viewer other id

-- The row belongs to the model at a place, and what its field at a place refers to passes the test.
abbrev pub row_refers : ℕ → ℕ → (Option (Option ℕ) → Bool) → Row → Bool
row_refers m f test r = (model_of_id r.id == m) && test (referred_by (slice_get r.cells f))

-- The field `f` of the record `this` may refer to what a cell refers to. If the cell refers to a
-- record, some row of `this` refers to the same record.
abbrev pub is_linked : List (List Row) → ℕ → ℕ → ℕ → Option (Option ℕ) → Bool
is_linked tables m f this (Some (Some id)) =
    holds_cell f (value.Ref (Some id)) (rows_of tables m) this
is_linked tables m f this (Some None) = true
is_linked tables m f this None = true

-- The referent finds a record by a cell that refers to `x`.
abbrev pub is_found : List (List Row) → ℕ → Option ℕ → Referent → Option (Option ℕ) → Bool
is_found tables this viewer referent.This x = is_to (Some this) x
is_found tables this viewer (referent.Field m f) x = is_linked tables m f this x
is_found tables this viewer referent.Viewer x = is_to viewer x

-- The field may refer to a replaced record.
abbrev pub is_link_altered : List (List Row) → ℕ → ℕ → ℕ → List Alteration → Bool
is_link_altered tables m f this [] = false
is_link_altered tables m f this (a ∷ more) =
    is_linked tables m f this (Some (Some a.id)) || is_link_altered tables m f this more

abbrev pub is_one_altered : List Alteration → List (List Row) → ℕ → Option ℕ → Referent → Bool
is_one_altered over tables this viewer referent.This = is_altered over this
is_one_altered over tables this viewer (referent.Field m f) = is_link_altered tables m f this over
is_one_altered over tables this viewer referent.Viewer = is_viewer_altered over viewer

abbrev pub alters_none : List Alteration → Bool
alters_none [] = true
alters_none (a ∷ more) = false

-- No replaced record is in this dependency of a policy, for the record `this` and the viewer.
abbrev pub test_of : List Alteration → RowsAltered → ℕ → Option ℕ → Dependency → Bool
test_of over among this viewer (dependency.One s) =
    not (is_one_altered over among.tables this viewer s)
test_of over among this viewer (dependency.Table m) = not (alters m over)
test_of over among this viewer (dependency.Found s m f) =
    not (list_any (row_refers m f (is_found among.tables this viewer s)) among.rows)
test_of over among this viewer dependency.Any = alters_none over

abbrev pub group_dependencies : List Entity → Option FieldGroup → List Dependency
group_dependencies models None = []
group_dependencies models (Some g) = dependencies models g.policy

-- The label's record isn't replaced, and its policy depends on no replaced record.
abbrev pub is_spared : Application → List Alteration → RowsAltered → Option ℕ → ℕ → Bool
is_spared app over among viewer k =
    is_outside over (record_of_label k) && list_all (test_of over among (record_of_label k) viewer)
    (group_dependencies app.models (labelled_group app k))
