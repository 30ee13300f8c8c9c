-- What a write leaves, under every assignment.
use Rattle.std.specs.Prelude.{◌≡◌, ◌⊎◌, ℕ, ◌+◌, ◌<◌, ◌==◌, Bool, true, false, if◌then◌else◌, IsTrue, List, [], ◌∷◌, ◌++◌, zero, suc, slice_set}
use Rattle.jac_value.specs.declared.value.Value.{Value}
use Rattle.jac_value.specs.Ids.{model_of_id, number_of_id}
use Rattle.jac_world.specs.World.{holds}
use Rattle.jac_facet.specs.Leaves.{leaves_seen}
use Rattle.jac_facet.specs.Shape.{Shape, at}
use Rattle.jac_lang.specs.declared.field_kinds.Field.{Field}
use Rattle.jac_lang.specs.Lookup.{fields_at, kind_at}
use Rattle.jac_lang.specs.Mirror.{application_of}
use Rattle.jac_lang.specs.Syntax.{Entity}
use Rattle.jac_row_merge.specs.Merged.{AreMerged}
use Rattle.jac_plain.specs.Expressions.{stands}
use Rattle.jac_plain.specs.Records.{fitting, plain_row, shielded_cells, every_field, changed_rows, tables_after}
use Rattle.jac_plain.specs.Statements.{is_kept, tables_made as tables_kept}
use Rattle.jac_plain.specs.World.{record_with}
use Rattle.jac_rows.specs.Good.{IsSound}
use Rattle.jac_rows.specs.Project.{project_at}
use Rattle.jac_rows.specs.Tables.{rows_of}
use Rattle.jac_rows.specs.declared.plain.PlainRow.{PlainRow}
use Rattle.jac_rows.specs.declared.row.Row.{Row}
use Rattle.jac_rows.specs.declared.state.State.{State}
use Rattle.jac_keep.specs.KeeperSeen.{KeeperSeen}
use Rattle.jac_keep.specs.Records.{alternatives}
use Rattle.jac_keep.specs.WorkState.{IsTold}
use Rattle.jac_keep.specs.declared.alteration.Alterations.{Alterations}
use Rattle.jac_keep.specs.declared.work.WorkOver.{WorkOver}
use Rattle.jac_write.specs.declared.subject.Subject.{Subject}

-- The models of the record's application.
abbrev pub models_for : Subject → List Entity
models_for subject = (application_of subject.app.now).models

-- The alternatives of each record are the old ones, or no two of them can be joined.
abbrev pub KeepsOrMerges : State → State → Type 0
KeepsOrMerges old new =
    (id : ℕ)
    → (alternatives id (rows_of new.tables (model_of_id id)) ≡ alternatives id
    (rows_of old.tables (model_of_id id)))
    ⊎ AreMerged (alternatives id (rows_of new.tables (model_of_id id)))

abbrev pub PlainTables : Type 0
PlainTables = List (List PlainRow)

-- The state with this next number.
abbrev pub numbered_tables : ℕ → State → State
numbered_tables n s = record s { number = n }

-- If the path condition holds, the tables are the result of the step. Otherwise they are the same.
-- Tables that are sound with the next number n stay sound.
pub record Written (n : ℕ) (step : (ℕ → Bool) → PlainTables → PlainTables) (pc : List (ℕ × Bool))
    (old new : State) : Type 0 where
  pub left : (w : ℕ → Bool) → (project_at w new).tables ≡ (if holds w pc
      then step w (project_at w old).tables else (project_at w old).tables)
  pub sound : IsSound (numbered_tables n new)

-- The result of a write on sound tables.
abbrev pub Writes : ((ℕ → Bool) → PlainTables → PlainTables) → List (ℕ × Bool) → State → State
    → Type 0
Writes step pc old new = (n : ℕ) → IsSound (numbered_tables n old) → Written n step pc old new

-- If the state is known after a write, it was known before. If it was known before, and the
-- keeper's state is known afterwards, the state is known afterwards.
pub record StaysTold {K : Type 0} (sight : K → KeeperSeen) (old new : WorkOver K Alterations) : Type
    0 where
  pub back : IsTold sight new → IsTold sight old
  pub placed : IsTrue (sight new.keeper.now).tells → IsTold sight old → IsTold sight new

-- The cells of the alternatives with a guard that holds.
abbrev pub cells_at : (ℕ → Bool) → List Row → List (List Value)
cells_at w [] = []
cells_at w (r ∷ rs) = if holds w r.guard then r.cells ∷ cells_at w rs else cells_at w rs

-- The cells once for each guard that holds.
abbrev pub each_holding : (ℕ → Bool) → List (List (ℕ × Bool)) → List Value → List (List Value)
each_holding w [] c = []
each_holding w (g ∷ gs) c = (if holds w g then c ∷ [] else []) ++ each_holding w gs c

-- The tables after a step for each of the values.
abbrev pub tables_after_each : (Value → PlainTables → PlainTables) → List Value → PlainTables
    → PlainTables
tables_after_each step [] tables = tables
tables_after_each step (v ∷ vs) tables = tables_after_each step vs (step v tables)

-- The tables after a step for each leaf with a guard that holds.
pub record WrittenEach (n : ℕ) (step : (ℕ → Bool) → Value → PlainTables → PlainTables)
    (leaves : List (List (ℕ × Bool) × Value)) (old new : State) : Type 0 where
  pub left : (w : ℕ → Bool) → (project_at w new).tables ≡ tables_after_each (step w)
      (leaves_seen w leaves)
      (project_at w old).tables
  pub sound : IsSound (numbered_tables n new)

abbrev pub WritesEach : ((ℕ → Bool) → Value → PlainTables → PlainTables)
    → List (List (ℕ × Bool) × Value) → State → State → Type 0
WritesEach step leaves old new = (n : ℕ) → IsSound (numbered_tables n old)
    → WrittenEach n step leaves old new

-- The tables with one row of the model, and no other.
abbrev pub only : ℕ → Row → List (List Row)
only zero row = (row ∷ []) ∷ []
only (suc m) row = [] ∷ only m row

-- Cells in the order of their fields, from this field on. A cell of another kind becomes the
-- default of the field's kind.
abbrev pub fitted_from : List Entity → List Field → ℕ → List Value → List Value
fitted_from models fields f [] = []
fitted_from models fields f (v ∷ vs) = fitting (kind_at models fields f) v ∷ fitted_from models
    fields (f + 1) vs

-- The cells of a new record, as they are stored.
abbrev pub made_cells : List Entity → (ℕ → Bool) → ℕ → ℕ → List Value → List Value
made_cells models w m id cells = shielded_cells models w m id every_field
    (fitted_from models (fields_at models m) 0 cells)

-- The tables with a new record of these cells, if the record is kept.
abbrev pub tables_created : List Entity → (ℕ → Bool) → ℕ → ℕ → List Value → PlainTables
    → PlainTables
tables_created models w m id cells tables =
    tables_kept (is_kept models w m id) m (plain_row id (made_cells models w m id cells)) tables

-- The result of a create on sound tables, if the number of the record's request is less than the
-- next number, and no record has the id wherever the path condition holds.
abbrev pub Creates : ℕ → ((ℕ → Bool) → PlainTables → PlainTables) → List (ℕ × Bool) → State → State
    → Type 0
Creates id step pc old new =
    (n : ℕ) → number_of_id id < n
    → ((w : ℕ → Bool) → holds w pc ≡ true
    → stands (record_with id (rows_of (project_at w old).tables (model_of_id id))) ≡ false)
    → IsSound (numbered_tables n old) → Written n step pc old new

-- What the facets of fields show, each with the place of its field.
abbrev pub sets_at : (ℕ → Bool) → List (ℕ × Shape Value) → List (ℕ × Value)
sets_at w [] = []
sets_at w (s ∷ sets) = (s.0, at w s.1) ∷ sets_at w sets

-- The cells with these values in their places. A value of another kind becomes the default of the
-- field's kind.
abbrev pub put_in : List Entity → List Field → List (ℕ × Value) → List Value → List Value
put_in models fields [] cells = cells
put_in models fields (s ∷ sets) cells = put_in models fields sets
    (slice_set cells s.0 (fitting (kind_at models fields s.0) s.1))

-- Whether one of the sets is for the field at this place.
abbrev pub is_put : List (ℕ × Value) → ℕ → Bool
is_put [] f = false
is_put (s ∷ sets) f = if s.0 == f then true else is_put sets f

-- The cells of an existing record, as they are stored after the sets.
abbrev pub remade_cells : List Entity → (ℕ → Bool) → ℕ → ℕ → List (ℕ × Value) → List Value
    → List Value
remade_cells models w m id sets old = shielded_cells models w m id (is_put sets)
    (put_in models (fields_at models m) sets old)

-- The tables after the sets are stored in the record that the value refers to.
abbrev pub tables_remade : List Entity → (ℕ → Bool) → ℕ → Value → List (ℕ × Value) → PlainTables
    → PlainTables
tables_remade models w m target sets tables = tables_after m target
    (λ id rows. changed_rows id (remade_cells models w m id sets) rows) tables
