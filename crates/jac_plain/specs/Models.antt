-- What an application's models require of tables, and which applications hide nothing.
use Rattle.std.specs.Prelude.{◌≡◌, ℕ, ◌&&◌, nat_lt, Bool, true, false, List, [], ◌∷◌}
use Rattle.std.specs.List.{AllByRecursion}
use Rattle.jac_value.specs.Ids.{is_narrow, is_wide}
use Rattle.jac_value.specs.declared.value.Kind.{Kind}
use Rattle.jac_lang.specs.declared.field_kinds.Field.{Field}
use Rattle.jac_lang.specs.Lookup.{kind_named, is_nested_at}
use Rattle.jac_lang.specs.Syntax.{Entity, FieldGroup, Application, Statement, Statements}
use Rattle.jac_rows.specs.declared.plain.PlainRow.{PlainRow}
use Rattle.jac_rows.specs.Good.{ModelShape, ArePlainRows}
use Rattle.jac_rows.specs.Tables.{rows_of}

abbrev pub kinds_of_fields : List Entity → List Field → List Kind
kinds_of_fields models [] = []
kinds_of_fields models (f ∷ fields) = kind_named models f.kind ∷ kinds_of_fields models fields

abbrev pub shapes_of_models : List Entity → List Entity → List ModelShape
shapes_of_models models [] = []
shapes_of_models models (m ∷ rest) = record {
  kinds = kinds_of_fields models m.fields;
  nested = m.nested;
} ∷ shapes_of_models models rest

-- For each model, the kinds of its cells, and whether it is nested.
abbrev pub shapes_of : Application → List ModelShape
shapes_of app = shapes_of_models app.models app.models

abbrev pub is_none : List FieldGroup → Bool
is_none [] = true
is_none (g ∷ gs) = false

-- Whether no model has a group, so that no field is guarded.
abbrev pub are_without_groups : List Entity → Bool
are_without_groups [] = true
are_without_groups (m ∷ models) = is_none m.groups && are_without_groups models

abbrev mutual
  -- Whether each create has one of the sites 0 to 63.
  pub is_sited : Statement → Bool
  is_sited (Statement.bind x e body) = are_sited body
  is_sited (Statement.branch c first second) = are_sited first && are_sited second
  is_sited (Statement.each q body) = are_sited body
  is_sited (Statement.create x m site cells body) = nat_lt site 64 && are_sited body
  is_sited (Statement.block body) = are_sited body
  is_sited s = true

  pub are_sited : Statements → Bool
  are_sited Statements.none = true
  are_sited (Statements.more s rest) = is_sited s && are_sited rest

-- Whether the id is wide if the model is nested, and narrow if it isn't.
abbrev pub is_shaped : Bool → ℕ → Bool
is_shaped true id = is_wide id
is_shaped false id = is_narrow id

abbrev pub AreFlat : List Entity → List (List PlainRow) → Type 0
AreFlat models tables = (m : ℕ)
    → AllByRecursion (λ (r : PlainRow). is_shaped (is_nested_at models m) r.id ≡ true)
    (rows_of tables m)

-- The ids in each table rise, so that none occurs twice.
abbrev pub HaveRisingIds : List (List PlainRow) → Type 0
HaveRisingIds tables = (m : ℕ) → ArePlainRows (rows_of tables m)
