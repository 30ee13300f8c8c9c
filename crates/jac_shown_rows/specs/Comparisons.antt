-- Conditions that compare a field of the first binder's record with a known value.
use Rattle.std.specs.Prelude.{◌≡◌, ◌<◌, ◌&&◌, ℕ, Bool, true, false, if◌then◌else◌, List, [], ◌∷◌, ◌++◌, length, Some}
use Rattle.jac_value.specs.declared.value.Value.{Value}
use Rattle.jac_value.specs.declared.value.Value.TheVariants as value
use Rattle.jac_lang.specs.declared.bindings.Binding.{Binding}
use Rattle.jac_lang.specs.declared.expressions.Op.{Op}
use Rattle.jac_lang.specs.Lookup.{fields_at}
use Rattle.jac_lang.specs.Mirror.{application_of}
use Rattle.jac_lang.specs.Syntax.{Entity, Expression}
use Rattle.jac_rows.specs.declared.plain.PlainRow.{PlainRow}
use Rattle.jac_plain.specs.World.{World, cell_of, record_with}
use Rattle.jac_plain.specs.Expressions.{binding, is_true, mean, two}
use Rattle.jac_shown_rows.specs.declared.column.Column.{Column}
use Rattle.jac_shown_rows.specs.declared.comparison.Comparison.{Comparison}
use Rattle.jac_shown_rows.specs.declared.world_context.WorldContext.{WorldContext}
use Rattle.jac_shown_rows.specs.Columns.{absent_in, column_got}
use Rattle.jac_shown_rows.specs.Local.{is_free, is_local}
use Rattle.jac_shown_rows.specs.Seen.{app_at}

-- The operation, with the value as its first operand or as its second.
abbrev pub two_with : Bool → Op → Value → Value → Value
two_with true o v cell = two o v cell
two_with false o v cell = two o cell v

-- The comparison of a record's field.
abbrev pub comparison_value : List (List PlainRow) → Comparison → ℕ → Value
comparison_value tables k j = two_with k.is_first k.op k.value
    (column_got tables (Some k.column) (value.Ref (Some j)))

-- The same, if these are the records of the column's model.
abbrev pub comparison_among : List PlainRow → Comparison → ℕ → Value
comparison_among rows k j = two_with k.is_first k.op k.value
    (cell_of (record_with j rows) k.column.field (absent_in k.column))

-- The ids at which the value of `f` is true.
abbrev pub ids_compared : (ℕ → Value) → List ℕ → List ℕ
ids_compared f [] = []
ids_compared f (j ∷ js) = if is_true (f j) then j ∷ ids_compared f js else ids_compared f js

-- The column is a column of an application.
pub record IsColumn (c : Column) : Type 0 where
  pub model : c.model < length c.app.now.models
  pub field : c.field < length (fields_at (application_of c.app.now).models c.model)

-- The expression is the field of the record to which the name is bound.
pub record IsFieldOf (models : List Entity) (name : List ℕ) (e : Expression) (c : Column) : Type 0
  where
    pub means : (w : World) → w.models ≡ models → (env : List Binding) (u : Value)
        → mean w e (env ++ binding name u ∷ []) ≡ column_got w.tables (Some c) u
    pub local : (v : Bool) → is_local models v e ≡ true → is_free models c.model ≡ true
    pub within : IsColumn c

-- One of the operands is such a field, and `e` is the other operand.
pub record IsSideOf (models : List Entity) (name : List ℕ) (x y : Expression) (c : Column)
    (e : Expression) (is_first : Bool) : Type 0 where
  pub means : (w : World) → w.models ≡ models → (env : List Binding) (u : Value) (o : Op)
      → mean w (Expression.two o x y) (env ++ binding name u ∷ [])
      ≡ two_with is_first o (mean w e (env ++ binding name u ∷ [])) (column_got w.tables (Some c) u)
  pub local : (v : Bool) → (is_local models v x && is_local models v y) ≡ true
      → is_free models c.model ≡ true
  pub within : IsColumn c

-- The condition is the comparison if the first binder is bound as `bind` says.
pub record IsComparison (at : WorldContext) (env : List Binding) (bind : Value → List Binding)
    (cond : Expression) (k : Comparison) : Type 0 where
  pub means : (w : World) → w.models ≡ (app_at at).models → w.this ≡ at.ctx.now.this
      → w.viewer ≡ at.ctx.now.viewer → (j : ℕ)
      → mean w cond (env ++ bind (value.Ref (Some j))) ≡ comparison_value w.tables k j
  pub local : (v : Bool) → is_local (app_at at).models v cond ≡ true
      → is_free (app_at at).models k.column.model ≡ true
  pub within : IsColumn k.column
