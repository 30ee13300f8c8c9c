use Rattle.std.proofs.Common.{◌≡◌, ◌∙◌, ap, sym, ℕ, List, Option, None, Some, pos}
use Rattle.jac_value.specs.declared.value.Value.{Value}
use Rattle.jac_value.specs.declared.value.Value.TheVariants as value
use Rattle.jac_value.specs.Values.{default_value}
use Rattle.jac_lang.specs.Lookup.{field_place, fields_at, kind_at}
use Rattle.jac_lang.specs.Mirror.{application_of}
use Rattle.jac_lang.specs.Syntax.{Entity}
use Rattle.jac_rows.specs.declared.plain.PlainRow.{PlainRow}
use Rattle.jac_rows.specs.Tables.{rows_of}
use Rattle.jac_plain.specs.World.{World, cell_named, cell_of, got_of, referred_record}
use Rattle.jac_shown_rows.proofs.column.column_in.Goals as goal

abbrev cell_by : List Entity → ℕ → Option ℕ → Option PlainRow → Value
cell_by ms m None r = value.Int (pos 0)
cell_by ms m (Some f) r = cell_of r f (default_value (kind_at ms (fields_at ms m) f))

cell_is : (ms : List Entity) (w : World) (m : ℕ) (name : List ℕ) (p : Option ℕ) (v : Value) → w.models ≡ ms → p ≡ field_place (fields_at ms m) name →
    cell_by ms m p (referred_record v (rows_of w.tables m)) ≡ got_of w (Some m) name v
cell_is ms w m name None v same place =
    ap (λ p. cell_named w m p (referred_record v (rows_of w.tables m))) (place ∙ ap (λ ms. field_place (fields_at ms m) name) (sym same))
cell_is ms w m name (Some f) v same place =
    let r = referred_record v (rows_of w.tables m) in
    ap (λ ms. cell_of r f (default_value (kind_at ms (fields_at ms m) f))) (sym same)
    ∙ ap (λ p. cell_named w m p r) (place ∙ ap (λ ms. field_place (fields_at ms m) name) (sym same))

pub returns-in-Some-clause-got : goal.returns-in-Some-clause-got
returns-in-Some-clause-got c w same v =
    cell_is (application_of c.args.app.now).models w c.args.model c.args.field.now (Some c.in-Some.field) v same c.in-Some.ensures.place

pub returns-in-None-clause-got : goal.returns-in-None-clause-got
returns-in-None-clause-got c w same v =
    cell_is (application_of c.args.app.now).models w c.args.model c.args.field.now None v same c.in-None.ensures.place
