-- An application extends itself, and an upgrade to itself changes nothing.
use Rattle.std.proofs.Common.{◌≡◌, ◌∙◌, refl, ap, arith, ℕ, ◌+◌, ◌-◌, ◌<◌, ◌≤◌, ◌&&◌, nat_le, zero, suc, Bool, true, false, true≢false, if◌then◌else◌, List, [], ◌∷◌, ◌++◌, append-nil, length, Option, Some, None, slice_get}
use Rattle.std.proofs.lemmas.Bool.Decides.{nat_tests, Decides-eqb}
use Rattle.std.proofs.lemmas.List.{drop_all}
use Rattle.std.proofs.lemmas.List.Quantifiers.{position-Some}
use Rattle.std.proofs.lemmas.Slice.Eq.{slice_eq-Decides}
use Rattle.std.proofs.lemmas.Bool.{and_from}
use mathlib.Core.Bool.{beq}
use Rattle.jac_value.specs.declared.value.Value.{Value}
use Rattle.jac_lang.specs.declared.field_kinds.Field.{Field}
use Rattle.jac_lang.specs.declared.field_kinds.KindName.{KindName}
use Rattle.jac_lang.specs.declared.field_kinds.KindName.TheVariants as kinds
use Rattle.jac_lang.specs.Lookup.{same_text, fields_at, groups_at, group_for, group_place, guards_field, hiding_place}
use Rattle.jac_lang.specs.Syntax.{Assigned, Entity, Expression, FieldGroup}
use Rattle.jac_rows.specs.declared.plain.PlainRow.{PlainRow}
use Rattle.jac_rows.specs.declared.plain.PlainState.{PlainState}
use Rattle.jac_plain.specs.Records.{default_cells, each_cell, is_hidden, public_cell, shielded_cells}
use Rattle.jac_write.specs.Regrouped.{is_from, is_guarded_from, stays}
use Rattle.jac_upgrade.specs.Alike.{same_field, same_group, same_kind, same_guards}
use Rattle.jac_upgrade.specs.Extends.{fields_lack, groups_lack, model_lack, models_lack}
use Rattle.jac_upgrade.specs.Upgraded.{draft_of, empty_tables, group_count, upgraded_state, upgraded_row, upgraded_rows, upgraded_tables}

text_itself : (a : List ℕ) → same_text a a ≡ true
text_itself a = (slice_eq-Decides Decides-eqb a a (same_text a a) refl).1 refl

kind_itself : (k : KindName) → same_kind k k ≡ true
kind_itself kinds.Int = refl
kind_itself kinds.Text = refl
kind_itself kinds.Bool = refl
kind_itself (kinds.Ref model) = text_itself model

field_itself : (f : Field) → same_field f f ≡ true
field_itself f = and_from (same_text f.name f.name) (same_kind f.kind f.kind) (text_itself f.name) (kind_itself f.kind)

guards_itself : (gs : List Assigned) → same_guards gs gs ≡ true
guards_itself [] = refl
guards_itself (g ∷ gs) = and_from (same_text g.field g.field) (same_guards gs gs) (text_itself g.field) (guards_itself gs)

flag_itself : (b : Bool) → beq b b ≡ true
flag_itself true = refl
flag_itself false = refl

group_itself : (g : FieldGroup) → same_group g g ≡ true
group_itself g = and_from (beq g.hides g.hides) (same_guards g.guards g.guards) (flag_itself g.hides) (guards_itself g.guards)

fields_itself : (m n : ℕ) (fs : List Field) → fields_lack m n fs fs ≡ None
fields_itself m n [] = refl
fields_itself m n (f ∷ fs) = rw (field_itself f) (fields_itself m (n + 1) fs)

groups_itself : (m n : ℕ) (gs : List FieldGroup) → groups_lack m n gs gs ≡ None
groups_itself m n [] = refl
groups_itself m n (g ∷ gs) = rw (group_itself g) (groups_itself m (n + 1) gs)

model_itself : (m : ℕ) (e : Entity) → model_lack m e e ≡ None
model_itself m e =
    rw (and_from (same_text e.name e.name) (beq e.nested e.nested) (text_itself e.name) (flag_itself e.nested), fields_itself m 0 e.fields) (groups_itself m 0 e.groups)

models_itself : (m : ℕ) (es : List Entity) → models_lack m es es ≡ None
models_itself m [] = refl
models_itself m (e ∷ es) = rw (model_itself m e) (models_itself (m + 1) es)

pub law_extends : (models : List Entity) → models_lack 0 models models ≡ None
law_extends models = models_itself 0 models

-- No group of an application is an added one in an upgrade to itself.

not_from : (n g : ℕ) → g < n → nat_le n g ≡ false
not_from n g h = grind (arith, nat_tests, h)

place_within : (groups : List FieldGroup) (name : List ℕ) (place : Option ℕ) → group_place groups name ≡ place → is_from (length groups) place ≡ false
place_within groups name None e = refl
place_within groups name (Some g) e = not_from (length groups) g (position-Some (λ (h : FieldGroup). guards_field name h) groups g (record { guards = []; hides = false; policy = Expression.this }) e).0

group_within : (groups : List FieldGroup) (f : Option Field) → is_from (length groups) (group_for groups f) ≡ false
group_within groups None = refl
group_within groups (Some f) = place_within groups f.name (group_place groups f.name) refl

hiding_within : (groups : List FieldGroup) (place : Option ℕ) → hiding_place groups ≡ place → is_from (length groups) place ≡ false
hiding_within groups None e = refl
hiding_within groups (Some g) e = not_from (length groups) g (position-Some (λ (h : FieldGroup). h.hides) groups g (record { guards = []; hides = false; policy = Expression.this }) e).0

staying : (w : ℕ → Bool) (models : List Entity) (m id : ℕ) → stays models w m id (group_count models m) ≡ true
staying w models m id = rw (hiding_within (groups_at models m) (hiding_place (groups_at models m)) refl) refl

not_new : (models : List Entity) (m f : ℕ) → is_guarded_from models m (group_count models m) f ≡ false
not_new models m f = group_within (groups_at models m) (slice_get (fields_at models m) f)

each_same : (cell_of : ℕ → Value → Value) (f : ℕ) (cells : List Value) → ((g : ℕ) (v : Value) → cell_of g v ≡ v) → each_cell cell_of f cells ≡ cells
each_same cell_of f [] h = refl
each_same cell_of f (v ∷ cells) h = rw (h f v, each_same cell_of (f + 1) cells h) refl

kept_cell : (named hidden : Bool) (public cell : Value) → named ≡ false → (if named && hidden then public else cell) ≡ cell
kept_cell true hidden public cell h = absurd (true≢false h)
kept_cell false hidden public cell h = refl

draft_same : (models : List Entity) (m : ℕ) (cells : List Value) → draft_of models models m cells ≡ cells
draft_same models m cells =
    ap (λ (fs : List Field). cells ++ default_cells models fs) (drop_all (length (fields_at models m)) (fields_at models m) (omega arith)) ∙ append-nil cells

row_same : (w : ℕ → Bool) (models : List Entity) (m : ℕ) (r : PlainRow) → upgraded_row w models models m r ≡ r
row_same w models m r =
    let draft : List Value = draft_of models models m r.cells in
    let cells : shielded_cells models w m r.id (is_guarded_from models m (group_count models m)) draft ≡ r.cells =
    each_same _ 0 draft (λ f cell. kept_cell (is_guarded_from models m (group_count models m) f) (is_hidden models w m r.id f) (public_cell models m r.id draft f cell) cell (not_new models m f))
    ∙ draft_same models m r.cells in
    ap (λ (cs : List Value). record { id = r.id; cells = cs }) cells

rows_same : (w : ℕ → Bool) (models : List Entity) (m : ℕ) (rows : List PlainRow) → upgraded_rows w models models m rows ≡ rows
rows_same w models m [] = refl
rows_same w models m (r ∷ rows) = rw (staying w models m r.id) (let one = row_same w models m r in let rest = rows_same w models m rows in λ i. one i ∷ rest i)

tables_same : (w : ℕ → Bool) (models : List Entity) (m : ℕ) (tables : List (List PlainRow)) → upgraded_tables w models models m tables ≡ tables
tables_same w models m [] = refl
tables_same w models m (t ∷ ts) = let one = rows_same w models m t in let rest = tables_same w models (m + 1) ts in λ i. one i ∷ rest i

none_empty : (n : ℕ) → n ≡ 0 → empty_tables n ≡ []
none_empty zero h = refl
none_empty (suc n) h = absurd (omega (arith, h))

pub law_upgraded : (w : ℕ → Bool) (models : List Entity) (t : PlainState) → length models ≤ length t.tables → upgraded_state w models models t ≡ t
law_upgraded w models t below =
    let none : empty_tables (length models - length t.tables) ≡ [] = none_empty (length models - length t.tables) (omega (arith, below)) in
    let tables : upgraded_tables w models models 0 t.tables ++ empty_tables (length models - length t.tables) ≡ t.tables =
    ap (λ (ts : List (List PlainRow)). upgraded_tables w models models 0 t.tables ++ ts) none ∙ append-nil (upgraded_tables w models models 0 t.tables) ∙ tables_same w models 0 t.tables in
    ap (λ (ts : List (List PlainRow)). record { tables = ts; number = t.number }) tables
