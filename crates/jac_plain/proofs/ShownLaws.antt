-- If no model has a group, nothing depends on the labels that are shown.
use Rattle.std.proofs.Common.{◌≡◌, ◌∙◌, sym, refl, ap, ℕ, ◌==◌, Bool, true, false, if◌then◌else◌, List, [], ◌∷◌, ◌++◌, length, Option, Some, None}
use Rattle.std.specs.Prelude.{slice_get, slice_set}
use Rattle.jac_value.specs.declared.value.Value.{Value}
use Rattle.jac_value.specs.declared.value.Value.TheVariants as value
use Rattle.jac_lang.specs.declared.bindings.Binding.{Binding}
use Rattle.jac_lang.specs.declared.queries.Binder.{Binder}
use Rattle.jac_lang.specs.Lookup.{fields_at, model_place}
use Rattle.jac_lang.specs.Syntax.{Assigned, Statement, Statements, Application}
use Rattle.jac_rows.specs.declared.plain.PlainRow.{PlainRow}
use Rattle.jac_rows.specs.declared.plain.PlainState.{PlainState}
use Rattle.jac_rows.specs.Tables.{rows_of}
use Rattle.jac_plain.specs.Expressions.{answers, bound, binding, is_true}
use Rattle.jac_plain.specs.Models.{are_without_groups}
use Rattle.jac_plain.specs.Records.{drafted_cells, default_cells, plain_row, shielded_cells, every_field, is_set, changed_rows, tables_after}
use Rattle.jac_plain.specs.Requests.{Visit, body_in, run_of, setting_of}
use Rattle.jac_plain.specs.Statements.{Setting, Run, world_of, value_in, cut_to, scoped_run, with_binding, choose, for_each, loop_of, id_made, is_kept, with_made, created_cells, create_run, updated_cells, update_run, leaves, leaves_all}
use Rattle.jac_plain.proofs.GroupLaws.{groups_none, kept_groupless, shielded_groupless}

abbrev under : (ℕ → Bool) → Setting → Setting
under v k = record k { shown = v }

-- The two steps have the same result.
abbrev Alike : (Run → Run) → (Run → Run) → Type 0
Alike f g = (r : Run) → f r ≡ g r

alike_scoped : (env : List Binding) (f g : Run → Run) → Alike f g → Alike (scoped_run env f) (scoped_run env g)
alike_scoped env f g same r = ap (cut_to (length r.env)) (same (record r { env = env }))

alike_choose : (c : Bool) (f f2 g g2 : Run → Run) → Alike f f2 → Alike g g2 → Alike (choose c f g) (choose c f2 g2)
alike_choose true f f2 g g2 one two r = one r
alike_choose false f f2 g g2 one two r = two r

alike_each : (bs : List Binder) (f g : List ℕ → Run → Run) → ((ids : List ℕ) → Alike (f ids) (g ids)) → (tuples : List (List ℕ)) → Alike (for_each bs f tuples) (for_each bs g tuples)
alike_each bs f g same [] r = refl
alike_each bs f g same (ids ∷ tuples) r =
    ap (for_each bs f tuples) (alike_scoped (bound bs ids r.env) (f ids) (g ids) (same ids) r) ∙ alike_each bs f g same tuples (scoped_run (bound bs ids r.env) (g ids) r)

same_shielded : (k : Setting) (v : ℕ → Bool) (m id : ℕ) (named : ℕ → Bool) (draft : List Value) → are_without_groups k.models ≡ true
    → shielded_cells k.models k.shown m id named draft ≡ shielded_cells k.models v m id named draft
same_shielded k v m id named draft h =
    shielded_groupless k.models k.shown m id named draft (groups_none k.models m h)
    ∙ sym (shielded_groupless k.models v m id named draft (groups_none k.models m h))

alike_created : (k : Setting) (v : ℕ → Bool) (name : List ℕ) (m : Option ℕ) (site : ℕ) (cells : List Assigned) (f g : Run → Run) → are_without_groups k.models ≡ true
    → Alike f g → Alike (create_run k name m site cells f) (create_run (under v k) name m site cells g)
alike_created k v name None site cells f g h same r = refl
alike_created k v name (Some m) site cells f g h same r =
    let id = id_made k m site in
    let kept : is_kept k.models k.shown m id ≡ is_kept k.models v m id = kept_groupless k.models k.shown m id (groups_none k.models m h) ∙ sym (kept_groupless k.models v m id (groups_none k.models m h)) in
    let stored : created_cells k m id cells r ≡ created_cells (under v k) m id cells r =
    same_shielded k v m id every_field (drafted_cells k.models (fields_at k.models m) (λ e. value_in k e r) cells (default_cells k.models (fields_at k.models m))) h in
    ap (λ c. with_binding name (value.Ref (Some id)) f (with_made (is_kept k.models k.shown m id) m (plain_row id c) r)) stored
    ∙ (ap (λ b. with_binding name (value.Ref (Some id)) f (with_made b m (plain_row id (created_cells (under v k) m id cells r)) r)) kept
    ∙ alike_scoped _ f g same (with_made (is_kept k.models v m id) m (plain_row id (created_cells (under v k) m id cells r)) r))

changed_if : (b : Bool) (x y : PlainRow) (rows more rest : List PlainRow) → x ≡ y → more ≡ rest → (if b then x ∷ rows else more) ≡ (if b then y ∷ rows else rest)
changed_if true x y rows more rest e i = ap (λ z. z ∷ rows) e
changed_if false x y rows more rest e i = i

same_changed : (id : ℕ) (f g : List Value → List Value) → ((cells : List Value) → f cells ≡ g cells) → (rows : List PlainRow) → changed_rows id f rows ≡ changed_rows id g rows
same_changed id f g same [] = refl
same_changed id f g same (r ∷ rows) =
    changed_if (r.id == id) (plain_row r.id (f r.cells)) (plain_row r.id (g r.cells)) rows (r ∷ changed_rows id f rows) (r ∷ changed_rows id g rows)
    (ap (plain_row r.id) (same r.cells)) (ap (λ rest. r ∷ rest) (same_changed id f g same rows))

same_after : (m : ℕ) (target : Value) (f g : ℕ → List PlainRow → List PlainRow) → ((id : ℕ) (rows : List PlainRow) → f id rows ≡ g id rows) → (tables : List (List PlainRow))
    → tables_after m target f tables ≡ tables_after m target g tables
same_after m (value.Ref (Some id)) f g same tables = ap (slice_set tables m) (same id (rows_of tables m))
same_after m (value.Ref None) f g same tables = refl
same_after m (value.Int i) f g same tables = refl
same_after m (value.Text t) f g same tables = refl
same_after m (value.Bool b) f g same tables = refl

alike_updated : (k : Setting) (v : ℕ → Bool) (m : Option ℕ) (target : Value) (cells : List Assigned) → are_without_groups k.models ≡ true
    → Alike (update_run k m target cells) (update_run (under v k) m target cells)
alike_updated k v None target cells h r = refl
alike_updated k v (Some m) target cells h r =
    ap (λ ts. record r { tables = ts })
    (same_after m target (λ id rows. changed_rows id (updated_cells k m id cells r) rows) (λ id rows. changed_rows id (updated_cells (under v k) m id cells r) rows)
    (λ id rows. same_changed id (updated_cells k m id cells r) (updated_cells (under v k) m id cells r)
    (λ old. same_shielded k v m id (is_set (fields_at k.models m) cells) (drafted_cells k.models (fields_at k.models m) (λ e. value_in k e r) cells old) h) rows) r.tables)

mutual
  alike_one : (k : Setting) (v : ℕ → Bool) (s : Statement) → are_without_groups k.models ≡ true → Alike (leaves k s) (leaves (under v k) s)
  alike_one k v (Statement.put e) h r = refl
  alike_one k v (Statement.escape e) h r = refl
  alike_one k v (Statement.bind x e body) h r =
      alike_scoped (r.env ++ binding x (value_in k e r) ∷ []) (leaves_all k body) (leaves_all (under v k) body) (alike_all k v body h) r
  alike_one k v (Statement.assign x e) h r = refl
  alike_one k v (Statement.branch c first second) h r =
      alike_choose (is_true (value_in k c r)) (leaves_all k first) (leaves_all (under v k) first) (leaves_all k second) (leaves_all (under v k) second)
      (alike_all k v first h) (alike_all k v second h) r
  alike_one k v (Statement.each q body) h r =
      alike_each q.binders (λ ids. leaves_all (record k { around = loop_of ids }) body) (λ ids. leaves_all (record (under v k) { around = loop_of ids }) body)
      (λ ids. alike_all (record k { around = loop_of ids }) v body h) (answers (world_of k r) q r.env) r
  alike_one k v (Statement.create x m site cells body) h r =
      alike_created k v x (model_place k.models m) site cells (leaves_all k body) (leaves_all (under v k) body) h (alike_all k v body h) r
  alike_one k v (Statement.update m e cells) h r = alike_updated k v (model_place k.models m) (value_in k e r) cells h r
  alike_one k v (Statement.delete m e) h r = refl
  alike_one k v Statement.missing h r = refl
  alike_one k v (Statement.redirect e) h r = refl
  alike_one k v (Statement.template t) h r = refl
  alike_one k v (Statement.block body) h r = alike_all k v body h r

  alike_all : (k : Setting) (v : ℕ → Bool) (s : Statements) → are_without_groups k.models ≡ true → Alike (leaves_all k s) (leaves_all (under v k) s)
  alike_all k v Statements.none h r = refl
  alike_all k v (Statements.more s rest) h r =
      ap (leaves_all k rest) (alike_one k v s h r) ∙ alike_all k v rest h (leaves (under v k) s r)

pub same_run : (app : Application) (t : PlainState) (visit : Visit) (w v : ℕ → Bool) → are_without_groups app.models ≡ true
    → run_of w app t visit ≡ run_of v app t visit
same_run app t visit w v h =
    alike_all (setting_of w app t visit) v (body_in (slice_get app.views visit.view)) h (record { tables = t.tables; env = visit.env; pieces = [] })
