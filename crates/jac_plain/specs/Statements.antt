-- What running a statement in one world does to the tables and the page.
use Rattle.std.specs.Prelude.{ℕ, not, Bool, true, false, if◌then◌else◌, List, [], ◌∷◌, ◌++◌, length, take, Option, Some, None}
use Rattle.jac_value.specs.declared.value.Value.{Value}
use Rattle.jac_value.specs.declared.value.Value.TheVariants as value
use Rattle.jac_value.specs.Ids.{record_id, is_narrow, loop_id}
use Rattle.jac_value.specs.Values.{value_text}
use Rattle.jac_value.specs.Html.{html}
use Rattle.jac_lang.specs.declared.bindings.Binding.{Binding}
use Rattle.jac_lang.specs.declared.queries.Binder.{Binder}
use Rattle.jac_lang.specs.Lookup.{same_text, model_place, fields_at, groups_at, hiding_place, is_nested_at}
use Rattle.jac_lang.specs.Syntax.{Entity, Expression, Assigned, Statement, Statements}
use Rattle.jac_rows.specs.declared.plain.PlainRow.{PlainRow}
use Rattle.jac_plain.specs.World.{World}
use Rattle.jac_plain.specs.declared.page.Piece.{Piece}
use Rattle.jac_plain.specs.declared.page.Piece.TheVariants as piece
use Rattle.jac_plain.specs.Expressions.{mean, answers, bound, binding, bytes_of, is_true}
pub use Rattle.jac_plain.specs.Records.{drafted_cells, default_cells, plain_row, shielded_cells, is_hidden_by, every_field, is_set, changed_rows, without, tables_with, tables_after}

-- What stays the same while statements run: the models; the labels that are shown, which only a
-- create and an update use; the viewer; the number of the request; and the record of the loop
-- around the statements.
pub record Setting : Type 0 where
  pub models : List Entity
  pub shown : ℕ → Bool
  pub viewer : Option ℕ
  pub number : ℕ
  pub around : Option ℕ

-- What a run changes.
pub record Run : Type 0 where
  pub tables : List (List PlainRow)
  pub env : List Binding
  pub pieces : List Piece

abbrev pub world_of : Setting → Run → World
world_of k r = record { models = k.models; this = None; viewer = k.viewer; tables = r.tables }

abbrev pub value_in : Setting → Expression → Run → Value
value_in k e r = mean (world_of k r) e r.env

abbrev pub with_piece : Piece → Run → Run
with_piece p r = record r { pieces = r.pieces ++ p ∷ [] }

-- The run with only its first n bindings.
abbrev pub cut_to : ℕ → Run → Run
cut_to n r = record r { env = take n r.env }

-- The body with these bindings. After it, only as many bindings are left as before.
abbrev pub scoped_run : List Binding → (Run → Run) → Run → Run
scoped_run env body r = cut_to (length r.env) (body (record r { env = env }))

abbrev pub with_binding : List ℕ → Value → (Run → Run) → Run → Run
with_binding name v body r = scoped_run (r.env ++ binding name v ∷ []) body r

-- Whether a binding has the name.
abbrev pub binds : List ℕ → List Binding → Bool
binds name [] = false
binds name (b ∷ bs) = if same_text b.name name then true else binds name bs

-- Gives the value to the innermost binding of this name, which is the last one. If there is none,
-- the bindings are the same.
abbrev pub with_value : List ℕ → Value → List Binding → List Binding
with_value name v [] = []
with_value name v (b ∷ bs) =
    if binds name bs then b ∷ with_value name v bs
    else (if same_text b.name name then binding b.name v ∷ bs else b ∷ bs)

abbrev pub choose : Bool → (Run → Run) → (Run → Run) → Run → Run
choose true first second r = first r
choose false first second r = second r

-- The body for each tuple.
abbrev pub for_each : List Binder → (List ℕ → Run → Run) → List (List ℕ) → Run → Run
for_each bs body [] r = r
for_each bs body (ids ∷ tuples) r = for_each bs body tuples (scoped_run (bound bs ids r.env)
    (body ids)
    r)

-- The record of a loop's answer, if the loop has exactly one binder.
abbrev pub loop_of : List ℕ → Option ℕ
loop_of [] = None
loop_of (id ∷ []) = Some id
loop_of (id ∷ (other ∷ ids)) = None

-- The id of a new record. If its model is nested and the loop's record was made outside of loops,
-- the id is made around that of the loop's record.
abbrev pub around_id : Bool → Option ℕ → ℕ → ℕ
around_id false around base = base
around_id true None base = base
around_id true (Some l) base = if is_narrow l then loop_id l base else base

-- The id of the record that the create at this site makes.
abbrev pub id_made : Setting → ℕ → ℕ → ℕ
id_made k m site = around_id (is_nested_at k.models m) k.around (record_id k.number site m)

-- Whether a new record is put into the tables: its model has no group that hides records, or the
-- record's label of this group is shown.
abbrev pub is_kept : List Entity → (ℕ → Bool) → ℕ → ℕ → Bool
is_kept models shown m id = not (is_hidden_by shown id (hiding_place (groups_at models m)))

-- The tables with a new record of the model, if it is kept.
abbrev pub tables_made : Bool → ℕ → PlainRow → List (List PlainRow) → List (List PlainRow)
tables_made true m row tables = tables_with m row tables
tables_made false m row tables = tables

abbrev pub with_made : Bool → ℕ → PlainRow → Run → Run
with_made kept m row r = record r { tables = tables_made kept m row r.tables }

-- The cells of a new record, as they are stored.
abbrev pub created_cells : Setting → ℕ → ℕ → List Assigned → Run → List Value
created_cells k m id cells r =
    let fields = fields_at k.models m in
    shielded_cells k.models k.shown m id every_field (drafted_cells k.models fields
    (λ e. value_in k e r) cells
    (default_cells k.models fields))

-- Makes a new record, and runs the body with the name bound to it. If the model doesn't exist,
-- nothing is done.
abbrev pub create_run : Setting → List ℕ → Option ℕ → ℕ → List Assigned → (Run → Run) → Run → Run
create_run k name None site cells body r = r
create_run k name (Some m) site cells body r =
    let id = id_made k m site in
    with_binding name (value.Ref (Some id)) body (with_made (is_kept k.models k.shown m id) m
    (plain_row id (created_cells k m id cells r)) r)

-- The cells of an existing record, as an update stores them.
abbrev pub updated_cells : Setting → ℕ → ℕ → List Assigned → Run → List Value → List Value
updated_cells k m id cells r old =
    let fields = fields_at k.models m in
    shielded_cells k.models k.shown m id (is_set fields cells)
    (drafted_cells k.models fields (λ e. value_in k e r) cells old)

abbrev pub update_run : Setting → Option ℕ → Value → List Assigned → Run → Run
update_run k None target cells r = r
update_run k (Some m) target cells r =
    record r {
      tables = tables_after m target (λ id rows. changed_rows id (updated_cells k m id cells r)
          rows) r.tables;
    }

abbrev pub delete_run : Option ℕ → Value → Run → Run
delete_run None target r = r
delete_run (Some m) target r = record r { tables = tables_after m target without r.tables }

abbrev mutual
  -- The run after a statement.
  pub leaves : Setting → Statement → Run → Run
  leaves k (Statement.put e) r = with_piece (piece.Added (value_text (value_in k e r))) r
  leaves k (Statement.escape e) r = with_piece (piece.Added (html (value_text (value_in k e r)))) r
  leaves k (Statement.bind x e body) r = with_binding x (value_in k e r) (leaves_all k body) r
  leaves k (Statement.assign x e) r = record r { env = with_value x (value_in k e r) r.env }
  leaves k (Statement.branch c first second) r = choose (is_true (value_in k c r))
      (leaves_all k first) (leaves_all k second) r
  leaves k (Statement.each q body) r =
      for_each q.binders (λ ids. leaves_all (record k { around = loop_of ids }) body)
      (answers (world_of k r) q r.env) r
  leaves k (Statement.create x m site cells body) r = create_run k x (model_place k.models m) site
      cells (leaves_all k body) r
  leaves k (Statement.update m e cells) r = update_run k (model_place k.models m) (value_in k e r)
      cells r
  leaves k (Statement.delete m e) r = delete_run (model_place k.models m) (value_in k e r) r
  leaves k Statement.missing r = with_piece piece.Missing r
  leaves k (Statement.redirect e) r = with_piece (piece.Redirect (bytes_of (value_in k e r))) r
  leaves k (Statement.template t) r = r
  leaves k (Statement.block body) r = leaves_all k body r

  -- The run after statements, one after another.
  pub leaves_all : Setting → Statements → Run → Run
  leaves_all k Statements.none r = r
  leaves_all k (Statements.more s rest) r = leaves_all k rest (leaves k s r)
