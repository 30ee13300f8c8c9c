-- After statements that read no guarded field, what a record holds still depends on its own labels
-- alone.
use Rattle.std.proofs.Common.{◌≡◌, ◌∙◌, sym, refl, ap, subst, ℕ, ◌+◌, ◌&&◌, not, Bool, true, false, List, [], ◌∷◌, ◌++◌, length, take, Option, Some, None, slice_get}
use Rattle.std.proofs.lemmas.Bool.{and_parts}
use Rattle.jac_value.specs.Values.{value_text}
use Rattle.jac_value.specs.declared.value.Value.{Value}
use Rattle.jac_value.specs.declared.value.Value.TheVariants as value
use Rattle.jac_lang.specs.declared.bindings.Binding.{Binding}
use Rattle.jac_lang.specs.declared.pages.Verb.{Verb}
use Rattle.jac_lang.specs.declared.pages.Verb.TheVariants as verbs
use Rattle.jac_lang.specs.declared.queries.Binder.{Binder}
use Rattle.jac_lang.specs.Lookup.{model_place, fields_at}
use Rattle.jac_lang.specs.Syntax.{Entity, Expression, Question, Assigned, Statement, Statements, Application}
use Rattle.jac_rows.specs.declared.plain.PlainRow.{PlainRow}
use Rattle.jac_rows.specs.declared.plain.PlainState.{PlainState}
use Rattle.jac_plain.specs.World.{World}
use Rattle.jac_plain.specs.declared.page.Piece.{Piece}
use Rattle.jac_plain.specs.declared.page.Piece.TheVariants as piece
use Rattle.jac_plain.specs.Expressions.{mean, answers, answers_by, bound, binding, bytes_of, is_true}
use Rattle.jac_plain.specs.Records.{drafted_cells, default_cells, plain_row, is_hidden_by, every_field, is_set, changed_rows, without, tables_after}
use Rattle.jac_value.specs.Html.{html}
use Rattle.jac_plain.specs.Statements.{Setting, Run, with_piece, scoped_run, with_value, choose, for_each, loop_of, id_made, is_kept, tables_made, with_made, created_cells, create_run, updated_cells, update_run, delete_run, leaves, leaves_all}
use Rattle.jac_plain.specs.Requests.{Visit, Worlds, body_in, method_in, run_of, after_by, after}
use Rattle.jac_open_app_laws.specs.Open.{is_open, is_open_order, masked_cells}
use Rattle.jac_open_app_laws.specs.Owned.{AgreeOfRecord, IsOwned, AreOwnedTables, DependOnOwn, HideNothing, are_open_sets, reads_openly, read_openly, stores_openly, is_stored_openly}
use Rattle.jac_open_app_laws.proofs.Masked.{masked_world, answers_masked, mean_masked}
use Rattle.jac_open_app_laws.proofs.OwnedRows.{tables_masked_same, shielded_owned, drafted_same, drafted_masked, owned_changed, owned_without, owned_with, owned_after, tables_alone}

abbrev world_in : List Entity → Option ℕ → List (List PlainRow) → World
world_in models viewer tables = record { models = models; this = None; viewer = viewer; tables = tables }

-- Two runs under two assignments, up to the same statement.
record RunsOwned (models : List Entity) (v w : ℕ → Bool) (r s : Run) : Type 0 where
  tables : AreOwnedTables models 0 v w r.tables s.tables
  env : r.env ≡ s.env
  pieces : r.pieces ≡ s.pieces

named_again : (models : List Entity) (m : ℕ) (v w : ℕ → Bool) (id a b : ℕ) (one two : List Value) → a ≡ id → b ≡ id
    → IsOwned models m v w (plain_row id one) (plain_row id two) → IsOwned models m v w (plain_row a one) (plain_row b two)
named_again models m v w id a b one two same same' h =
    let first = subst (λ n. IsOwned models m v w (plain_row n one) (plain_row id two)) (sym same) h in
    subst (λ n. IsOwned models m v w (plain_row a one) (plain_row n two)) (sym same') first

module _ (models : List Entity) (v w : ℕ → Bool) (viewer : Option ℕ) (number : ℕ) (kept : HideNothing models) where
  abbrev setting : (ℕ → Bool) → Option ℕ → Setting
  setting shown around = record { models = models; shown = shown; viewer = viewer; number = number; around = around }

  -- ---- what is read

  value_same : (e : Expression) (r s : Run) → is_open models e ≡ true → RunsOwned models v w r s
      → mean (world_in models viewer r.tables) e r.env ≡ mean (world_in models viewer s.tables) e s.env
  value_same e r s clear h =
      let same = tables_masked_same models 0 v w r.tables s.tables h.tables in
      sym (mean_masked (world_in models viewer r.tables) e r.env clear)
      ∙ (λ i. mean (world_in models viewer (same i)) e (h.env i))
      ∙ mean_masked (world_in models viewer s.tables) e s.env clear

  answers_same : (q : Question) (r s : Run) → is_open models q.cond ≡ true → is_open_order models q.binders q.order ≡ true → RunsOwned models v w r s
      → answers (world_in models viewer r.tables) q r.env ≡ answers (world_in models viewer s.tables) q s.env
  answers_same q r s clear ordered h =
      let one = world_in models viewer r.tables in
      let two = world_in models viewer s.tables in
      let same = tables_masked_same models 0 v w r.tables s.tables h.tables in
      sym (answers_masked one q.binders q.order (mean (masked_world one) q.cond) (mean one q.cond) r.env ordered (λ i en. mean_masked one q.cond en clear i))
      ∙ (λ i. answers_by (world_in models viewer (same i)) q.binders q.order (mean (world_in models viewer (same i)) q.cond) (h.env i))
      ∙ answers_masked two q.binders q.order (mean (masked_world two) q.cond) (mean two q.cond) s.env ordered (λ i en. mean_masked two q.cond en clear i)

  -- ---- what is left

  piece_owned : (one two : Piece) (r s : Run) → one ≡ two → RunsOwned models v w r s → RunsOwned models v w (with_piece one r) (with_piece two s)
  piece_owned one two r s same h = record { tables = h.tables; env = h.env; pieces = λ i. h.pieces i ++ same i ∷ [] }

  scoped_owned : (env more : List Binding) (one two : Run → Run) (r s : Run) → env ≡ more → RunsOwned models v w r s
      → ((a b : Run) → RunsOwned models v w a b → RunsOwned models v w (one a) (two b)) → RunsOwned models v w (scoped_run env one r) (scoped_run more two s)
  scoped_owned env more one two r s same h step =
      let inner = step (record r { env = env }) (record s { env = more }) (record { tables = h.tables; env = same; pieces = h.pieces }) in
      record { tables = inner.tables; env = λ i. take (length (h.env i)) (inner.env i); pieces = inner.pieces }

  choose_owned : (b c : Bool) (one two first second : Run → Run) (r s : Run) → b ≡ c → RunsOwned models v w r s
      → ((x y : Run) → RunsOwned models v w x y → RunsOwned models v w (one x) (first y)) → ((x y : Run) → RunsOwned models v w x y → RunsOwned models v w (two x) (second y))
      → RunsOwned models v w (choose b one two r) (choose c first second s)
  choose_owned true true one two first second r s same h taken passed = taken r s h
  choose_owned false false one two first second r s same h taken passed = passed r s h
  choose_owned true false one two first second r s same h taken passed = absurd cc
  choose_owned false true one two first second r s same h taken passed = absurd cc

  each_owned : (bs : List Binder) (one two : List ℕ → Run → Run) (tuples : List (List ℕ)) (r s : Run) → RunsOwned models v w r s
      → ((ids : List ℕ) (a b : Run) → RunsOwned models v w a b → RunsOwned models v w (one ids a) (two ids b)) → RunsOwned models v w (for_each bs one tuples r) (for_each bs two tuples s)
  each_owned bs one two [] r s h step = h
  each_owned bs one two (ids ∷ tuples) r s h step =
      each_owned bs one two tuples (scoped_run (bound bs ids r.env) (one ids) r) (scoped_run (bound bs ids s.env) (two ids) s)
      (scoped_owned (bound bs ids r.env) (bound bs ids s.env) (one ids) (two ids) r s (ap (bound bs ids) h.env) h (step ids)) step

  -- ---- writes

  made_owned : (b c : Bool) (m id : ℕ) (one two : List Value) (tables more : List (List PlainRow)) → b ≡ true → c ≡ true
      → IsOwned models m v w (plain_row id one) (plain_row id two) → AreOwnedTables models 0 v w tables more
      → AreOwnedTables models 0 v w (tables_made b m (plain_row id one) tables) (tables_made c m (plain_row id two) more)
  made_owned true true m id one two tables more on on' new h = owned_with models m id v w one two tables more new h
  made_owned false c m id one two tables more on on' new h = absurd cc
  made_owned true false m id one two tables more on on' new h = absurd cc

  kept_all : (shown : ℕ → Bool) (m id : ℕ) → is_kept models shown m id ≡ true
  kept_all shown m id = ap (λ o. not (is_hidden_by shown id o)) (kept m)

  created_owned : (name : List ℕ) (place : Option ℕ) (site : ℕ) (cells : List Assigned) (one two : Run → Run) (around : Option ℕ) (r s : Run)
      → are_open_sets models cells ≡ true → RunsOwned models v w r s → ((a b : Run) → RunsOwned models v w a b → RunsOwned models v w (one a) (two b))
      → RunsOwned models v w (create_run (setting v around) name place site cells one r) (create_run (setting w around) name place site cells two s)
  created_owned name None site cells one two around r s clear h step = h
  created_owned name (Some m) site cells one two around r s clear h step =
      let id = id_made (setting v around) m site in
      let fields = fields_at models m in
      let draft = drafted_cells models fields (λ e. mean (world_in models viewer r.tables) e r.env) cells (default_cells models fields) in
      let draft' = drafted_cells models fields (λ e. mean (world_in models viewer s.tables) e s.env) cells (default_cells models fields) in
      let same : draft ≡ draft' =
      drafted_same models fields (λ e. mean (world_in models viewer r.tables) e r.env) (λ e. mean (world_in models viewer s.tables) e s.env) cells (default_cells models fields)
      (λ e o. value_same e r s o h) clear in
      let new = shielded_owned models m id v w every_field draft draft' (ap (masked_cells models m) same) (λ agree. same) in
      let stored = made_owned (is_kept models v m id) (is_kept models w m id) m id (created_cells (setting v around) m id cells r) (created_cells (setting w around) m id cells s)
      r.tables s.tables (kept_all v m id) (kept_all w m id) new h.tables in
      let behind : RunsOwned models v w (with_made (is_kept models v m id) m (plain_row id (created_cells (setting v around) m id cells r)) r)
      (with_made (is_kept models w m id) m (plain_row id (created_cells (setting w around) m id cells s)) s) =
      record { tables = stored; env = h.env; pieces = h.pieces } in
      scoped_owned (r.env ++ binding name (value.Ref (Some id)) ∷ []) (s.env ++ binding name (value.Ref (Some id)) ∷ []) one two
      (with_made (is_kept models v m id) m (plain_row id (created_cells (setting v around) m id cells r)) r)
      (with_made (is_kept models w m id) m (plain_row id (created_cells (setting w around) m id cells s)) s)
      (ap (λ env. env ++ binding name (value.Ref (Some id)) ∷ []) h.env) behind step

  cells_owned : (m id : ℕ) (cells : List Assigned) (around : Option ℕ) (r s : Run) → are_open_sets models cells ≡ true → RunsOwned models v w r s
      → (row other : PlainRow) → row.id ≡ id → IsOwned models m v w row other
      → IsOwned models m v w (plain_row row.id (updated_cells (setting v around) m id cells r row.cells)) (plain_row other.id (updated_cells (setting w around) m id cells s other.cells))
  cells_owned m id cells around r s clear h row other is old =
      let fields = fields_at models m in
      let one : Expression → Value = λ e. mean (world_in models viewer r.tables) e r.env in
      let two : Expression → Value = λ e. mean (world_in models viewer s.tables) e s.env in
      let same = drafted_same models fields one two cells other.cells (λ e o. value_same e r s o h) clear in
      let masked = drafted_masked models m fields one cells row.cells other.cells old.clear ∙ ap (masked_cells models m) same in
      let own : AgreeOfRecord models m id v w → drafted_cells models fields one cells row.cells ≡ drafted_cells models fields two cells other.cells =
      λ agree. ap (drafted_cells models fields one cells) (old.own (subst (λ n. AgreeOfRecord models m n v w) (sym is) agree)) ∙ same in
      named_again models m v w id row.id other.id (updated_cells (setting v around) m id cells r row.cells) (updated_cells (setting w around) m id cells s other.cells)
      is (sym old.same_id ∙ is)
      (shielded_owned models m id v w (is_set fields cells) (drafted_cells models fields one cells row.cells) (drafted_cells models fields two cells other.cells) masked own)

  updated_owned : (place : Option ℕ) (one two : Value) (cells : List Assigned) (around : Option ℕ) (r s : Run) → one ≡ two → are_open_sets models cells ≡ true
      → RunsOwned models v w r s → RunsOwned models v w (update_run (setting v around) place one cells r) (update_run (setting w around) place two cells s)
  updated_owned None one two cells around r s same clear h = h
  updated_owned (Some m) one two cells around r s same clear h =
      let step : (id : ℕ) → List PlainRow → List PlainRow = λ id rows. changed_rows id (updated_cells (setting v around) m id cells r) rows in
      let step' : (id : ℕ) → List PlainRow → List PlainRow = λ id rows. changed_rows id (updated_cells (setting w around) m id cells s) rows in
      let left = owned_after models m v w one step step' r.tables s.tables
      (λ id rows others rows_owned. owned_changed models m v w id (updated_cells (setting v around) m id cells r) (updated_cells (setting w around) m id cells s) rows others
      (cells_owned m id cells around r s clear h) rows_owned) h.tables in
      record {
        tables = subst (λ t. AreOwnedTables models 0 v w (tables_after m one step r.tables) (tables_after m t step' s.tables)) same left;
        env = h.env;
        pieces = h.pieces;
      }

  deleted_owned : (place : Option ℕ) (one two : Value) (r s : Run) → one ≡ two → RunsOwned models v w r s → RunsOwned models v w (delete_run place one r) (delete_run place two s)
  deleted_owned None one two r s same h = h
  deleted_owned (Some m) one two r s same h =
      let left = owned_after models m v w one without without r.tables s.tables (λ id rows others rows_owned. owned_without models m v w id rows others rows_owned) h.tables in
      record {
        tables = subst (λ t. AreOwnedTables models 0 v w (tables_after m one without r.tables) (tables_after m t without s.tables)) same left;
        env = h.env;
        pieces = h.pieces;
      }

  -- ---- statements

  mutual
    owned : (around : Option ℕ) (t : Statement) (r s : Run) → reads_openly models t ≡ true → RunsOwned models v w r s
        → RunsOwned models v w (leaves (setting v around) t r) (leaves (setting w around) t s)
    owned around (Statement.put e) r s clear h =
        let same = value_same e r s clear h in
        piece_owned (piece.Added (value_text (mean (world_in models viewer r.tables) e r.env))) (piece.Added (value_text (mean (world_in models viewer s.tables) e s.env))) r s
        (ap (λ x. piece.Added (value_text x)) same) h
    owned around (Statement.escape e) r s clear h =
        let same = value_same e r s clear h in
        piece_owned (piece.Added (html (value_text (mean (world_in models viewer r.tables) e r.env)))) (piece.Added (html (value_text (mean (world_in models viewer s.tables) e s.env)))) r s
        (ap (λ x. piece.Added (html (value_text x))) same) h
    owned around (Statement.bind x e body) r s clear h =
        let parts = and_parts (is_open models e) (read_openly models body) clear in
        let same = value_same e r s parts.0 h in
        scoped_owned (r.env ++ binding x (mean (world_in models viewer r.tables) e r.env) ∷ []) (s.env ++ binding x (mean (world_in models viewer s.tables) e s.env) ∷ [])
        (leaves_all (setting v around) body) (leaves_all (setting w around) body) r s
        (λ i. h.env i ++ binding x (same i) ∷ []) h (λ a b g. owned_all around body a b parts.1 g)
    owned around (Statement.assign x e) r s clear h =
        let same = value_same e r s clear h in
        record { tables = h.tables; env = λ i. with_value x (same i) (h.env i); pieces = h.pieces }
    owned around (Statement.branch c first second) r s clear h =
        let parts = and_parts (is_open models c) (read_openly models first && read_openly models second) clear in
        let bodies = and_parts (read_openly models first) (read_openly models second) parts.1 in
        choose_owned (is_true (mean (world_in models viewer r.tables) c r.env)) (is_true (mean (world_in models viewer s.tables) c s.env))
        (leaves_all (setting v around) first) (leaves_all (setting v around) second) (leaves_all (setting w around) first) (leaves_all (setting w around) second) r s
        (ap is_true (value_same c r s parts.0 h)) h (λ a b g. owned_all around first a b bodies.0 g) (λ a b g. owned_all around second a b bodies.1 g)
    owned around (Statement.each q body) r s clear h =
        let parts = and_parts (is_open models q.cond) (is_open_order models q.binders q.order && read_openly models body) clear in
        let rest = and_parts (is_open_order models q.binders q.order) (read_openly models body) parts.1 in
        let one : List ℕ → Run → Run = λ ids. leaves_all (setting v (loop_of ids)) body in
        let two : List ℕ → Run → Run = λ ids. leaves_all (setting w (loop_of ids)) body in
        let done = each_owned q.binders one two (answers (world_in models viewer r.tables) q r.env) r s h (λ ids a b g. owned_all (loop_of ids) body a b rest.1 g) in
        subst (λ tuples. RunsOwned models v w (for_each q.binders one (answers (world_in models viewer r.tables) q r.env) r) (for_each q.binders two tuples s))
        (answers_same q r s parts.0 rest.0 h) done
    owned around (Statement.create x m site cells body) r s clear h =
        let parts = and_parts (are_open_sets models cells) (read_openly models body) clear in
        created_owned x (model_place models m) site cells (leaves_all (setting v around) body) (leaves_all (setting w around) body) around r s parts.0 h
        (λ a b g. owned_all around body a b parts.1 g)
    owned around (Statement.update m e cells) r s clear h =
        let parts = and_parts (is_open models e) (are_open_sets models cells) clear in
        updated_owned (model_place models m) (mean (world_in models viewer r.tables) e r.env) (mean (world_in models viewer s.tables) e s.env) cells around r s
        (value_same e r s parts.0 h) parts.1 h
    owned around (Statement.delete m e) r s clear h =
        deleted_owned (model_place models m) (mean (world_in models viewer r.tables) e r.env) (mean (world_in models viewer s.tables) e s.env) r s (value_same e r s clear h) h
    owned around Statement.missing r s clear h = piece_owned piece.Missing piece.Missing r s refl h
    owned around (Statement.redirect e) r s clear h =
        let same = value_same e r s clear h in
        piece_owned (piece.Redirect (bytes_of (mean (world_in models viewer r.tables) e r.env))) (piece.Redirect (bytes_of (mean (world_in models viewer s.tables) e s.env))) r s
        (ap (λ x. piece.Redirect (bytes_of x)) same) h
    owned around (Statement.template t) r s clear h = h
    owned around (Statement.block body) r s clear h = owned_all around body r s clear h

    owned_all : (around : Option ℕ) (ts : Statements) (r s : Run) → read_openly models ts ≡ true → RunsOwned models v w r s
        → RunsOwned models v w (leaves_all (setting v around) ts r) (leaves_all (setting w around) ts s)
    owned_all around Statements.none r s clear h = h
    owned_all around (Statements.more t rest) r s clear h =
        let parts = and_parts (reads_openly models t) (read_openly models rest) clear in
        owned_all around rest (leaves (setting v around) t r) (leaves (setting w around) t s) parts.1 (owned around t r s parts.0 h)

-- ---- requests

run_owned : (app : Application) (v w : ℕ → Bool) (t u : PlainState) (visit : Visit) → HideNothing app.models
    → read_openly app.models (body_in (slice_get app.views visit.view)) ≡ true → t.number ≡ u.number → AreOwnedTables app.models 0 v w t.tables u.tables
    → AreOwnedTables app.models 0 v w (run_of v app t visit).tables (run_of w app u visit).tables
run_owned app v w t u visit kept clear same h =
    let first : Run = record { tables = t.tables; env = visit.env; pieces = [] } in
    let second : Run = record { tables = u.tables; env = visit.env; pieces = [] } in
    let both = owned_all app.models v w visit.viewer t.number kept None (body_in (slice_get app.views visit.view)) first second clear (record { tables = h; env = refl; pieces = refl }) in
    subst (λ n. AreOwnedTables app.models 0 v w (run_of v app t visit).tables (run_of w app (record u { number = n }) visit).tables) same both.tables

after_owned : (verb : Verb) (app : Application) (v w : ℕ → Bool) (t u : PlainState) (visit : Visit) → HideNothing app.models
    → stores_openly app.models verb (body_in (slice_get app.views visit.view)) ≡ true → t.number ≡ u.number → AreOwnedTables app.models 0 v w t.tables u.tables
    → AreOwnedTables app.models 0 v w (after_by verb v app t visit).tables (after_by verb w app u visit).tables
after_owned verbs.Get app v w t u visit kept clear same h = h
after_owned verbs.Post app v w t u visit kept clear same h = run_owned app v w t u visit kept clear same h

after_numbered : (verb : Verb) (app : Application) (v w : ℕ → Bool) (t u : PlainState) (visit : Visit) → t.number ≡ u.number
    → (after_by verb v app t visit).number ≡ (after_by verb w app u visit).number
after_numbered verbs.Get app v w t u visit same = same
after_numbered verbs.Post app v w t u visit same = ap (λ n. n + 1) same

pub still_own : (app : Application) (worlds : Worlds) (visit : Visit) → HideNothing app.models → is_stored_openly app visit.view ≡ true
    → DependOnOwn app worlds → DependOnOwn app (λ w. after w app (worlds w) visit)
still_own app worlds visit kept clear h = record {
  numbered = λ v w. after_numbered (method_in (slice_get app.views visit.view)) app v w (worlds v) (worlds w) visit (h.numbered v w);
  tables = λ v w. after_owned (method_in (slice_get app.views visit.view)) app v w (worlds v) (worlds w) visit kept clear (h.numbered v w) (h.tables v w);
}

pub start_own : (app : Application) (t : PlainState) → DependOnOwn app (λ w. t)
start_own app t = record {
  numbered = λ v w. refl;
  tables = λ v w. tables_alone app.models 0 v w t.tables;
}
