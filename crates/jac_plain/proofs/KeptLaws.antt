-- If a property holds for each row of each table, and creates and updates keep it, it holds after
-- statements run. Nested records must be created in exactly one loop over one binder.
use Rattle.std.proofs.Common.{◌≡◌, refl, sym, subst, arith, ℕ, ◌<◌, ◌≤◌, ◌^◌, nat_lt, Bool, true, false, List, [], ◌∷◌, ◌++◌, length, Option, Some, None}
use Rattle.std.specs.Prelude.{⊤}
use Rattle.std.specs.List.{AllByRecursion}
use Rattle.std.proofs.lemmas.Bool.{and_parts}
use Rattle.std.proofs.lemmas.List.Quantifiers.{position-Some}
use Rattle.jac_value.specs.Ids.{record_id}
use Rattle.jac_value.specs.declared.value.Value.{Value}
use Rattle.jac_value.specs.declared.value.Value.TheVariants as value
use Rattle.jac_lang.specs.declared.bindings.Binding.{Binding}
use Rattle.jac_lang.specs.declared.queries.Binder.{Binder}
use Rattle.jac_lang.specs.Lookup.{same_text, model_place, is_nested_at, nested_at_place, is_nested_named}
use Rattle.jac_lang.specs.Loops.{Loops, is_flat, behind_for, may_create, is_placed, are_placed}
use Rattle.jac_lang.specs.Syntax.{Entity, Question, Assigned, Statement, Statements}
use Rattle.jac_rows.specs.Good.{ArePlainRows}
use Rattle.jac_rows.specs.Tables.{rows_of}
use Rattle.jac_rows.specs.declared.plain.PlainRow.{PlainRow}
use Rattle.jac_plain.specs.Expressions.{answers, bound, binding, is_true}
use Rattle.jac_plain.specs.Models.{is_sited, are_sited, is_shaped, AreFlat}
use Rattle.jac_plain.specs.Records.{plain_row, with_row, changed_rows, without, tables_with, tables_after}
use Rattle.jac_plain.specs.Statements.{Setting, Run, world_of, value_in, scoped_run, choose, for_each, loop_of, id_made, is_kept, with_made, created_cells, create_run, updated_cells, update_run, delete_run, leaves, leaves_all}
use Rattle.jac_plain.proofs.RowLaws.{rising-with_row, rising-changed, rising-without, all-with_row, all-changed, all-without, set_rows}
use Rattle.jac_plain.proofs.MadeIds.{base_narrow, IsAround, IsAroundIn, shaped_by}
use Rattle.jac_plain.proofs.LoopLaws.{IsLoop, AreLoops, loops_answers}

-- The conditions on the number and the models, so that there are ids.
pub record IsFit (models : List Entity) (number : ℕ) : Type 0 where
  pub some : 0 < number
  pub room : number < 2 ^ 40
  pub few : length models ≤ 64

bare : Entity
bare = record { name = []; nested = false; fields = []; groups = [] }

pub model_within : (models : List Entity) (name : List ℕ) (m : ℕ) → model_place models name ≡ Some m → m < length models
model_within models name m e = (position-Some (λ (x : Entity). same_text x.name name) models m bare e).0

-- The conditions on the property.
pub record IsKeeping (P : List Entity → ℕ → ℕ → PlainRow → Type 0) : Type 0 where
  pub made : (k : Setting) (m site : ℕ) (cells : List Assigned) (r : Run) → IsFit k.models k.number → m < length k.models → site < 64
      → is_shaped (is_nested_at k.models m) (id_made k m site) ≡ true
      → P k.models k.number m (plain_row (id_made k m site) (created_cells k m (id_made k m site) cells r))
  pub updates : (k : Setting) (m id : ℕ) (sets : List Assigned) (run : Run) (row : PlainRow) → m < length k.models → P k.models k.number m row
      → P k.models k.number m (plain_row row.id (updated_cells k m id sets run row.cells))
  pub shaped : (models : List Entity) (number m : ℕ) (row : PlainRow) → P models number m row → is_shaped (is_nested_at models m) row.id ≡ true

mapped : (Q R : List ℕ → Type 0) → ((ids : List ℕ) → Q ids → R ids) → (ts : List (List ℕ)) → AllByRecursion Q ts → AllByRecursion R ts
mapped Q R f [] a = tt
mapped Q R f (t ∷ ts) a = (f t a.0, mapped Q R f ts a.1)

anyway : (Q : List ℕ → Type 0) → ((ids : List ℕ) → Q ids) → (ts : List (List ℕ)) → AllByRecursion Q ts
anyway Q f [] = tt
anyway Q f (t ∷ ts) = (f t, anyway Q f ts)

pub loop_around : (ids : List ℕ) → IsLoop ids → IsAround (loop_of ids)
loop_around ids is = subst (λ t. IsAround (loop_of t)) (sym is.is) is.narrow

all_around : (flat : Bool) (ts : List (List ℕ)) → AreLoops ts → AllByRecursion (λ ids. IsAroundIn (Loops.one flat) (loop_of ids)) ts
all_around flat [] a = tt
all_around flat (t ∷ ts) a = ((λ _. loop_around t a.0), all_around flat ts a.2)

not_flat : (flat : Bool) → flat ≡ false → (ids : List ℕ) → IsAroundIn (Loops.one flat) (loop_of ids)
not_flat true e ids = cc
not_flat false e ids = λ h. cc

module _ (P : List Entity → ℕ → ℕ → PlainRow → Type 0) (keeping : IsKeeping P) where
  abbrev pub AreRowsOf : List Entity → ℕ → ℕ → List PlainRow → Type 0
  AreRowsOf models number m rows = ArePlainRows rows × AllByRecursion (P models number m) rows

  abbrev pub AreKept : List Entity → ℕ → List (List PlainRow) → Type 0
  AreKept models number tables = (m : ℕ) → AreRowsOf models number m (rows_of tables m)

  flat_rows : (models : List Entity) (number m : ℕ) (rows : List PlainRow) → AllByRecursion (P models number m) rows → AllByRecursion (λ (r : PlainRow). is_shaped (is_nested_at models m) r.id ≡ true) rows
  flat_rows models number m [] a = tt
  flat_rows models number m (r ∷ rows) a = (keeping.shaped models number m r a.0, flat_rows models number m rows a.1)

  pub kept_flat : (models : List Entity) (number : ℕ) (tables : List (List PlainRow)) → AreKept models number tables → AreFlat models tables
  kept_flat models number tables g m = flat_rows models number m (rows_of tables m) (g m).1

  -- The loop's record at each answer.
  arounds_if : (k : Setting) (q : Question) (r : Run) (flat : Bool) → is_flat k.models q.binders ≡ flat → AreKept k.models k.number r.tables
      → AllByRecursion (λ ids. IsAroundIn (Loops.one flat) (loop_of ids)) (answers (world_of k r) q r.env)
  arounds_if k q r true e g = all_around true (answers (world_of k r) q r.env) (loops_answers (world_of k r) q r.env (λ m. (g m).0) (kept_flat k.models k.number r.tables g) e)
  arounds_if k q r false e g = anyway (λ ids. IsAroundIn (Loops.one false) (loop_of ids)) (not_flat false refl) (answers (world_of k r) q r.env)

  arounds : (k : Setting) (loops : Loops) (q : Question) (r : Run) → AreKept k.models k.number r.tables
      → AllByRecursion (λ ids. IsAroundIn (behind_for k.models q.binders loops) (loop_of ids)) (answers (world_of k r) q r.env)
  arounds k Loops.none q r g = arounds_if k q r (is_flat k.models q.binders) refl g
  arounds k (Loops.one flat) q r g = anyway (λ ids. ⊤) (λ ids. tt) (answers (world_of k r) q r.env)
  arounds k Loops.several q r g = anyway (λ ids. ⊤) (λ ids. tt) (answers (world_of k r) q r.env)

  -- The step keeps the property of the tables.
  abbrev pub Keeps : List Entity → ℕ → (Run → Run) → Type 0
  Keeps models number step = (r : Run) → AreKept models number r.tables → AreKept models number (step r).tables

  keeps_choose : (k : Setting) (c : Bool) (first second : Run → Run) → Keeps k.models k.number first → Keeps k.models k.number second → Keeps k.models k.number (choose c first second)
  keeps_choose k true first second one two r g = one r g
  keeps_choose k false first second one two r g = two r g

  keeps_scoped : (k : Setting) (env : List Binding) (body : Run → Run) → Keeps k.models k.number body → Keeps k.models k.number (scoped_run env body)
  keeps_scoped k env body kept r g = kept (record r { env = env }) g

  keeps_each : (k : Setting) (bs : List Binder) (body : List ℕ → Run → Run) (tuples : List (List ℕ)) → AllByRecursion (λ ids. Keeps k.models k.number (body ids)) tuples
      → Keeps k.models k.number (for_each bs body tuples)
  keeps_each k bs body [] kept r g = g
  keeps_each k bs body (ids ∷ tuples) kept r g =
      keeps_each k bs body tuples kept.1 (scoped_run (bound bs ids r.env) (body ids) r) (keeps_scoped k (bound bs ids r.env) (body ids) kept.0 r g)

  kept_with : (models : List Entity) (number i : ℕ) (row : PlainRow) (tables : List (List PlainRow)) → P models number i row → AreKept models number tables
      → AreKept models number (tables_with i row tables)
  kept_with models number i row tables h g m =
      set_rows (λ rows. AreRowsOf models number m rows) tables i m (with_row row (rows_of tables i))
      (λ e. subst (λ j. AreRowsOf models number j (with_row row (rows_of tables i))) e
      (rising-with_row row (rows_of tables i) (g i).0, all-with_row (P models number i) row (rows_of tables i) h (g i).1))
      (g m)

  kept_made : (b : Bool) (models : List Entity) (number i : ℕ) (row : PlainRow) (r : Run) → P models number i row → AreKept models number r.tables
      → AreKept models number (with_made b i row r).tables
  kept_made true models number i row r h g = kept_with models number i row r.tables h g
  kept_made false models number i row r h g = g

  kept_after : (models : List Entity) (number i : ℕ) (target : Value) (step : ℕ → List PlainRow → List PlainRow) (tables : List (List PlainRow))
      → ((id : ℕ) (rows : List PlainRow) → AreRowsOf models number i rows → AreRowsOf models number i (step id rows)) → AreKept models number tables
      → AreKept models number (tables_after i target step tables)
  kept_after models number i (value.Ref (Some id)) step tables h g =
      λ m. set_rows (λ rows. AreRowsOf models number m rows) tables i m (step id (rows_of tables i))
      (λ e. subst (λ j. AreRowsOf models number j (step id (rows_of tables i))) e (h id (rows_of tables i) (g i))) (g m)
  kept_after models number i (value.Ref None) step tables h g = g
  kept_after models number i (value.Int n) step tables h g = g
  kept_after models number i (value.Text t) step tables h g = g
  kept_after models number i (value.Bool b) step tables h g = g

  pub keeps_created : (k : Setting) (loops : Loops) (name : List ℕ) (m : Option ℕ) (site : ℕ) (cells : List Assigned) (body : Run → Run)
      → IsFit k.models k.number → IsAroundIn loops k.around → site < 64 → ((i : ℕ) → m ≡ Some i → i < length k.models) → may_create (nested_at_place k.models m) loops ≡ true
      → Keeps k.models k.number body → Keeps k.models k.number (create_run k name m site cells body)
  keeps_created k loops name None site cells body fit is few within may kept r g = g
  keeps_created k loops name (Some m) site cells body fit is few within may kept r g =
      let id = id_made k m site in
      let here : m < length k.models = within m refl in
      let most = fit.few in
      let small = base_narrow k.number site m fit.some fit.room few (omega (arith, here, most)) in
      let row = plain_row id (created_cells k m id cells r) in
      keeps_scoped k (r.env ++ binding name (value.Ref (Some id)) ∷ []) body kept (with_made (is_kept k.models k.shown m id) m row r)
      (kept_made (is_kept k.models k.shown m id) k.models k.number m row r
      (keeping.made k m site cells r fit here few (shaped_by (is_nested_at k.models m) loops k.around (record_id k.number site m) small may is)) g)

  keeps_updated : (k : Setting) (m : Option ℕ) (target : Value) (sets : List Assigned) → ((i : ℕ) → m ≡ Some i → i < length k.models) → Keeps k.models k.number (update_run k m target sets)
  keeps_updated k None target sets within r g = g
  keeps_updated k (Some m) target sets within r g =
      kept_after k.models k.number m target (λ id rows. changed_rows id (updated_cells k m id sets r) rows) r.tables
      (λ id rows t. (
        rising-changed id (updated_cells k m id sets r) rows t.0,
        all-changed (P k.models k.number m) id (updated_cells k m id sets r) (λ row h. keeping.updates k m id sets r row (within m refl) h) rows t.1,
      )) g

  keeps_deleted : (k : Setting) (m : Option ℕ) (target : Value) → Keeps k.models k.number (delete_run m target)
  keeps_deleted k None target r g = g
  keeps_deleted k (Some m) target r g =
      kept_after k.models k.number m target without r.tables (λ id rows t. (rising-without id rows t.0, all-without (P k.models k.number m) id rows t.1)) g

  mutual
    pub keeps_one : (k : Setting) (loops : Loops) (s : Statement) → IsFit k.models k.number → IsAroundIn loops k.around → is_sited s ≡ true → is_placed k.models loops s ≡ true
        → Keeps k.models k.number (leaves k s)
    keeps_one k loops (Statement.put e) fit is h p r g = g
    keeps_one k loops (Statement.escape e) fit is h p r g = g
    keeps_one k loops (Statement.bind x e body) fit is h p r g = keeps_scoped k _ (leaves_all k body) (keeps_all k loops body fit is h p) r g
    keeps_one k loops (Statement.assign x e) fit is h p r g = g
    keeps_one k loops (Statement.branch c first second) fit is h p r g =
        keeps_choose k (is_true (value_in k c r)) (leaves_all k first) (leaves_all k second)
        (keeps_all k loops first fit is (and_parts _ _ h).0 (and_parts _ _ p).0) (keeps_all k loops second fit is (and_parts (are_sited first) _ h).1 (and_parts (are_placed k.models loops first) _ p).1) r g
    keeps_one k loops (Statement.each q body) fit is h p r g =
        keeps_each k q.binders (λ ids. leaves_all (record k { around = loop_of ids }) body) (answers (world_of k r) q r.env)
        (mapped (λ ids. IsAroundIn (behind_for k.models q.binders loops) (loop_of ids)) (λ ids. Keeps k.models k.number (leaves_all (record k { around = loop_of ids }) body))
        (λ ids around. keeps_all (record k { around = loop_of ids }) (behind_for k.models q.binders loops) body fit around h p)
        (answers (world_of k r) q r.env) (arounds k loops q r g)) r g
    keeps_one k loops (Statement.create x m site cells body) fit is h p r g =
        let first : nat_lt site 64 ≡ true = (and_parts (nat_lt site 64) (are_sited body) h).0 in
        let may = and_parts (may_create (is_nested_named k.models m) loops) (are_placed k.models loops body) p in
        keeps_created k loops x (model_place k.models m) site cells (leaves_all k body) fit is (grind (arith, first)) (λ i e. model_within k.models m i e) may.0
        (keeps_all k loops body fit is (and_parts (nat_lt site 64) (are_sited body) h).1 may.1) r g
    keeps_one k loops (Statement.update m e cells) fit is h p r g =
        keeps_updated k (model_place k.models m) (value_in k e r) cells (λ i e. model_within k.models m i e) r g
    keeps_one k loops (Statement.delete m e) fit is h p r g = keeps_deleted k (model_place k.models m) (value_in k e r) r g
    keeps_one k loops Statement.missing fit is h p r g = g
    keeps_one k loops (Statement.redirect e) fit is h p r g = g
    keeps_one k loops (Statement.template t) fit is h p r g = g
    keeps_one k loops (Statement.block body) fit is h p r g = keeps_all k loops body fit is h p r g

    pub keeps_all : (k : Setting) (loops : Loops) (s : Statements) → IsFit k.models k.number → IsAroundIn loops k.around → are_sited s ≡ true → are_placed k.models loops s ≡ true
        → Keeps k.models k.number (leaves_all k s)
    keeps_all k loops Statements.none fit is h p r g = g
    keeps_all k loops (Statements.more s rest) fit is h p r g =
        keeps_all k loops rest fit is (and_parts (is_sited s) _ h).1 (and_parts (is_placed k.models loops s) _ p).1 (leaves k s r)
        (keeps_one k loops s fit is (and_parts _ _ h).0 (and_parts _ _ p).0 r g)
