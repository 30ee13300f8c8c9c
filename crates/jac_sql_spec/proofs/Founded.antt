-- After the three statements that found a store, the database stands for the empty state with
-- number 1.
use Rattle.std.proofs.Common.{◌≡◌, ◌≢◌, ◌⊎◌, inl, inr, refl, sym, ap, subst, ◌∙◌, ℕ, zero, suc, ◌+◌, ℤ, pos, Bool, true, false, cond, not, List, [], ◌∷◌, ◌++◌, map, None, Some, Ok, Err, Result, arith}
use Rattle.std.specs.Bool.{MatchBool}
use Rattle.std.specs.List.{AllByRecursion}
use Rattle.std.proofs.lemmas.List.Sorted.{IsPermutation-refl}
use Rattle.sqlite_trees.specs.declared.store.Store.{Ghosts}
use Rattle.sqlite_value.specs.declared.value.Value.{Value}
use Rattle.sqlite_value.specs.declared.value.Value.TheVariants.{Null, Int, Text}
use Rattle.sqlite_resolve.specs.declared.compiled.Compiled.{Compiled}
use Rattle.sqlite_resolve.specs.declared.error.CompileError.{CompileError}
use Rattle.sqlite.specs.Order.{Row}
use Rattle.sqlite.specs.Ops.{unary}
use Rattle.sqlite.specs.Term.{Term, lit, col}
use Rattle.sqlite.specs.Kind.TheVariants.{Integer}
use Rattle.sqlite.specs.Table.{Table}
use Rattle.sqlite.specs.Schema.{Schema}
use Rattle.sqlite.specs.Cast.{cast, cast_row}
use Rattle.sqlite.specs.Source.TheVariants.{Values}
use Rattle.sqlite.specs.Command.TheVariants.{Insert, CreateTable}
use Rattle.sqlite.specs.Compile.{table_defined_by}
use Rattle.sqlite.specs.Change.{created, next_tree, KeepsRows}
use Rattle.sqlite.specs.Edit.{Edit, edit_of, edited, put_all, with_rowid}
use Rattle.sqlite.specs.Rowids.TheVariants.{Chosen}
use Rattle.sqlite.specs.Does.{Tally, Does, lacks_sequence, MakesTable, MakesSequence, no_rows}
use Rattle.sqlite.specs.Rows.{Written}
use Rattle.sqlite.specs.Tree.{Trees}
use Rattle.sqlite.specs.Effect.{Database}
use Rattle.sqlite.specs.State.{State, mode_of, Executes}
use Rattle.sqlite.specs.Held.{Held, state}
use Rattle.sqlite.specs.Listing.{understood}
use Rattle.sqlite_tied.specs.Compute.{everything}
use Rattle.sqlite.proofs.Callers.{IsPlain, command_of, statement_of, runs_as, one_step}
use Rattle.jac_rows.specs.declared.row.Row.{Row as Kept}
use Rattle.jac_keep.specs.Schema.{empties}
use Rattle.jac_sql_spec.specs.Statements.{founding}
use Rattle.jac_sql_spec.specs.Transaction.{Ran}
use Rattle.jac_sql_spec.specs.Facts.{facts_from, facts}
use Rattle.jac_sql_spec.specs.Tables.{no_tables, two_tables, meta, rec, meta_row}
use Rattle.jac_sql_spec.proofs.Texts.{start_is}
use Rattle.jac_sql_spec.proofs.Went.{went, same_value, cast_int, cast_null}
use Rattle.jac_sql_spec.specs.Stands.{Holds, Stands}

abbrev pub with_meta : Schema
with_meta = record { tables = meta 0 ∷ []; indexes = []; views = [] }

abbrev meta_text : List ℕ
meta_text = Rattle.std.proofs.Common.codes "CREATE TABLE meta(k INTEGER PRIMARY KEY, number INTEGER NOT NULL, schema TEXT NOT NULL) STRICT"

abbrev rec_text : List ℕ
rec_text = Rattle.std.proofs.Common.codes "CREATE TABLE rec(model INTEGER NOT NULL, jid BLOB NOT NULL, alt INTEGER NOT NULL, jvars BLOB NOT NULL, body BLOB NOT NULL, PRIMARY KEY(model, jid, alt)) STRICT"

abbrev start_text : List ℕ
start_text = Rattle.std.proofs.Common.codes "INSERT INTO meta(k, number, schema) VALUES(0, 1, ?1)"

-- A statement that makes a table in a database of this schema.
record Makes (from : Schema) (sql : List ℕ) (table : Table) : Type 0 where
  command : command_of (understood from sql) ≡ CreateTable
  plain : IsPlain (understood from sql)
  whole : statement_of sql (understood from sql) ≡ sql
  defined : table_defined_by sql ≡ Ok table
  counts : lacks_sequence (created from table) ≡ false

makes_meta : Makes no_tables meta_text (meta 0)
unfolding understood everything
makes_meta = record { command = refl; plain = (refl, refl); whole = refl; defined = refl; counts = refl }

makes_rec : Makes with_meta rec_text (rec 0)
unfolding understood everything
makes_rec = record { command = refl; plain = (refl, refl); whole = refl; defined = refl; counts = refl }

meta_made : created no_tables (meta 0) ≡ with_meta
unfolding everything
meta_made = refl

rec_made : created with_meta (rec 0) ≡ two_tables 0 1 2
unfolding everything
rec_made = refl

record Made (from : Schema) (table : Table) (old new : Database) : Type 0 where
  schema_is : new.schema ≡ created from table
  empty : new.trees (next_tree from) ≡ []
  others : KeepsRows from.tables old.trees new.trees

settled : (first done : Database) → lacks_sequence first.schema ≡ false → MakesSequence first (Ok done) → done ≡ first
settled first done none h = same_value (rw none at h)

made : (old new : State) (from : Schema) (sql : List ℕ) (table : Table) (count : ℕ) → Makes from sql table → old.now.schema ≡ from → Executes sql [] old new (Ok count) → Made from table old.now new.now
made old new from sql table count it has h =
    let w = runs_as sql [] old new from has CreateTable it.command it.plain count h in
    let db : Database = record old.now { schema = from } in
    let changed = subst (λ t. Does old.step_limit (mode_of old) [] db t None CreateTable (Ok (w.tally, new.now))) it.whole
    (subst (λ s. Does old.step_limit (mode_of old) [] (record old.now { schema = s }) (statement_of sql (understood from sql)) None CreateTable (Ok (w.tally, new.now))) has w.changed) in
    let done = went changed in
    let first = went done.1 in
    let c = first.1 in
    let tables = same_value (sym c.defined ∙ it.defined) in
    let is : first.0.schema ≡ created from table = c.is ∙ ap (created from) tables in
    let unnumbered : lacks_sequence first.0.schema ≡ false = ap lacks_sequence is ∙ it.counts in
    let same : done.0 ≡ first.0 = settled first.0 done.0 unnumbered first.2 in
    let now : new.now ≡ first.0 = ap (λ (p : Tally × Database). p.1) (same_value done.2) ∙ same in
    record {
      schema_is = ap (λ (d : Database). d.schema) now ∙ is;
      empty = ap (λ (d : Database). d.trees (next_tree from)) now ∙ c.empty;
      others = subst (λ (d : Database). KeepsRows from.tables old.now.trees d.trees) (sym now) c.others;
    }

-- ---- the row of the number

abbrev terms : List Term
terms = lit (Int (pos 0)) ∷ lit Null ∷ lit (Int (pos 1)) ∷ col 0 0 ∷ []

start_plain : IsPlain (understood (two_tables 0 1 2) start_text)
unfolding understood everything
start_plain = (refl, refl)

meta_cast : (m : ℕ) (schema : List ℕ) → cast_row (meta 0) (meta_row m schema) ≡ meta_row m schema
meta_cast m schema =
    ap (λ v. v ∷ cast Integer Null ∷ cast Integer (Int (pos m)) ∷ Text schema ∷ []) (cast_int (pos 0))
    ∙ ap (λ v. Int (pos 0) ∷ v ∷ cast Integer (Int (pos m)) ∷ Text schema ∷ []) cast_null
    ∙ ap (λ v. Int (pos 0) ∷ Null ∷ v ∷ Text schema ∷ []) (cast_int (pos m))

pub record Starts (old new : Database) (schema : List ℕ) : Type 0 where
  pub schema_is : new.schema ≡ two_tables 0 1 2
  pub meta_is : new.trees 0 ≡ meta_row 1 schema ∷ []
  pub rec_is : new.trees 1 ≡ old.trees 1

starts : (old new : State) (schema : List ℕ) (count : ℕ) → old.now.schema ≡ two_tables 0 1 2 → old.now.trees 0 ≡ [] → Executes start_text (Text schema ∷ []) old new (Ok count) → Starts old.now new.now schema
starts old new schema count has none h =
    let params = Text schema ∷ [] in
    let db = old.now.trees in
    let command = Insert 0 (Values terms 4) in
    let w = runs_as start_text params old new (two_tables 0 1 2) has command start_is start_plain count h in
    let text = statement_of start_text (understood (two_tables 0 1 2) start_text) in
    let done = went (subst (λ s. Does old.step_limit (mode_of old) params (record old.now { schema = s }) text None command (Ok (w.tally, new.now))) has w.changed) in
    let now = ap (λ (p : Tally × Database). p.1) (same_value (went (went done.2).2).2) in
    let given = went done.1 in
    let written = went (went given.2).2 in
    let counted = went written.2 in
    let trees : done.0.trees ≡ written.0 = ap (λ (it : Written). it.trees) (same_value counted.2) ∙ same_value counted.1 in
    let step = one_step (two_tables 0 1 2) _ db written.0 (edit_of db (meta 0) [] Chosen 0 given.0) refl written.1 in
    let edit : edited db (edit_of db (meta 0) [] Chosen 0 given.0) ≡ meta_row 1 schema ∷ [] =
    ap (λ all. edited db (edit_of db (meta 0) [] Chosen 0 all)) given.1.1
    ∙ ap (λ row. put_all (db 0) (with_rowid Chosen (db 0) row ∷ [])) (meta_cast 1 schema)
    ∙ ap (λ rs. put_all rs (meta_row 1 schema ∷ [])) none in
    record {
      schema_is = ap (λ (d : Database). d.schema) now;
      meta_is = ap (λ (d : Database). d.trees 0) now ∙ ap (λ (t : Trees). t 0) trees ∙ step.rows ∙ edit;
      rec_is = ap (λ (d : Database). d.trees 1) now ∙ ap (λ (t : Trees). t 1) trees ∙ step.tables.1.0 (λ e. absurd (omega (arith, e)));
    }

pub no_facts : (first n : ℕ) → facts_from first (empties n) ≡ []
no_facts first zero = refl
no_facts first (suc n) = no_facts (first + 1) n

pub founded : {S : Type 0} (g : Ghosts S) (schema : List ℕ) (models : ℕ) (a b : Held S) → (state g a).now.schema ≡ no_tables → Ran g (founding schema) a b
    → Stands schema (state g b).now (record { tables = empties models; number = 1 })
unfolding founding
founded g schema models a b none ran =
    let h1 = ran.0 in
    let ran2 = ran.3 in
    let h2 = ran2.0 in
    let ran3 = ran2.3 in
    let h3 = ran3.0 in
    let one = made (state g a) (state g h1) no_tables meta_text (meta 0) ran.1 makes_meta none ran.2.0 in
    let two = made (state g h1) (state g h2) with_meta rec_text (rec 0) ran2.1 makes_rec (one.schema_is ∙ meta_made) ran2.2.0 in
    let empty : (state g h2).now.trees 0 ≡ [] = two.others.0 ∙ one.empty in
    let three = starts (state g h2) (state g h3) schema ran3.1 (two.schema_is ∙ rec_made) empty ran3.2.0 in
    let none_left : (state g h3).now.trees 1 ≡ [] = three.rec_is ∙ two.empty in
    subst (λ (h : Held _). Stands schema (state g h).now (record { tables = empties models; number = 1 })) (sym ran3.3)
    (record {
      schema_is = three.schema_is;
      meta = three.meta_is;
      rec = record { lines = []; stored = none_left; rowids = tt; same = subst (λ fs. Rattle.std.proofs.Common.IsPermutation [] fs) (sym (no_facts 0 models)) (IsPermutation-refl []) };
    })
