-- The statement that stores the number, the last one of a change.
use Rattle.std.proofs.Common.{◌≡◌, ◌≢◌, ◌⊎◌, inl, inr, ℕ, ℤ, pos, List, [], ◌∷◌, map, Bool, true, false, cond, None, Some, Ok, Err, Result, refl, sym, ap, subst, ◌∙◌, arith}
use Rattle.std.specs.List.Sorted.{IsPermutation}
use Rattle.sqlite_value.specs.declared.value.Value.{Value}
use Rattle.sqlite_value.specs.declared.value.Value.TheVariants.{Null, Int, Text}
use Rattle.sqlite_value.proofs.OrderLemmas.{value_cmp-Int}
use Rattle.sqlite.specs.Order.{Row}
use Rattle.sqlite.specs.Ops.{binary, unary}
use Rattle.sqlite.specs.Kind.TheVariants.{Integer}
use Rattle.sqlite.specs.Cast.{cast, cast_row}
use Rattle.sqlite.specs.Term.{Term, lit, col}
use Rattle.sqlite.specs.Query.{Query, IsAnswer, output, page, Output}
use Rattle.sqlite.specs.Program.{overlay}
use Rattle.sqlite.specs.Command.TheVariants.{Update}
use Rattle.sqlite.specs.Edit.{Edit, edit_of, edited, put_all, without_all}
use Rattle.sqlite.specs.Rowids.TheVariants.{Given}
use Rattle.sqlite_rules.specs.Calls.{ids_of}
use Rattle.sqlite.specs.Does.{Tally, Does}
use Rattle.sqlite.specs.Rows.{Written}
use Rattle.sqlite.specs.Tree.{Trees}
use Rattle.sqlite.specs.Effect.{Database}
use Rattle.sqlite.specs.State.{State, mode_of, Executes}
use Rattle.sqlite.specs.Listing.{understood}
use Rattle.sqlite_tied.specs.Compute.{everything}
use Rattle.sqlite.proofs.Callers.{IsPlain, command_of, statement_of, runs_as, one_step, one_permutation}
use Rattle.jac_sql_spec.specs.Tables.{two_tables, meta, meta_row}
use Rattle.jac_sql_spec.proofs.Texts.{is, over}
use Rattle.jac_sql_spec.proofs.Texts.{set_text, set_is, reshape_text, reshape_is}
use Rattle.jac_sql_spec.proofs.Went.{went, same_value, cast_int, cast_null}

pub set_plain : IsPlain (understood (two_tables 0 1 2) set_text)
unfolding understood everything
set_plain = (refl, refl)

pub reshape_plain : IsPlain (understood (two_tables 0 1 2) reshape_text)
unfolding understood everything
reshape_plain = (refl, refl)

-- The row of `meta` with another number, and with this term as its schema.
abbrev pub set_query : Term → Query
set_query last = over 0 (is (col 1 0) (lit (Int (pos 0))) ∷ []) (col 1 0 ∷ col 1 0 ∷ lit Null ∷ col 0 0 ∷ last ∷ []) []

abbrev pub set_row : ℕ → List ℕ → Row
set_row m schema = Int (pos 0) ∷ meta_row m schema

set_found : (last : Term) (params : Row) (db : Trees) (m n : ℕ) (schema after : List ℕ) (found : List Row) → output (set_query last) (params ∷ meta_row n schema ∷ []) ≡ ([], set_row m after) → db 0 ≡ meta_row n schema ∷ []
    → IsAnswer (set_query last) (overlay db []) params found → found ≡ set_row m after ∷ []
unfolding binary
set_found last params db m n schema after found shows one a =
    let staged : a.staged ≡ (params ∷ meta_row n schema ∷ []) ∷ [] = a.grouped ∙ rw (one, value_cmp-Int) in
    let o : Output = ([], set_row m after) in
    let kept : a.kept ≡ o ∷ [] = a.distinct ∙ ap (map (output (set_query last))) staged ∙ ap (λ (x : Output). x ∷ []) shows in
    let ordered = one_permutation o a.ordered (subst (λ k. IsPermutation k a.ordered) kept a.same) in
    a.shown ∙ ap (λ xs. page (set_query last) params (map (λ (p : Output). p.1) xs)) ordered

meta_cast : (m : ℕ) (schema : List ℕ) → cast_row (meta 0) (meta_row m schema) ≡ meta_row m schema
meta_cast m schema =
    ap (λ v. v ∷ cast Integer Null ∷ cast Integer (Int (pos m)) ∷ Text schema ∷ []) (cast_int (pos 0))
    ∙ ap (λ v. Int (pos 0) ∷ v ∷ cast Integer (Int (pos m)) ∷ Text schema ∷ []) cast_null
    ∙ ap (λ v. Int (pos 0) ∷ Null ∷ v ∷ Text schema ∷ []) (cast_int (pos m))

taken_out : (n : ℕ) (schema : List ℕ) → without_all (meta_row n schema ∷ []) (pos 0 ∷ []) ≡ []
taken_out n schema = rw value_cmp-Int refl

pub record Sets (old new : State) (m : ℕ) (schema : List ℕ) : Type 0 where
  pub schema_is : new.now.schema ≡ two_tables 0 1 2
  pub meta_is : new.now.trees 0 ≡ meta_row m schema ∷ []
  pub rec_is : new.now.trees 1 ≡ old.now.trees 1

pub sets_by : (sql : List ℕ) (params : Row) (last : Term) → command_of (understood (two_tables 0 1 2) sql) ≡ Update 0 (record { lets = []; body = set_query last }) → IsPlain (understood (two_tables 0 1 2) sql)
    → (old new : State) (m n count : ℕ) (schema after : List ℕ) → output (set_query last) (params ∷ meta_row n schema ∷ []) ≡ ([], set_row m after) → old.now.schema ≡ two_tables 0 1 2 → old.now.trees 0 ≡ meta_row n schema ∷ []
    → Executes sql params old new (Ok count) → Sets old new m after
sets_by sql params last is plain old new m n count schema after shows has one h =
    let db = old.now.trees in
    let command = Update 0 (record { lets = []; body = set_query last }) in
    let w = runs_as sql params old new (two_tables 0 1 2) has command is plain count h in
    let text = statement_of sql (understood (two_tables 0 1 2) sql) in
    let done = went (subst (λ s. Does old.step_limit (mode_of old) params (record old.now { schema = s }) text None command (Ok (w.tally, new.now))) has w.changed) in
    let now = ap (λ (p : Tally × Database). p.1) (same_value (went (went done.2).2).2) in
    let given = went done.1 in
    let written = went given.2 in
    let trees : done.0.trees ≡ written.0 = ap (λ (it : Written). it.trees) (same_value written.2) in
    let found : given.0 ≡ set_row m after ∷ [] = set_found last params db m n schema after given.0 shows one (given.1.answer Null) in
    let step = one_step (two_tables 0 1 2) _ db written.0 (edit_of db (meta 0) (ids_of given.0) Given 1 given.0) refl written.1 in
    let edit : edited db (edit_of db (meta 0) (ids_of given.0) Given 1 given.0) ≡ meta_row m after ∷ [] =
    ap (λ rows. edited db (edit_of db (meta 0) (ids_of rows) Given 1 rows)) found
    ∙ ap (λ rows. put_all (without_all rows (pos 0 ∷ [])) (cast_row (meta 0) (meta_row m after) ∷ [])) one
    ∙ ap (λ rows. put_all rows (cast_row (meta 0) (meta_row m after) ∷ [])) (taken_out n schema)
    ∙ ap (λ row. row ∷ []) (meta_cast m after) in
    record {
      schema_is = ap (λ (d : Database). d.schema) now;
      meta_is = ap (λ (d : Database). d.trees 0) now ∙ ap (λ (t : Trees). t 0) trees ∙ step.rows ∙ edit;
      rec_is = ap (λ (d : Database). d.trees 1) now ∙ ap (λ (t : Trees). t 1) trees ∙ step.tables.1.0 (λ e. absurd (omega (arith, e)));
    }

pub sets : (old new : State) (m n count : ℕ) (schema : List ℕ) → old.now.schema ≡ two_tables 0 1 2 → old.now.trees 0 ≡ meta_row n schema ∷ []
    → Executes set_text (Int (pos m) ∷ []) old new (Ok count) → Sets old new m schema
sets old new m n count schema = sets_by set_text (Int (pos m) ∷ []) (col 1 3) set_is set_plain old new m n count schema schema refl

pub reshapes : (old new : State) (m n count : ℕ) (schema after : List ℕ) → old.now.schema ≡ two_tables 0 1 2 → old.now.trees 0 ≡ meta_row n schema ∷ []
    → Executes reshape_text (Int (pos m) ∷ Text after ∷ []) old new (Ok count) → Sets old new m after
reshapes old new m n count schema after = sets_by reshape_text (Int (pos m) ∷ Text after ∷ []) (col 0 1) reshape_is reshape_plain old new m n count schema after refl
