-- What the statements that remove and add alternatives leave of the trees.
use Rattle.std.proofs.Common.{◌≡◌, ◌≢◌, ◌⊎◌, inl, inr, ℕ, ℤ, pos, List, [], ◌∷◌, Bool, true, false, cond, not, ◌&&◌, None, Ok, Err, Result, refl, sym, ap, subst, ◌∙◌, arith}
use Rattle.std.specs.List.{AllByRecursion}
use Rattle.sqlite_value.specs.declared.value.Value.TheVariants.{Null, Int, Blob}
use Rattle.sqlite.specs.Order.{Row}
use Rattle.sqlite.specs.Term.{Term, lit, col}
use Rattle.sqlite.specs.Query.{Query, IsAnswer}
use Rattle.sqlite.specs.Program.{overlay}
use Rattle.sqlite.specs.Source.TheVariants.{Values}
use Rattle.sqlite.specs.Command.TheVariants.{Insert, Delete}
use Rattle.sqlite.specs.Edit.{Edit, edit_of, edited, next_rowid, put_all, with_rowid, without_all, is_taken, are_fresh}
use Rattle.sqlite.specs.Ops.{unary}
use Rattle.sqlite.specs.Kind.TheVariants.{Integer}
use Rattle.sqlite_value.specs.declared.value.Value.{Value}
use Rattle.sqlite.specs.Cast.{cast, cast_row}
use Rattle.sqlite.specs.Rowids.TheVariants.{Chosen, Given}
use Rattle.sqlite_trees.specs.Tree.{put_row}
use Rattle.sqlite_rules.specs.Calls.{ids_of}
use Rattle.sqlite.specs.Does.{Tally, Does}
use Rattle.sqlite.specs.Rows.{Written}
use Rattle.sqlite.specs.Tree.{Trees}
use Rattle.sqlite.specs.Effect.{Database}
use Rattle.sqlite.specs.State.{State, mode_of, Executes}
use Rattle.sqlite.specs.Listing.{understood}
use Rattle.sqlite.proofs.Callers.{statement_of, runs_as, one_step}
use Rattle.jac_sql_spec.specs.Tables.{two_tables, rec}
use Rattle.jac_sql_spec.proofs.Texts.{remove_text, remove_is, remove_plain, add_text, add_is, add_plain}
use Rattle.jac_sql_spec.proofs.Went.{columns, went, same_value, cast_int, cast_null}
use Rattle.jac_sql_spec.proofs.Texts.{of_record}

abbrev terms : List Term
terms = lit Null ∷ col 0 0 ∷ col 0 1 ∷ col 0 2 ∷ col 0 3 ∷ col 0 4 ∷ []

row_is : (model alt : ℕ) (jid jvars body : List ℕ) → cast_row (rec 1) (Null ∷ columns model jid alt jvars body) ≡ Null ∷ columns model jid alt jvars body
row_is model alt jid jvars body =
    ap (λ v. v ∷ cast Integer (Int (pos model)) ∷ Blob jid ∷ cast Integer (Int (pos alt)) ∷ Blob jvars ∷ Blob body ∷ []) cast_null
    ∙ ap (λ v. Null ∷ v ∷ Blob jid ∷ cast Integer (Int (pos alt)) ∷ Blob jvars ∷ Blob body ∷ []) (cast_int (pos model))
    ∙ ap (λ v. Null ∷ Int (pos model) ∷ Blob jid ∷ v ∷ Blob jvars ∷ Blob body ∷ []) (cast_int (pos alt))

pub record Removes (old new : State) (model : ℕ) (jid : List ℕ) : Type 0 where
  pub schema : new.now.schema ≡ two_tables 0 1 2
  pub meta : new.now.trees 0 ≡ old.now.trees 0
  pub found : List Row
  pub answer : IsAnswer of_record (overlay old.now.trees []) (Int (pos model) ∷ Blob jid ∷ []) found
  pub rows : new.now.trees 1 ≡ without_all (old.now.trees 1) (ids_of found)

pub removes : (old new : State) (model : ℕ) (jid : List ℕ) (count : ℕ) → old.now.schema ≡ two_tables 0 1 2
    → Executes remove_text (Int (pos model) ∷ Blob jid ∷ []) old new (Ok count) → Removes old new model jid
removes old new model jid count has h =
    let params = Int (pos model) ∷ Blob jid ∷ [] in
    let db = old.now.trees in
    let command = Delete 1 (record { lets = []; body = of_record }) in
    let w = runs_as remove_text params old new (two_tables 0 1 2) has command remove_is remove_plain count h in
    let text = statement_of remove_text (understood (two_tables 0 1 2) remove_text) in
    let done = went (subst (λ s. Does old.step_limit (mode_of old) params (record old.now { schema = s }) text None command (Ok (w.tally, new.now))) has w.changed) in
    let now = ap (λ (p : Tally × Database). p.1) (same_value (went (went done.2).2).2) in
    let given = went done.1 in
    let written = went given.2 in
    let trees : done.0.trees ≡ written.0 = ap (λ (it : Written). it.trees) (same_value written.2) in
    let step = one_step (two_tables 0 1 2) _ db written.0 (edit_of db (rec 1) (ids_of given.0) Given 0 []) refl written.1 in
    record {
      schema = ap (λ (d : Database). d.schema) now;
      meta = ap (λ (d : Database). d.trees 0) now ∙ ap (λ (t : Trees). t 0) trees ∙ step.tables.0 (λ e. absurd (omega (arith, e)));
      found = given.0;
      answer = given.1.answer Null;
      rows = ap (λ (d : Database). d.trees 1) now ∙ ap (λ (t : Trees). t 1) trees ∙ step.rows;
    }

pub record Adds (old new : State) (model alt : ℕ) (jid jvars body : List ℕ) : Type 0 where
  pub schema : new.now.schema ≡ two_tables 0 1 2
  pub meta : new.now.trees 0 ≡ old.now.trees 0
  pub fresh : is_taken (old.now.trees 1) (Int (next_rowid (old.now.trees 1)) ∷ columns model jid alt jvars body) ≡ false
  pub rows : new.now.trees 1 ≡ put_row (Int (next_rowid (old.now.trees 1)) ∷ columns model jid alt jvars body) (old.now.trees 1)

not_taken : (b : Bool) → (not b && true) ≡ true → b ≡ false
not_taken false e = refl
not_taken true e = absurd (Rattle.std.proofs.Common.true≢false (sym e))

pub adds : (old new : State) (model alt : ℕ) (jid jvars body : List ℕ) (count : ℕ) → old.now.schema ≡ two_tables 0 1 2
    → Executes add_text (columns model jid alt jvars body) old new (Ok count) → Adds old new model alt jid jvars body
adds old new model alt jid jvars body count has h =
    let params = columns model jid alt jvars body in
    let db = old.now.trees in
    let command = Insert 1 (Values terms 6) in
    let w = runs_as add_text params old new (two_tables 0 1 2) has command add_is add_plain count h in
    let text = statement_of add_text (understood (two_tables 0 1 2) add_text) in
    let done = went (subst (λ s. Does old.step_limit (mode_of old) params (record old.now { schema = s }) text None command (Ok (w.tally, new.now))) has w.changed) in
    let now = ap (λ (p : Tally × Database). p.1) (same_value (went (went done.2).2).2) in
    let given = went done.1 in
    let written = went (went given.2).2 in
    let counted = went written.2 in
    let trees : done.0.trees ≡ written.0 = ap (λ (it : Written). it.trees) (same_value counted.2) ∙ same_value counted.1 in
    let edit = edit_of db (rec 1) [] Chosen 0 given.0 in
    let step = one_step (two_tables 0 1 2) _ db written.0 edit refl written.1 in
    let row = Int (next_rowid (db 1)) ∷ params in
    let news : edit.news ≡ row ∷ [] =
    ap (λ all. (edit_of db (rec 1) [] Chosen 0 all).news) given.1.1 ∙ ap (λ r. with_rowid Chosen (db 1) r ∷ []) (row_is model alt jid jvars body) in
    record {
      schema = ap (λ (d : Database). d.schema) now;
      meta = ap (λ (d : Database). d.trees 0) now ∙ ap (λ (t : Trees). t 0) trees ∙ step.tables.0 (λ e. absurd (omega (arith, e)));
      fresh = not_taken _ (subst (λ rs. are_fresh (db 1) rs ≡ true) news step.fresh);
      rows = ap (λ (d : Database). d.trees 1) now ∙ ap (λ (t : Trees). t 1) trees ∙ step.rows ∙ ap (put_all (db 1)) news;
    }
