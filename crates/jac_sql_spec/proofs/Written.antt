-- One statement about a record: it removes the alternatives, or adds one.
use Rattle.std.proofs.Common.{◌≡◌, ℕ, ℤ, pos, ◌<◌, ◌^◌, List, [], ◌∷◌, ◌++◌, map, filter, length, Bool, false, not, Ok, ◌+◌, refl, sym, ap, subst, ◌∙◌, arith, IsPermutation}
use Rattle.std.proofs.lemmas.List.Sorted.{IsPermutation-map, IsPermutation-sym, IsPermutation-trans, IsPermutation-cons}
use Rattle.sqlite_value.specs.declared.value.Value.TheVariants.{Int, Blob}
use Rattle.sqlite.specs.Order.{Row as Values}
use Rattle.sqlite_trees.specs.Tree.{rowid, put_row}
use Rattle.sqlite.specs.Query.{IsAnswer, Output, output}
use Rattle.sqlite.specs.Program.{overlay}
use Rattle.sqlite.specs.Edit.{id_in, without_all, next_rowid, is_taken}
use Rattle.sqlite_rules.specs.Calls.{ids_of}
use Rattle.sqlite.specs.State.{State as Sql, Executes}
use Rattle.sqlite_keyed.specs.Lists.{delete_where}
use Rattle.sqlite_keyed.proofs.ListLemmas.{map-map, filter-map, IsPermutation-filter}
use Rattle.jac_value.specs.Ids.{model_of_id}
use Rattle.jac_rows.specs.declared.row.Row.{Row}
use Rattle.jac_rows.specs.declared.state.State.{State}
use Rattle.jac_row_codec.specs.Spelling.{guard_bytes, cells_bytes}
use Rattle.jac_keep.specs.Records.{AreOf}
use Rattle.jac_keep.specs.ChangedState.{state_with}
use Rattle.jac_sql_spec.specs.Facts.{Fact, facts, fact_of, id_bytes, is_fact_of, AreKept}
use Rattle.jac_sql_spec.proofs.FactLaws.{facts_without, facts_added}
use Rattle.jac_sql_spec.proofs.Texts.{remove_text, add_text}
use Rattle.jac_sql_spec.proofs.Went.{columns}
use Rattle.jac_sql_spec.proofs.Texts.{of_record}
use Rattle.jac_sql_spec.specs.Lines.{Line, encode}
use Rattle.jac_sql_spec.specs.Stands.{fact, Holds, Stands}
use Rattle.jac_sql_spec.proofs.Tests.{record_tests, matched}
use Rattle.jac_sql_spec.proofs.Taken.{gone, distinct_left, put_line, put_is, put_permutes, put_distinct, free_if_fresh}
use Rattle.jac_sql_spec.proofs.Stepped.{Removes, removes, Adds, adds}

abbrev asked : ℕ → List ℕ → Values
asked model jid = Int (pos model) ∷ Blob jid ∷ []

abbrev out : ℕ → List ℕ → Line → Output
out model jid l = output of_record (asked model jid ∷ encode l ∷ [])

abbrev id_of : Output → ℤ
id_of o = id_in (rowid o.1)

abbrev mine : ℕ → List ℕ → Line → Bool
mine model jid l = is_fact_of model jid (fact l)

-- The rowids of the rows that a removal deletes.
found_ids : (old : Sql) (model : ℕ) (jid : List ℕ) (lines : List Line) (found : List Values) → old.now.trees 1 ≡ map encode lines
    → IsAnswer of_record (overlay old.now.trees []) (asked model jid) found → IsPermutation (ids_of found) (map (λ (l : Line). l.at) (filter (mine model jid) lines))
found_ids old model jid lines found stored a =
    let ls = filter (mine model jid) lines in
    let all = matched (asked model jid) of_record.filter (mine model jid) (record_tests model jid) (overlay old.now.trees []) 1 lines stored in
    let kept : a.kept ≡ map (out model jid) ls = a.distinct ∙ ap (map (output of_record)) (a.grouped ∙ all) ∙ map-map (output of_record) _ _ in
    let same = IsPermutation-map id_of _ _ (subst (λ k. IsPermutation k a.ordered) kept a.same) in
    let ids : ids_of found ≡ map id_of a.ordered = ap ids_of a.shown ∙ map-map (λ (x : Values). id_in (rowid x)) (λ (o : Output). o.1) a.ordered in
    subst (λ xs. IsPermutation xs (map (λ (l : Line). l.at) ls)) (sym ids)
    (IsPermutation-sym _ _ (subst (λ xs. IsPermutation xs (map id_of a.ordered)) (map-map id_of (out model jid) ls) same))

pub removed : (schema : List ℕ) (old new : Sql) (id count : ℕ) (s : State) → id < 2 ^ 128 → AreKept s.tables → Stands schema old.now s
    → Executes remove_text (Int (pos (model_of_id id)) ∷ Blob (id_bytes id) ∷ []) old new (Ok count) → Stands schema new.now (state_with id [] s)
removed schema old new id count s room kept st h =
    let model = model_of_id id in
    let jid = id_bytes id in
    let r : Removes old new model jid = removes old new model jid count st.schema_is h in
    let lines = st.rec.lines in
    let any = found_ids old model jid lines r.found st.rec.stored r.answer in
    let left : map fact (delete_where (mine model jid) lines) ≡ filter (λ f. not (is_fact_of model jid f)) (map fact lines) = sym (filter-map (λ f. not (is_fact_of model jid f)) fact lines) in
    record {
      schema_is = r.schema;
      meta = r.meta ∙ st.meta;
      rec = record {
        lines = delete_where (mine model jid) lines;
        stored = r.rows ∙ ap (λ rows. without_all rows (ids_of r.found)) st.rec.stored ∙ gone (mine model jid) lines (ids_of r.found) st.rec.rowids any;
        rowids = distinct_left (mine model jid) lines st.rec.rowids;
        same = subst (λ fs. IsPermutation (map fact (delete_where (mine model jid) lines)) fs) (facts_without 0 id s.tables room kept)
            (subst (λ fs. IsPermutation fs (filter (λ f. not (is_fact_of model jid f)) (facts s.tables))) (sym left) (IsPermutation-filter (λ f. not (is_fact_of model jid f)) _ _ st.rec.same));
      };
    }

pub added : (schema : List ℕ) (old new : Sql) (id count : ℕ) (xs : List Row) (r : Row) (s : State) → AreOf id xs → r.id ≡ id → model_of_id id < length s.tables
    → Stands schema old.now (state_with id xs s)
    → Executes add_text (columns (model_of_id id) (id_bytes r.id) (length xs) (guard_bytes r.guard) (cells_bytes r.cells)) old new (Ok count) → Stands schema new.now (state_with id (xs ++ r ∷ []) s)
added schema old new id count xs r s own is within st h =
    let model = model_of_id id in
    let a : Adds old new model (length xs) (id_bytes r.id) (guard_bytes r.guard) (cells_bytes r.cells) = adds old new model (length xs) (id_bytes r.id) (guard_bytes r.guard) (cells_bytes r.cells) count st.schema_is h in
    let lines = st.rec.lines in
    let l : Line = record { at = next_rowid (old.now.trees 1); model = model; jid = id_bytes r.id; alt = length xs; jvars = guard_bytes r.guard; body = cells_bytes r.cells } in
    let free = free_if_fresh l lines (subst (λ rows. is_taken rows (encode l) ≡ false) st.rec.stored a.fresh) in
    let long : 0 + length s.tables ≡ length s.tables = omega arith in
    let more = facts_added 0 id xs r s.tables own is (omega arith) (omega (arith, within, long)) in
    record {
      schema_is = a.schema;
      meta = a.meta ∙ st.meta;
      rec = record {
        lines = put_line l lines;
        stored = a.rows ∙ ap (put_row (encode l)) st.rec.stored ∙ put_is l lines;
        rowids = put_distinct l lines free st.rec.rowids;
        same = IsPermutation-trans _ _ _ (IsPermutation-map fact _ _ (IsPermutation-sym _ _ (put_permutes l lines free)))
            (IsPermutation-trans _ _ _ (IsPermutation-cons (fact l) _ _ st.rec.same) (IsPermutation-sym _ _ more));
      };
    }
