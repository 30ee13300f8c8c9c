-- What the queries for the rows of a model and of a record show.
use Rattle.std.proofs.Common.{◌≡◌, ℕ, pos, ◌+◌, ◌<◌, ◌^◌, List, [], ◌∷◌, map, filter, Bool, true, false, refl, sym, ap, subst, ◌∙◌, arith, Ordering, Less, Equal, Greater, nat_cmp, is_eq}
use Rattle.std.specs.List.{list_all, AllByRecursion}
use Rattle.std.specs.List.Sorted.{IsPermutation}
use Rattle.std.specs.Ordering.{ordering_then, int_cmp}
use Rattle.std.specs.Cmp.Lexicographic.{slice_cmp}
use Rattle.std.proofs.lemmas.Bool.Decides.{nat_tests}
use Rattle.std.proofs.lemmas.Cmp.{tied_itself, nat_cmp_total, nat_list_cmp_total}
use Rattle.std.proofs.lemmas.List.Sorted.{IsPermutation-map, IsPermutation-sym, IsPermutation-trans}
use Rattle.sqlite_trees.specs.Tree.{IsAscending}
use Rattle.sqlite_value.specs.declared.value.Value.TheVariants.{Null, Int, Blob}
use Rattle.sqlite_value.proofs.OrderLemmas.{value_cmp-Int, value_cmp-Blob}
use Rattle.sqlite.specs.Order.{Row as Values}
use Rattle.sqlite.specs.Term.{col, holds}
use Rattle.sqlite.specs.Query.{Query, IsAnswer, Output, output, output_cmp, page}
use Rattle.sqlite.specs.Program.{overlay}
use Rattle.sqlite.specs.State.{State as Sql, Shown}
use Rattle.sqlite.specs.Listing.{understood, reads_listing}
use Rattle.sqlite_tied.specs.Compute.{everything}
use Rattle.sqlite.proofs.Callers.{IsPlain, reads_as}
use Rattle.sqlite_sql.proofs.QueryLemmas.{output_cmp_total}
use Rattle.sqlite_keyed.proofs.ListLemmas.{map-map, filter-map, IsPermutation-filter}
use Rattle.sqlite_keyed.proofs.SortLemmas.{sorted_unique}
use Rattle.jac_value.specs.Ids.{model_of_id}
use Rattle.jac_rows.specs.declared.row.Row.{Row}
use Rattle.jac_rows.specs.declared.state.State.{State}
use Rattle.jac_rows.specs.Tables.{rows_of}
use Rattle.jac_keep.specs.Records.{alternatives, AreOrdered}
use Rattle.jac_sql_spec.specs.Facts.{Fact, fact_of, fact_cmp, facts, id_bytes, count_with, none_yet, numbered_facts, IsPlaced, AreKept, is_fact_in, is_fact_of}
use Rattle.jac_sql_spec.proofs.FactLaws.{of_one, facts_in, numbered_rise}
use Rattle.jac_sql_spec.specs.Tables.{two_tables}
use Rattle.jac_sql_spec.proofs.Texts.{is, over}
use Rattle.jac_sql_spec.proofs.Texts.{model_text, model_is, record_text, record_is, by}
use Rattle.jac_sql_spec.specs.Lines.{Line, encode}
use Rattle.jac_sql_spec.proofs.Texts.{of_model, model_plain, record_plain}
use Rattle.jac_sql_spec.specs.Stands.{fact, Stands}
use Rattle.jac_sql_spec.proofs.Tests.{model_tests, record_tests, matched}
use Rattle.jac_sql_spec.specs.Reading.{model_shows, record_shows}
use Rattle.jac_sql_spec.proofs.Alternatives.{facts_of, table_placed, alternatives_placed}

abbrev of_record : Query
of_record = over 1 (is (col 1 1) (col 0 0) ∷ is (col 1 2) (col 0 1) ∷ []) (col 1 4 ∷ col 1 5 ∷ []) (by 3 ∷ [])

abbrev model_asked : ℕ → Values
model_asked model = Int (pos model) ∷ []

abbrev record_asked : ℕ → List ℕ → Values
record_asked model jid = Int (pos model) ∷ Blob jid ∷ []

abbrev model_out : Fact → Output
model_out f = (Blob f.jid ∷ Int (pos f.alt) ∷ [], model_shows f)

abbrev record_out : Fact → Output
record_out f = (Int (pos f.alt) ∷ [], record_shows f)

-- ---- facts that rise are shown as they rise

of_id : (model id : ℕ) (c : ℕ → ℕ) (rows : List Row) → AllByRecursion (λ (r : Row). r.id ≡ id) rows → AllByRecursion (λ (f : Fact). (f.model ≡ model) × (f.jid ≡ id_bytes id)) (numbered_facts model c rows)
of_id model id c [] own = tt
of_id model id c (r ∷ rs) own = ((refl, ap id_bytes own.0), of_id model id (count_with r.id c) rs own.1)

same_cmp : (m n : ℕ) → int_cmp (pos m) (pos n) ≡ nat_cmp m n
same_cmp m n = grind (arith, nat_tests)

then_none : (o : Ordering) → ordering_then o Equal ≡ o
then_none Less = refl
then_none Equal = refl
then_none Greater = refl

model_order : (model : ℕ) (a b : Fact) → a.model ≡ model → b.model ≡ model → fact_cmp a b ≡ Less → output_cmp of_model (model_out a) (model_out b) ≡ Less
model_order model a b one two less =
    let tie : nat_cmp a.model b.model ≡ Equal = rw (one, two) (tied_itself nat_cmp_total model) in
    let rest : ordering_then (slice_cmp nat_cmp a.jid b.jid) (nat_cmp a.alt b.alt) ≡ Less = ap (λ o. ordering_then o (ordering_then (slice_cmp nat_cmp a.jid b.jid) (nat_cmp a.alt b.alt))) (sym tie) ∙ less in
    rw (value_cmp-Blob, value_cmp-Int, same_cmp, then_none) rest

record_order : (model : ℕ) (jid : List ℕ) (a b : Fact) → a.model ≡ model → b.model ≡ model → a.jid ≡ jid → b.jid ≡ jid → fact_cmp a b ≡ Less → output_cmp of_record (record_out a) (record_out b) ≡ Less
record_order model jid a b one two three four less =
    let tie : nat_cmp a.model b.model ≡ Equal = rw (one, two) (tied_itself nat_cmp_total model) in
    let also : slice_cmp nat_cmp a.jid b.jid ≡ Equal = rw (three, four) (tied_itself nat_list_cmp_total jid) in
    let rest : nat_cmp a.alt b.alt ≡ Less = ap (λ o. ordering_then o (nat_cmp a.alt b.alt)) (sym also) ∙ ap (λ o. ordering_then o (ordering_then (slice_cmp nat_cmp a.jid b.jid) (nat_cmp a.alt b.alt))) (sym tie) ∙ less in
    rw (value_cmp-Int, same_cmp, then_none) rest

module _ (P : Fact → Type 0) (q : Query) (out : Fact → Output) (order : (a b : Fact) → P a → P b → fact_cmp a b ≡ Less → output_cmp q (out a) (out b) ≡ Less) where
  above : (f : Fact) (fs : List Fact) → P f → AllByRecursion P fs → AllByRecursion (λ g. fact_cmp f g ≡ Less) fs → AllByRecursion (λ o. output_cmp q (out f) o ≡ Less) (map out fs)
  above f [] one all less = tt
  above f (g ∷ gs) one all less = (order f g one all.0 less.0, above f gs one all.1 less.1)

  outputs_rise : (fs : List Fact) → AllByRecursion P fs → IsAscending (λ a b. fact_cmp a b ≡ Less) fs → IsAscending (λ a b. output_cmp q a b ≡ Less) (map out fs)
  outputs_rise [] all up = tt
  outputs_rise (f ∷ fs) all up = (above f fs all.0 all.1 up.0, outputs_rise fs all.1 up.1)

-- The outputs are those of the facts that pass the test. If these rise, so does the answer.
answered : (q : Query) (params : Values) (rows : List Values) (lines : List Line) (all some : List Fact) (test : Fact → Bool) (out : Fact → Output) (ordered kept : List Output)
    → kept ≡ map (λ l. out (fact l)) (filter (λ l. test (fact l)) lines) → IsPermutation (map fact lines) all → filter test all ≡ some → IsAscending (λ a b. output_cmp q a b ≡ Less) (map out some)
    → IsPermutation kept ordered → Rattle.std.proofs.Common.IsSorted (output_cmp q) ordered → ordered ≡ map out some
answered q params rows lines all some test out ordered kept is same passing up moved sorted =
    let whole : kept ≡ map out (filter test (map fact lines)) = is ∙ sym (map-map out fact (filter (λ l. test (fact l)) lines)) ∙ ap (map out) (sym (filter-map test fact lines)) in
    let passed : IsPermutation (map out (filter test (map fact lines))) (map out some) =
    subst (λ fs. IsPermutation (map out (filter test (map fact lines))) (map out fs)) passing (IsPermutation-map out _ _ (IsPermutation-filter test _ _ same)) in
    sorted_unique (output_cmp q) (output_cmp_total q) (map out some) ordered up
    (IsPermutation-trans _ _ _ (IsPermutation-sym _ _ passed) (subst (λ k. IsPermutation k ordered) whole moved)) sorted

pub model_shown : (schema : List ℕ) (old new : Sql) (model : ℕ) (s : State) (found : List Values) → AreKept s.tables → Stands schema old.now s
    → Shown model_text (model_asked model) old new found → found ≡ map model_shows (numbered_facts model none_yet (rows_of s.tables model))
model_shown schema old new model s found placed st h =
    let db = overlay old.now.trees [] in
    let a : IsAnswer of_model db (model_asked model) found = (reads_as model_text (model_asked model) old new (two_tables 0 1 2) st.schema_is _ model_is model_plain.0 model_plain.1 found h).answer Null in
    let lines = st.rec.lines in
    let all = matched (model_asked model) of_model.filter (λ l. is_fact_in model (fact l)) (model_tests model) db 1 lines st.rec.stored in
    let kept_is = a.distinct ∙ ap (map (output of_model)) (a.grouped ∙ all) ∙ map-map (output of_model) _ _ in
    let here : model ≡ 0 + model = omega arith in
    let some = numbered_facts model none_yet (rows_of s.tables model) in
    let both = table_placed 0 model model s.tables here placed in
    let up = outputs_rise (λ f. f.model ≡ model) of_model model_out (model_order model) some (of_one model none_yet (rows_of s.tables model)) (numbered_rise model none_yet (rows_of s.tables model) both.0 both.1) in
    let ordered = answered of_model (model_asked model) found lines (facts s.tables) some (is_fact_in model) model_out a.ordered a.kept kept_is st.rec.same (facts_in 0 model model s.tables here) up a.same a.sorted in
    a.shown ∙ ap (λ xs. page of_model (model_asked model) (map (λ (o : Output). o.1) xs)) ordered ∙ map-map (λ (o : Output). o.1) model_out some

pub own_ids : (id : ℕ) (rows : List Row) → AllByRecursion (λ (r : Row). r.id ≡ id) (alternatives id rows)
own_ids id [] = tt
own_ids id (r ∷ rs) = go (Rattle.std.proofs.Common.◌==◌ r.id id) refl (own_ids id rs)
  where
    go : (b : Bool) → Rattle.std.proofs.Common.◌==◌ r.id id ≡ b → AllByRecursion (λ (x : Row). x.id ≡ id) (alternatives id rs) → AllByRecursion (λ (x : Row). x.id ≡ id) (Rattle.std.proofs.Common.cond b (r ∷ alternatives id rs) (alternatives id rs))
    go true e more = (grind (arith, nat_tests, e), more)
    go false e more = more

pub record_shown : (schema : List ℕ) (old new : Sql) (id : ℕ) (s : State) (found : List Values) → id < 2 ^ 128 → AreKept s.tables → Stands schema old.now s
    → Shown record_text (record_asked (model_of_id id) (id_bytes id)) old new found → found ≡ map record_shows (numbered_facts (model_of_id id) none_yet (alternatives id (rows_of s.tables (model_of_id id))))
record_shown schema old new id s found room placed st h =
    let model = model_of_id id in
    let jid = id_bytes id in
    let asked = record_asked model jid in
    let db = overlay old.now.trees [] in
    let a : IsAnswer of_record db asked found = (reads_as record_text asked old new (two_tables 0 1 2) st.schema_is _ record_is record_plain.0 record_plain.1 found h).answer Null in
    let lines = st.rec.lines in
    let all = matched asked of_record.filter (λ l. is_fact_of model jid (fact l)) (record_tests model jid) db 1 lines st.rec.stored in
    let kept_is = a.distinct ∙ ap (map (output of_record)) (a.grouped ∙ all) ∙ map-map (output of_record) _ _ in
    let here : model ≡ 0 + model = omega arith in
    let rows = alternatives id (rows_of s.tables model) in
    let some = numbered_facts model none_yet rows in
    let both = alternatives_placed model id (rows_of s.tables model) (table_placed 0 model model s.tables here placed) in
    let up = outputs_rise (λ f. (f.model ≡ model) × (f.jid ≡ jid)) of_record record_out (λ f g p q less. record_order model jid f g p.0 q.0 p.1 q.1 less) some
    (of_id model id none_yet rows (own_ids id (rows_of s.tables model))) (numbered_rise model none_yet rows both.0 both.1) in
    let ordered = answered of_record asked found lines (facts s.tables) some (is_fact_of model jid) record_out a.ordered a.kept kept_is st.rec.same (facts_of model id s.tables room placed) up a.same a.sorted in
    a.shown ∙ ap (λ xs. page of_record asked (map (λ (o : Output). o.1) xs)) ordered ∙ map-map (λ (o : Output). o.1) record_out some
