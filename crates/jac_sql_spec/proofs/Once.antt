-- A database that stands for a state tells it.
use Rattle.std.proofs.Common.{◌≡◌, refl, sym, ap, ap₂, subst, ◌∙◌, ℕ, zero, suc, ◌+◌, ◌^◌, ◌<◌, List, [], ◌∷◌, map, filter, length, arith, IsPermutation, Ordering, Less}
use Rattle.std.specs.List.{AllByRecursion}
use Rattle.std.specs.Cmp.{IsTotalOrder}
use Rattle.std.specs.Cmp.Lexicographic.{slice_cmp}
use Rattle.std.proofs.lemmas.Cmp.{on_total, then_total, nat_cmp_total, nat_list_cmp_total}
use Rattle.std.proofs.lemmas.List.Sorted.{IsPermutation-sym}
use Rattle.sqlite_value.specs.Order.{column}
use Rattle.sqlite.specs.Effect.{Database}
use Rattle.sqlite_keyed.specs.Lists.{sort_by}
use Rattle.sqlite_keyed.proofs.ListLemmas.{map-map}
use Rattle.jac_rows.specs.declared.row.Row.{Row}
use Rattle.jac_rows.specs.declared.state.State.{State}
use Rattle.jac_rows.specs.Tables.{rows_of}
use Rattle.jac_sql_spec.specs.Facts.{Fact, fact_of, fact_cmp, facts, count_with, none_yet, numbered_facts, is_fact_in, AreKept}
use Rattle.jac_sql_spec.proofs.FactLaws.{facts_in, facts_rise}
use Rattle.jac_sql_spec.specs.Tables.{meta_row}
use Rattle.jac_sql_spec.specs.Lines.{Line, encode}
use Rattle.jac_sql_spec.specs.Stands.{fact, Stands}
use Rattle.jac_sql_spec.proofs.Permuted.{sorted_is}
use Rattle.jac_sql_spec.specs.Spelled.{number_in, guard_in, cells_in, IsSpelled}
use Rattle.jac_sql_spec.specs.Told.{natural_in, fact_in, row_in, tables_in, told, AreSpelled}
use Rattle.jac_sql_spec.proofs.Again.{number_again, guard_again, cells_again}

pub fact_cmp_total : IsTotalOrder fact_cmp
fact_cmp_total = then_total (on_total (λ (f : Fact). f.model) nat_cmp_total) (then_total (on_total (λ (f : Fact). f.jid) nat_list_cmp_total) (on_total (λ (f : Fact). f.alt) nat_cmp_total))

row_again : (model alt : ℕ) (r : Row) → IsSpelled r → row_in (fact_of model alt r) ≡ r
row_again model alt r is =
    let room = is.room in
    λ i. record { id = number_again 16 r.id (omega (arith, room)) i; guard = guard_again r.guard is.guard i; cells = cells_again r.cells is.cells is.narrow i }

rows_again : (model : ℕ) (c : ℕ → ℕ) (rows : List Row) → AllByRecursion IsSpelled rows → map row_in (numbered_facts model c rows) ≡ rows
rows_again model c [] are = refl
rows_again model c (r ∷ rs) are = ap₂ ◌∷◌ (row_again model (c r.id) r are.0) (rows_again model (count_with r.id c) rs are.1)

tables_again : (first : ℕ) (all : List Fact) (tables : List (List Row)) → ((k model : ℕ) → model ≡ first + k → filter (is_fact_in model) all ≡ numbered_facts model none_yet (rows_of tables k)) → AreSpelled tables
    → tables_in first (length tables) all ≡ tables
tables_again first all [] has are = refl
tables_again first all (t ∷ ts) has are =
    ap₂ ◌∷◌ (ap (map row_in) (has 0 first (omega arith)) ∙ rows_again first none_yet t are.0)
    (tables_again (first + 1) all ts (λ k model is. has (suc k) model (omega (arith, is))) are.1)

-- The facts are those of the rows.
facts_again : (lines : List Line) → map fact_in (map encode lines) ≡ map fact lines
facts_again [] = refl
facts_again (l ∷ ls) = ap (λ fs. fact l ∷ fs) (facts_again ls)

pub stands_told : (schema : List ℕ) (db : Database) (s : State) → Stands schema db s → AreKept s.tables → AreSpelled s.tables → told (length s.tables) db ≡ s
stands_told schema db s st kept spelled =
    let all : facts s.tables ≡ sort_by fact_cmp (map fact st.rec.lines) = sorted_is fact_cmp fact_cmp_total (map fact st.rec.lines) (facts s.tables) (facts_rise 0 s.tables kept) (IsPermutation-sym _ _ st.rec.same) in
    let found : sort_by fact_cmp (map fact_in (db.trees 1)) ≡ facts s.tables = ap (λ rows. sort_by fact_cmp (map fact_in rows)) st.rec.stored ∙ ap (sort_by fact_cmp) (facts_again st.rec.lines) ∙ sym all in
    let tables : tables_in 0 (length s.tables) (sort_by fact_cmp (map fact_in (db.trees 1))) ≡ s.tables =
    ap (tables_in 0 (length s.tables)) found ∙ tables_again 0 (facts s.tables) s.tables (λ k model is. facts_in 0 k model s.tables is) spelled in
    let number : natural_in (column (Rattle.std.specs.Prelude.slice_index_or (db.trees 0) 0 []) 2) ≡ s.number = ap (λ rows. natural_in (column (Rattle.std.specs.Prelude.slice_index_or rows 0 []) 2)) st.meta in
    λ i. record { tables = tables i; number = number i }

-- So a database stands for only one state with so many models.
pub stands_once : (schema : List ℕ) (db : Database) (s t : State) → length s.tables ≡ length t.tables → Stands schema db s → Stands schema db t → AreKept s.tables → AreSpelled s.tables → AreKept t.tables → AreSpelled t.tables → s ≡ t
stands_once schema db s t long one two kept spelled also written = sym (stands_told schema db s one kept spelled) ∙ ap (λ n. told n db) long ∙ stands_told schema db t two also written
