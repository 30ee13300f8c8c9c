-- What is read is what the state has, and a change leaves the changed state.
use Rattle.std.proofs.Common.{◌≡◌, refl, sym, ap, ap₂, subst, ◌∙◌, ℕ, ◌+◌, ◌<◌, ◌^◌, ◌==◌, pos, Bool, true, false, cond, List, [], ◌∷◌, ◌++◌, map, length, Ok, arith}
use Rattle.std.specs.List.{AllByRecursion}
use Rattle.sqlite_trees.specs.declared.store.Store.{Ghosts}
use Rattle.sqlite_value.specs.declared.value.Value.{Value}
use Rattle.sqlite_value.specs.declared.value.Value.TheVariants.{Int, Blob}
use Rattle.sqlite_value.specs.Order.{Row as Values, column}
use Rattle.sqlite.specs.Effect.{Database}
use Rattle.sqlite.specs.State.{State as Sql, Shown, QueriesRow}
use Rattle.sqlite.specs.Held.{Held, state}
use Rattle.jac_value.specs.Ids.{model_of_id}
use Rattle.jac_value.specs.declared.value.Kind.{Kind}
use Rattle.jac_rows.specs.declared.row.Row.{Row}
use Rattle.jac_rows.specs.declared.state.State.{State}
use Rattle.jac_rows.specs.Tables.{rows_of}
use Rattle.jac_row_codec.specs.Faults.{IsIdOf, IsRowOf}
use Rattle.jac_row_codec.specs.Spelling.{guard_bytes, cells_bytes, IsNarrow}
use Rattle.jac_row_codec.proofs.Numbers.{one_spelled}
use Rattle.jac_row_codec.proofs.Guards.{guard_once}
use Rattle.jac_keep.specs.declared.alteration.Change.{Change}
use Rattle.jac_keep.specs.Alterations.{AreOwn, ArePlaced}
use Rattle.jac_keep.specs.Records.{alternatives}
use Rattle.jac_keep.specs.ChangedState.{changed_state}
use Rattle.jac_keep.proofs.SoundLaws.{all-with_id}
use Rattle.jac_sql_spec.specs.Founding.{IsNumberAsked, HasNumber}
use Rattle.jac_sql_spec.specs.Reading.{IsRowIn, IsModelRow, IsRecordRow, Each, AreShown}
use Rattle.jac_sql_spec.specs.Statements.{reading, model_reading, record_reading, sql_statements}
use Rattle.jac_sql_spec.specs.Transaction.{Ran, Leaves}
use Rattle.jac_sql_spec.specs.Facts.{Fact, fact_of, id_bytes, count_with, none_yet, numbered_facts, IsPlaced, AreKept}
use Rattle.jac_sql_spec.proofs.Asked.{asks}
use Rattle.jac_sql_spec.specs.Stands.{Stands}
use Rattle.jac_sql_spec.specs.Reading.{model_shows, record_shows}
use Rattle.jac_sql_spec.proofs.Alternatives.{table_placed}
use Rattle.jac_sql_spec.proofs.Found.{own_ids, model_shown, record_shown}
use Rattle.jac_sql_spec.specs.Spelled.{cells_in, IsSpelled}
use Rattle.jac_sql_spec.specs.Told.{AreSpelled}
use Rattle.jac_sql_spec.proofs.Again.{cells_again}
use Rattle.jac_sql_spec.specs.Stands.{AreNarrow}
use Rattle.jac_sql_spec.proofs.Whole.{changed}
use Rattle.jac_sql_spec.proofs.Sound.{id_room, rows_spelled, narrow_cells}

-- ---- the number

number_of : (n : ℕ) (row : Values) (m : ℕ) (rest : Values) → row ≡ Int (pos m) ∷ rest → column row 0 ≡ Int (pos n) → n ≡ m
number_of n row m rest is stored = let e : ◌≡◌ {A = Value} (Int (pos m)) (Int (pos n)) = sym (ap (λ r. column r 0) is) ∙ stored in cc

pub number_exact : {S : Type 0} (g : Ghosts S) (schema : List ℕ) (old new : Held S) (s : State) (n : ℕ) → Stands schema (state g old).now s → IsNumberAsked g old new n → n ≡ s.number
unfolding reading
number_exact g schema old new s n st asked = number_of n asked.row s.number _ (asks (state g old) (state g new) s.number schema asked.row st.schema_is st.meta asked.asked) asked.has.stored

-- ---- rows: whatever the kinds, what was decoded is what was encoded

same_blob : (a b : List ℕ) → ◌≡◌ {A = Value} (Blob a) (Blob b) → a ≡ b
same_blob a b e = cc

one_row : (id : ℕ) (kinds : List Kind) (jvars body : List ℕ) (r x : Row) → r.id ≡ id → IsSpelled r → guard_bytes r.guard ≡ jvars → cells_bytes r.cells ≡ body → IsRowOf id kinds jvars body x → x ≡ r
one_row id kinds jvars body r x same is guard cells spelled =
    let ids : x.id ≡ r.id = spelled.same_id ∙ sym same in
    let guards : x.guard ≡ r.guard = guard_once x.guard r.guard spelled.guard is.guard (sym spelled.jvars_spelled ∙ sym guard) in
    let narrow = narrow_cells kinds x.cells spelled.cells.fit in
    let bytes : cells_bytes x.cells ≡ cells_bytes r.cells = sym spelled.body_spelled ∙ sym cells in
    let all : x.cells ≡ r.cells = sym (cells_again x.cells spelled.cells.each narrow) ∙ ap cells_in bytes ∙ cells_again r.cells is.cells is.narrow in
    λ i. record { id = ids i; guard = guards i; cells = all i }

one_model_row : (model alt : ℕ) (kinds : List Kind) (r x : Row) → IsSpelled r → IsModelRow model kinds (model_shows (fact_of model alt r)) x → x ≡ r
one_model_row model alt kinds r x spelled is =
    let below = id_room x.id model is.id_spelled.of_model in
    let room = spelled.room in
    let bytes : id_bytes r.id ≡ id_bytes x.id = same_blob _ _ is.id_stored ∙ is.id_spelled.spelled in
    let same : r.id ≡ x.id = (one_spelled 16 r.id x.id [] [] (omega (arith, room)) (omega (arith, below)) (ap (λ l. l ++ []) bytes)).0 in
    one_row x.id kinds is.rest.jvars is.rest.body r x same spelled (same_blob _ _ is.rest.guard_stored) (same_blob _ _ is.rest.cells_stored) is.rest.spelled

model_rows : (model : ℕ) (kinds : List Kind) (c : ℕ → ℕ) (rs rows : List Row) → AllByRecursion IsSpelled rs → Each (IsModelRow model kinds) (map model_shows (numbered_facts model c rs)) rows → rows ≡ rs
model_rows model kinds c [] [] are each = refl
model_rows model kinds c [] (x ∷ rows) are each = absurd each
model_rows model kinds c (r ∷ rs) [] are each = absurd each
model_rows model kinds c (r ∷ rs) (x ∷ rows) are each = ap₂ ◌∷◌ (one_model_row model (c r.id) kinds r x are.0 each.0) (model_rows model kinds (count_with r.id c) rs rows are.1 each.1)

record_rows : (model id : ℕ) (kinds : List Kind) (c : ℕ → ℕ) (rs rows : List Row) → AllByRecursion (λ (r : Row). r.id ≡ id) rs → AllByRecursion IsSpelled rs
    → Each (IsRecordRow id kinds) (map record_shows (numbered_facts model c rs)) rows → rows ≡ rs
record_rows model id kinds c [] [] own are each = refl
record_rows model id kinds c [] (x ∷ rows) own are each = absurd each
record_rows model id kinds c (r ∷ rs) [] own are each = absurd each
record_rows model id kinds c (r ∷ rs) (x ∷ rows) own are each =
    ap₂ ◌∷◌ (one_row id kinds each.0.jvars each.0.body r x own.0 are.0 (same_blob _ _ each.0.guard_stored) (same_blob _ _ each.0.cells_stored) each.0.spelled)
    (record_rows model id kinds (count_with r.id c) rs rows own.1 are.1 each.1)

module _ {S : Type 0} (g : Ghosts S) (schema : List ℕ) (old new : Held S) (s : State) (st : Stands schema (state g old).now s) (kept : AreKept s.tables) where
  module _ (spelled : AreSpelled s.tables) where
    pub model_exact : (model : ℕ) (kinds : List Kind) (rows : List Row) → AreShown g (model_reading model) (IsModelRow model kinds) old new rows → rows ≡ rows_of s.tables model
    unfolding model_reading
    model_exact model kinds rows are =
        let found = model_shown schema (state g old) (state g new) model s are.found kept st are.shown in
        model_rows model kinds none_yet (rows_of s.tables model) rows (rows_spelled s.tables model spelled) (subst (λ f. Each (IsModelRow model kinds) f rows) found are.each)

    pub record_exact : (id : ℕ) (kinds : List Kind) (rows : List Row) → id < 2 ^ 128 → AreShown g (record_reading id) (IsRecordRow id kinds) old new rows → rows ≡ alternatives id (rows_of s.tables (model_of_id id))
    unfolding record_reading
    record_exact id kinds rows room are =
        let model = model_of_id id in
        let all = rows_of s.tables model in
        let found = record_shown schema (state g old) (state g new) id s are.found room kept st are.shown in
        record_rows model id kinds none_yet (alternatives id all) rows (own_ids id all) (all-with_id IsSpelled (λ i. i == id) all (rows_spelled s.tables model spelled))
        (subst (λ f. Each (IsRecordRow id kinds) f rows) found are.each)

  -- One transaction of a change.
  pub change_exact : (c : Change) (db : Database) → AreNarrow c.changed → AreOwn c.changed → ArePlaced c.changed (length s.tables) → Leaves g (sql_statements c) old db → Stands schema db (changed_state c s)
  change_exact c db narrow own within left =
      subst (λ d. Stands schema d (changed_state c s)) (sym left.left) (changed g schema c (record old { in_transaction = true }) left.last s narrow own within kept left.ran st)
