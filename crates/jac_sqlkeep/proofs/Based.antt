-- What is known of a database that was read, changed or opened.
use Rattle.std.proofs.Common.{◌≡◌, inl, refl, sym, ap, subst, ◌∙◌, ℕ, zero, suc, ◌+◌, ◌≤◌, Bool, true, false, true≢false, List, [], ◌∷◌, length, Option, Some, None, IfSome, Ok, Err, Result, IfOk, IfErr, OnOk, OnErr, IsTrue, slice_get, arith}
use Rattle.sqlite_trees.specs.declared.store.Store.{Ghosts}
use Rattle.sqlite.specs.declared.error.Error.{Error}
use Rattle.sqlite.specs.Held.{Held, state}
use Rattle.sqlite.specs.State.{HasCleanDisk}
use Rattle.jac_value.specs.Ids.{model_of_id}
use Rattle.jac_value.specs.declared.value.Kind.{Kind}
use Rattle.jac_value.specs.declared.value.Value.{Value}
use Rattle.jac_rows.specs.Good.{IsSound}
use Rattle.jac_rows.specs.Tables.{rows_of}
use Rattle.jac_rows.specs.declared.row.Row.{Row}
use Rattle.jac_rows.specs.declared.state.State.{State}
use Rattle.jac_keep.specs.declared.alteration.Change.{Change}
use Rattle.jac_keep.specs.Alterations.{ArePlaced}
use Rattle.jac_keep.specs.ChangedState.{changed_state}
use Rattle.jac_keep.specs.Records.{alternatives}
use Rattle.jac_keep.specs.MatchingRecords.{holders}
use Rattle.jac_sql_spec.specs.Facts.{Fact}
use Rattle.jac_keep.specs.Reshaping.{widened_state}
use Rattle.jac_keep.specs.Schema.{IsFit, shapes_by}
use Rattle.jac_keep.proofs.SchemaLaws.{length_shapes, empties_fit}
use Rattle.jac_sql_spec.specs.Told.{told, tables_in, schema_in}
use Rattle.jac_sql_spec.specs.Statements.{sql_statements, statements_with}
use Rattle.jac_sql_spec.specs.Telling.{empty_state, IsAllCommitted, ReadsTold, AppliesTold, ReshapesTold, CanBeStored}
use Rattle.jac_sql_spec.specs.Transaction.{Leaves, Transacts, EndsCommitted}
use Rattle.jac_sql_spec.proofs.Exact.{change_exact}
use Rattle.jac_sql_spec.proofs.Kept.{long_tables, reshape_told, schema_stands}
use Rattle.jac_sql_spec.proofs.Sound.{kept_if_sound}
use Rattle.jac_sql_spec.proofs.Stays.{clean_if_open}
use Rattle.sqlite_schema.specs.declared.schema.Schema.{Schema}
use Rattle.sqlite.specs.Effect.{Database}
use Rattle.jac_sql_spec.specs.Lasting.{ConnectionLasts, IsSeenUnmoved, LeavesStoredTables}
use Rattle.jac_sql_spec.specs.Stands.{Stands}
use Rattle.jac_sql_spec.specs.Tables.{no_tables, two_tables}
use Rattle.jac_sqlkeep.specs.Based.{Based, based_keeper, seen_database, DatabaseGoesOn, Stood, IsStanding, IsStoreOf, KeepsText, TellsStanding, Begins, IsWhole, ReadsBased, AppliesBased, ReshapesBased}

never : {A : Type 0} → IsTrue false → A
never t = absurd (true≢false (sym t))

module _ {S : Type 0} (g : Ghosts S) (kinds : List (List Kind)) (old new : Held S) where
  pub reads_based : {T : Type 0} (Is : State → T → Type 0) (r : Result T Error) (known : Bool) → (IsTrue known → ReadsTold g Is (length kinds) old new r) → ReadsBased Is (based_keeper g kinds known old) (based_keeper g kinds known new) r
  reads_based Is r false told = record { told_before = λ t. t; same_state = λ t. never t; good = λ t. never t; exact = λ t. never t }
  reads_based Is r true told =
      let it = told refl in
      record { told_before = it.left.told_before; same_state = it.left.same; good = λ t. (it.kept.told_by t).sound; exact = it.exact }

  pub applies_based : (change : Change) (r : Result (Unit {0}) Error) (known : Bool) → (IsTrue known → AppliesTold g (length kinds) change old new r) → AppliesBased change (based_keeper g kinds known old) (based_keeper g kinds known new) r
  applies_based change r false told = record { told_before = λ t. t; good = λ t. never t; exact = λ t. never t; refused = λ t. never t }
  applies_based change r true told =
      let it = told refl in
      record { told_before = it.told_before; good = λ t. (it.kept.told_by t).sound; exact = it.exact; refused = it.refused }

-- A change that has to leave the known state sound leaves the seen state sound.
pub sound_before : {S : Type 0} (g : Ghosts S) (kinds : List (List Kind)) (h : Held S) (change : Change) (known : Bool) → IsTrue known → (IsTrue (based_keeper g kinds known h).tells → IsSound (changed_state change (based_keeper g kinds known h).state))
    → IsTrue (state g h).is_open → IsSound (changed_state change (told (length kinds) (state g h).now))
sound_before g kinds h change true known sound opened = sound opened
sound_before g kinds h change false known sound opened = never known

module _ {S : Type 0} (g : Ghosts S) (kinds more : List (List Kind)) (nested : List Bool) (old new : Held S) (change : Change) (schema : List ℕ) where
  -- A change that brings another schema, over a database whose state is known.
  pub reshaped_told : ((state g new).is_clean ≡ false → (state g new).is_open ≡ false) → (HasCleanDisk (state g new) → EndsCommitted (state g old) (state g new)) → (known : Bool) → (IsTrue known → IsAllCommitted (length kinds) (state g old))
      → (IsTrue (based_keeper g kinds known old).tells → IsFit (shapes_by more nested) (widened_state (length more) (changed_state change (based_keeper g kinds known old).state))) → (r : Result (Unit {0}) Error)
      → OnOk r (CanBeStored (length kinds) change.changed) → Transacts g (statements_with change (Some schema)) old new r → IsTrue known → ReshapesTold g (length kinds) (length more) change schema old new r
  reshaped_told law ends false was fits r may t known = never known
  reshaped_told law ends true was fits r may t known =
      let s = changed_state change (told (length kinds) (state g old).now) in
      subst (λ n. ReshapesTold g (length kinds) n change schema old new r) (length_shapes more nested)
      (reshape_told g (shapes_by more nested) (length kinds) old new change schema law ends (was refl)
      (λ opened. subst (λ n. IsFit (shapes_by more nested) (widened_state n s)) (sym (length_shapes more nested)) (fits opened)) r may t)

  pub reshapes_ok : (known : Bool) → (IsTrue known → ReshapesTold g (length kinds) (length more) change schema old new (Ok tt)) → ReshapesBased change schema (length more) (based_keeper g kinds known old) (based_keeper g more known new) (Ok tt)
  reshapes_ok false told = record { told_before = λ t. t; exact = λ t. never t; stored = λ t. never t; refused = λ t. tt }
  reshapes_ok true told =
      let it = told refl in
      record { told_before = it.told_before; exact = it.exact; stored = it.stored; refused = λ t. tt }

  pub reshapes_err : (known : Bool) (e : Error) → (IsTrue known → ReshapesTold g (length kinds) (length more) change schema old new (Err e)) → ReshapesBased change schema (length more) (based_keeper g kinds known old) (based_keeper g kinds known new) (Err e)
  reshapes_err false e told = record { told_before = λ t. t; exact = λ t. tt; stored = λ t. tt; refused = λ t. never t }
  reshapes_err true e told =
      let it = told refl in
      record { told_before = it.told_before; exact = λ t. tt; stored = λ t. tt; refused = it.refused }

-- ---- a model beyond the schema has no rows

beyond : {X : Type 0} (xs : List X) (k : ℕ) → slice_get xs k ≡ None → length xs ≤ k
beyond [] k none = omega arith
beyond (x ∷ xs) zero none = absurd (let e : ◌≡◌ {A = Option _} (Some x) None = none in cc)
beyond (x ∷ xs) (suc k) none = let more = beyond xs k none in let long : length (x ∷ xs) ≡ suc (length xs) = refl in omega (arith, more, long)

rows_beyond : (first n k : ℕ) (all : List Fact) → n ≤ k → rows_of (tables_in first n all) k ≡ []
rows_beyond first zero zero all within = refl
rows_beyond first zero (suc k) all within = refl
rows_beyond first (suc n) zero all within = absurd (omega (arith, within))
rows_beyond first (suc n) (suc k) all within = rows_beyond (first + 1) n k all (omega (arith, within))

module _ {S : Type 0} (g : Ghosts S) (kinds : List (List Kind)) (h : Held S) where
  none_based : (Is : State → List Row → Type 0) (known : Bool) → (IsTrue known → IsAllCommitted (length kinds) (state g h)) → Is (based_keeper g kinds known h).state [] → ReadsBased Is (based_keeper g kinds known h) (based_keeper g kinds known h) (Ok [])
  none_based Is false kept is = record { told_before = λ t. t; same_state = λ t. refl; good = λ t. never t; exact = λ t. is }
  none_based Is true kept is = record { told_before = λ t. t; same_state = λ t. refl; good = λ t. ((kept refl).told_by t).sound; exact = λ t. is }

  pub no_rows : (model : ℕ) (known : Bool) → (IsTrue known → IsAllCommitted (length kinds) (state g h)) → slice_get kinds model ≡ None → ReadsBased (λ s rows. rows ≡ rows_of s.tables model) (based_keeper g kinds known h) (based_keeper g kinds known h) (Ok [])
  no_rows model known kept none = none_based (λ s rows. rows ≡ rows_of s.tables model) known kept (sym (rows_beyond 0 (length kinds) model _ (beyond kinds model none)))

  pub no_alternatives : (id : ℕ) (known : Bool) → (IsTrue known → IsAllCommitted (length kinds) (state g h)) → slice_get kinds (model_of_id id) ≡ None
      → ReadsBased (λ s rows. rows ≡ alternatives id (rows_of s.tables (model_of_id id))) (based_keeper g kinds known h) (based_keeper g kinds known h) (Ok [])
  no_alternatives id known kept none =
      none_based (λ s rows. rows ≡ alternatives id (rows_of s.tables (model_of_id id))) known kept (sym (ap (alternatives id) (rows_beyond 0 (length kinds) (model_of_id id) _ (beyond kinds (model_of_id id) none))))

-- ---- what is found among the rows of a model

found_in : (f : List Row → List Row) (want : List Row) (r : Result (List Row) Error) (found : Result (List Row) Error) → IfOk r (λ rows. rows ≡ want)
    → IfOk r (λ rows. IfOk found (λ them. them ≡ f rows)) → IfErr r (λ e. found ≡ Err e) → IfOk found (λ them. them ≡ f want)
found_in f want (Ok rows) (Ok them) read are none = are ∙ ap f read
found_in f want (Ok rows) (Err e) read are none = tt
found_in f want (Err e) found read are none = subst (λ (x : Result (List Row) Error). IfOk x (λ them. them ≡ f want)) (sym none) tt

pub found_based : (field : ℕ) (value : Value) (model : ℕ) (old new : Based) (r found : Result (List Row) Error) → ReadsBased (λ s rows. rows ≡ rows_of s.tables model) old new r
    → IfOk r (λ rows. IfOk found (λ them. them ≡ holders field value rows)) → IfErr r (λ e. found ≡ Err e)
    → ReadsBased (λ s rows. rows ≡ holders field value (rows_of s.tables model)) old new found
found_based field value model old new r found reads are none = record {
  told_before = reads.told_before;
  same_state = reads.same_state;
  good = reads.good;
  exact = λ told. found_in (holders field value) (rows_of old.state.tables model) r found (reads.exact told) are none;
}

-- ---- opening

-- A state without records fits every schema.
pub fits_empty : (kinds : List (List Kind)) (nested : List Bool) (s : State) → s ≡ empty_state (length kinds) → IsFit (shapes_by kinds nested) s
fits_empty kinds nested s is =
    subst (IsFit (shapes_by kinds nested)) (sym (is ∙ ap empty_state (sym (length_shapes kinds nested)))) (empties_fit (shapes_by kinds nested) (record { tables = []; number = 1 }) (omega arith, omega arith))

-- A database with a keeper's tables isn't empty.
some_tables : (s : Schema) → s ≡ two_tables 0 1 2 → ¬ (s ≡ no_tables)
some_tables s has none = absurd (let e : two_tables 0 1 2 ≡ no_tables = sym has ∙ none in let e2 = ap (λ (s : Schema). length s.tables) e in cc)

module _ {S : Type 0} (g : Ghosts S) (kinds : List (List Kind)) (given h : Held S) where
  -- A database that is left as it was.
  pub stood_by : (b : Based) → b ≡ based_keeper g kinds false h → ConnectionLasts (state g given) (state g h) → (IsTrue (state g h).is_open → IsTrue (state g given).is_open)
      → (IsTrue (state g h).is_open → (state g h).now ≡ (state g given).now) → (IsTrue (state g h).is_open → (state g h).now ≡ (state g h).committed) → Stood g given b
  stood_by b is lasts was same settled = subst (Stood g given) (sym is) (record { was_open = was; kept = λ opened. ap seen_database (same opened); settled = λ opened. ap seen_database (sym (settled opened)); closes = lasts.closes; sure = λ law. law h.store })

  -- If the rows are known, they represent the known state.
  standing_of : (schema : List ℕ) → IsAllCommitted (length kinds) (state g h) → (IsTrue (state g h).is_open → schema_in (state g h).now ≡ schema) → IsTrue (state g h).is_open → IsStanding schema (based_keeper g kinds true h)
  standing_of schema kept stored opened =
      let it = kept.told_by opened in
      record {
        database = (state g h).now;
        has = refl;
        stands = subst (λ (x : List ℕ). Stands x (state g h).now (told (length kinds) (state g h).now)) (sym (schema_stands it.schema (state g h).now (told (length kinds) (state g h).now) it.stands) ∙ stored opened) it.stands;
        settled = ap seen_database (sym (kept.settled opened));
      }

  -- An open connection was given with a disk that had returned what was written.
  clean_as_given : ((state g h).is_clean ≡ false → (state g h).is_open ≡ false) → ConnectionLasts (state g given) (state g h) → IsTrue (state g h).is_open → HasCleanDisk (state g given)
  clean_as_given law lasts opened = let later = lasts.clean in let clean = clean_if_open (state g h) law opened in omega (arith, later, clean)

  -- A new store.
  pub begins_new : (schema : List ℕ) (nested : List Bool) → ((state g h).is_clean ≡ false → (state g h).is_open ≡ false) → ConnectionLasts (state g given) (state g h) → (state g given).now.schema ≡ no_tables → (IsTrue (state g h).is_open → IsTrue (state g given).is_open)
      → IsAllCommitted (length kinds) (state g h) → (IsTrue (state g h).is_open → told (length kinds) (state g h).now ≡ empty_state (length kinds)) → (IsTrue (state g h).is_open → schema_in (state g h).now ≡ schema)
      → Begins g schema kinds nested given (based_keeper g kinds true h)
  begins_new schema nested law lasts none was kept empty stored = record {
    tells = refl;
    fit = λ opened. fits_empty kinds nested _ (empty opened);
    stored = stored;
    standing = standing_of schema kept stored;
    made = λ none opened. empty opened;
    kept = λ some. absurd (some none);
    same_state = λ some. absurd (some none);
    same_schema = λ some. absurd (some none);
    was_clean = clean_as_given law lasts;
    was_open = was;
    closes = lasts.closes;
    sure = λ law. law h.store;
  }

  -- A store that was made before.
  pub begins_again : (schema : List ℕ) (nested : List Bool) → ((state g h).is_clean ≡ false → (state g h).is_open ≡ false) → ConnectionLasts (state g given) (state g h) → (state g given).now.schema ≡ two_tables 0 1 2 → IsSeenUnmoved (state g given) (state g h)
      → IsWhole g schema kinds nested h → Begins g schema kinds nested given (based_keeper g kinds true h)
  begins_again schema nested law lasts has left whole = record {
    tells = refl;
    fit = whole.fit;
    stored = whole.stored;
    standing = standing_of schema whole.kept whole.stored;
    made = λ none. absurd (some_tables (state g given).now.schema has none);
    kept = λ some opened. ap seen_database (left.same opened);
    same_state = λ some opened. ap (told (length kinds)) (left.same opened);
    same_schema = λ some opened. sym (ap schema_in (left.same opened)) ∙ whole.stored opened;
    was_clean = clean_as_given law lasts;
    was_open = left.was_open;
    closes = lasts.closes;
    sure = λ law. law h.store;
  }

-- a store of another schema
pub other_store : {S : Type 0} (g : Ghosts S) (kinds : List (List Kind)) (given h : Held S) (b : Based) (stored : List ℕ) → b ≡ based_keeper g kinds false h → (state g given).now.schema ≡ two_tables 0 1 2 → IsSeenUnmoved (state g given) (state g h)
    → (IsTrue (state g h).is_open → schema_in (state g h).now ≡ stored) → IsTrue b.is_open → IsStoreOf stored b
other_store g kinds given h b stored is has left found =
    subst (λ (b : Based). IsTrue b.is_open → IsStoreOf stored b) (sym is) (λ opened. record { form = ap (λ (d : Database). d.schema) (left.same opened) ∙ has; stored = found opened })

-- A database to which nothing was done.
pub stood_here : {S : Type 0} (g : Ghosts S) (kinds : List (List Kind)) (h : Held S) (b : Based) → b ≡ based_keeper g kinds false h → (IsTrue (state g h).is_open → (state g h).now ≡ (state g h).committed) → Stood g h b
stood_here g kinds h b is settled =
    stood_by g kinds h h b is (record { clean = omega arith; counts = omega arith; closes = λ clean opened. inl opened }) (λ opened. opened) (λ opened. refl) settled

-- ---- the schema text from call to call

pub text_same : (b : Based) → KeepsText b b
text_same b = record { told_before = λ u. u; same = λ u. refl }

module _ {S : Type 0} (g : Ghosts S) (kinds : List (List Kind)) (old new : Held S) where
  -- a database that was read has the text that it had
  text_read : IsAllCommitted (length kinds) (state g old) → LeavesStoredTables (state g old) (state g new) → KeepsText (based_keeper g kinds true old) (based_keeper g kinds true new)
  text_read was leaves =
      let left = leaves (λ opened. (was.told_by opened).stands.schema_is) was.settled in
      record { told_before = left.was_open; same = λ opened. ap schema_in (left.same opened) }

  pub text_left : (known : Bool) → (IsTrue known → IsAllCommitted (length kinds) (state g old)) → LeavesStoredTables (state g old) (state g new) → KeepsText (based_keeper g kinds known old) (based_keeper g kinds known new)
  text_left false was leaves = record { told_before = λ u. never u; same = λ u. never u }
  text_left true was leaves = text_read (was refl) leaves

  module _ (change : Change) (law : (state g new).is_clean ≡ false → (state g new).is_open ≡ false) (ends : HasCleanDisk (state g new) → EndsCommitted (state g old) (state g new)) where
    at_end : IsTrue (state g new).is_open → EndsCommitted (state g old) (state g new)
    at_end opened = ends (clean_if_open (state g new) law opened)

    -- one that a change was applied to, too
    text_done : IsAllCommitted (length kinds) (state g old) → (db : Database) → IsTrue (state g old).is_open → CanBeStored (length kinds) change.changed → Leaves g (sql_statements change) old db → schema_in db ≡ schema_in (state g old).now
    text_done was db opened may left =
        let it = was.told_by opened in
        let s = told (length kinds) (state g old).now in
        let long : length s.tables ≡ length kinds = long_tables 0 (length kinds) _ in
        let st = change_exact g it.schema old old s it.stands (kept_if_sound s it.sound) change db may.narrow may.own (subst (ArePlaced change.changed) (sym long) may.placed) left in
        schema_stands it.schema db (changed_state change s) st ∙ sym (schema_stands it.schema (state g old).now s it.stands)

    text_changed : (r : Result (Unit {0}) Error) → IsAllCommitted (length kinds) (state g old) → OnOk r (CanBeStored (length kinds) change.changed) → Transacts g (sql_statements change) old new r → KeepsText (based_keeper g kinds true old) (based_keeper g kinds true new)
    text_changed (Ok done) was may t = record {
      told_before = λ opened. (at_end opened).was_open opened;
      same = λ opened. ap schema_in ((at_end opened).settled opened) ∙ text_done was (state g new).committed ((at_end opened).was_open opened) may (t.all (clean_if_open (state g new) law opened));
    }
    text_changed (Err e) was may t = record {
      told_before = λ opened. (at_end opened).was_open opened;
      same = λ opened. ap schema_in (t.none (clean_if_open (state g new) law opened) opened).0;
    }

    pub text_applied : (r : Result (Unit {0}) Error) (known : Bool) → (IsTrue known → IsAllCommitted (length kinds) (state g old)) → OnOk r (CanBeStored (length kinds) change.changed) → Transacts g (sql_statements change) old new r
        → KeepsText (based_keeper g kinds known old) (based_keeper g kinds known new)
    text_applied r false was may t = record { told_before = λ u. never u; same = λ u. never u }
    text_applied r true was may t = text_changed r (was refl) may t

    -- one that refused to be brought to another schema
    pub text_refused : (schema : List ℕ) (e : Error) (known : Bool) → Transacts {T = Unit {0}} g (statements_with change (Some schema)) old new (Err e) → KeepsText (based_keeper g kinds known old) (based_keeper g kinds known new)
    text_refused schema e false t = record { told_before = λ u. never u; same = λ u. never u }
    text_refused schema e true t = record {
      told_before = λ opened. (at_end opened).was_open opened;
      same = λ opened. ap schema_in (t.none (clean_if_open (state g new) law opened) opened).0;
    }

-- ---- from call to call

-- The rows represent a known state, and they are committed.
pub tells_standing : {S : Type 0} (g : Ghosts S) (kinds : List (List Kind)) (h : Held S) (known : Bool) → (IsTrue known → IsAllCommitted (length kinds) (state g h)) → TellsStanding (based_keeper g kinds known h)
tells_standing g kinds h false kept = λ told. never told
tells_standing g kinds h true kept = standing_of g kinds h h (schema_in (state g h).now) (kept refl) (λ opened. refl)

module _ {S : Type 0} (g : Ghosts S) (kinds more : List (List Kind)) (old new : Held S) where
  pub goes_by : (known : Bool) → ConnectionLasts (state g old) (state g new) → (IsTrue (state g new).is_open → IsTrue (state g old).is_open) → (IsTrue known → IsAllCommitted (length more) (state g new))
      → DatabaseGoesOn g (based_keeper g kinds known old) (based_keeper g more known new)
  goes_by false lasts opens kept = record { tells = λ t. never t; opens = opens; clean = lasts.clean; counts = lasts.counts; closes = lasts.closes; sure = λ law opened. law new.store; standing = λ was. tells_standing g more new false kept }
  goes_by true lasts opens kept = record { tells = λ told opened. opened; opens = opens; clean = lasts.clean; counts = lasts.counts; closes = lasts.closes; sure = λ law opened. law new.store; standing = λ was. tells_standing g more new true kept }
