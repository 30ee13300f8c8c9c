-- Rows that a database shows one at a time.
use Rattle.std.proofs.Common.{◌≡◌, inl, inr, refl, sym, ap, subst, ◌∙◌, ℕ, cond, true, false, List, [], ◌∷◌, ◌++◌, append_assoc, append-nil, Option, Some, None, Result, Ok, Err, IfOk, IsErr, IsTrue, arith}
use Rattle.sqlite_trees.specs.Tree.{Trees}
use Rattle.sqlite_trees.specs.declared.store.Store.{Ghosts}
use Rattle.sqlite_value.specs.Order.{Row as Values}
use Rattle.sqlite_schema.specs.declared.command.Command.{Command}
use Rattle.sqlite_schema.specs.declared.command.Returning.{Returning}
use Rattle.sqlite_resolve.specs.declared.compiled.Compiled.{Compiled}
use Rattle.sqlite.specs.declared.error.Error.{Error}
use Rattle.sqlite.specs.Does.{Does}
use Rattle.sqlite.specs.Effect.{Database, IsDatabase, SparesFrozen}
use Rattle.sqlite.specs.Given.{HasBegun, IsPlain, IsRefused}
use Rattle.sqlite.specs.Held.{Held, state}
use Rattle.sqlite.specs.Listing.{understood, IsSourceOf, reads_listing}
use Rattle.sqlite.specs.State.{State as Sql, HasCleanDisk, IsUnchanged, Survives, Shown, ShowsRows, Writes, Begins, mode_of}
use Rattle.sqlite.specs.Stream.{returned}
use Rattle.sqlite.proofs.Callers.{unchanged_then, given_begin}
use Rattle.jac_value.specs.declared.value.Kind.{Kind}
use Rattle.jac_rows.specs.Tables.{rows_of}
use Rattle.jac_rows.specs.declared.row.Row.{Row}
use Rattle.jac_rows.specs.declared.state.State.{State}
use Rattle.jac_sql_spec.specs.Lasting.{ConnectionLasts, LeavesStoredTables}
use Rattle.jac_sql_spec.specs.Reading.{Each, AreShown, IsModelRow}
use Rattle.jac_sql_spec.specs.Statements.{SqlStatement, model_reading, all_reading}
use Rattle.jac_sql_spec.specs.Tables.{two_tables}
use Rattle.jac_sql_spec.proofs.Lasting.{lasts_of, lasts_then}
use Rattle.jac_sql_spec.specs.Telling.{IsAllCommitted, ReadsTold}
use Rattle.jac_sql_spec.specs.Told.{told}
use Rattle.jac_sql_spec.proofs.Exact.{model_exact}
use Rattle.jac_sql_spec.proofs.RawRows.{all_plain}
use Rattle.jac_sql_spec.proofs.Sound.{kept_if_sound}
use Rattle.jac_sql_spec.proofs.Stays.{Stays, clean_if_open, fails_stays, shown_open, shown_same, same_now, kept_by, left_by}
use Rattle.jac_sql_spec.proofs.Texts.{model_plain}
use Rattle.jac_sql_spec.specs.Streams.{MovesTo, IsStoppedAs, ReadsThrough, HasShown, Streams, AreNone}

-- ---- before and after

pub stays_then : (a b c : Sql) → IsUnchanged a b → Stays b c → Stays a c
stays_then a b c one (inl two) = inl (unchanged_then a b c one two)
stays_then a b c one (inr two) = inr (record {
  was_open = λ opened. one.0.was_open;
  undone = λ opened. ((two.undone opened).0 ∙ one.0.committed_is, (two.undone opened).1 ∙ one.0.committed_is);
  autocommit = two.autocommit;
  unmarked = two.unmarked;
  counts = record { changes = two.counts.changes ∙ one.1.changes; last_rowid = two.counts.last_rowid ∙ one.1.last_rowid };
})

stays_open : (a b : Sql) → Stays a b → IsTrue b.is_open → IsTrue a.is_open
stays_open a b (inl same) opened = same.0.was_open
stays_open a b (inr undone) opened = undone.was_open opened

-- A write that showed rows, with nothing done after it.
abbrev writes_on : (a b c : Sql) (returning : Option Returning) (command : Command) (text : List ℕ) (params : Values) (count : ℕ) → IsUnchanged b c → Writes a b returning command text params count
    → Writes a c returning command text params count
writes_on a b c returning command text params count same w =
    let now : c.now ≡ b.now = same.0.now_is in
    record {
      tally = w.tally;
      changed = subst (λ (d : Database). Does a.step_limit (mode_of a) params a.now text returning command (Ok (w.tally, d))) (sym now) w.changed;
      frozen = subst (SparesFrozen a.now) (sym now) w.frozen;
      sound = subst IsDatabase (sym now) w.sound;
      shown = record {
        was_open = w.shown.was_open;
        is_open = same.0.is_open;
        now_is = refl;
        committed_is = same.0.committed_is ∙ subst (λ (d : Database). b.committed ≡ cond a.in_transaction a.committed d) (sym now) w.shown.committed_is;
        mode = same.0.mode ∙ w.shown.mode;
      };
      marks = same.2 ∙ w.marks;
      counted = w.counted;
      changes = same.1.changes ∙ w.changes;
      last_rowid = same.1.last_rowid ∙ w.last_rowid;
    }

shows_on : (a b c : Sql) (sql : List ℕ) (it : Compiled) (params : Values) (rows : List Values) (what : Option Returning) → IsUnchanged b c → ShowsRows a b sql it params rows what → ShowsRows a c sql it params rows what
shows_on a b c sql it params rows None same h = (h.0, h.1, h.2, unchanged_then a b c h.3 same)
shows_on a b c sql it params rows (Some what) same h = (h.0, writes_on a b c (Some what) it.command _ params h.0 same h.1, h.2)

shown_on : (a b c : Sql) (sql : List ℕ) (params : Values) (rows : List Values) → IsUnchanged b c → Shown sql params a b rows → Shown sql params a c rows
unfolding Shown
shown_on a b c sql params rows same h = (h.0, h.1, shows_on a b c sql h.0 _ rows h.0.returning same h.2)

same_value : {B E : Type 0} {a b : B} → ◌≡◌ {A = Result B E} (Ok a) (Ok b) → a ≡ b
same_value e = cc

-- A query without RETURNING, with nothing done before it.
shown_before : (a b c : Sql) (sql : List ℕ) (params : Values) (rows : List Values) (it : Compiled) → IsUnchanged a b → understood b.now.schema sql ≡ Ok it → it.returning ≡ None → Shown sql params b c rows → Shown sql params a c rows
unfolding Shown
shown_before a b c sql params rows it same is none h =
    let own : h.0 ≡ it = same_value (sym h.1.is ∙ is) in
    let bare : h.0.returning ≡ None = ap (λ (k : Compiled). k.returning) own ∙ none in
    let now : b.now ≡ a.now = same.0.now_is in
    let read = subst (ShowsRows b c sql h.0 _ rows) bare h.2 in (
      h.0,
      record { is = subst (λ (d : Database). understood d.schema sql ≡ Ok h.0) now h.1.is; whole = h.1.whole; given = h.1.given; now = h.1.now },
      subst (ShowsRows a c sql h.0 _ rows) (sym bare)
          (read.0, subst (λ (d : Database). IsSourceOf (reads_listing d.schema sql) d read.0) now read.1, read.2, unchanged_then a b c same read.3),
    )

-- ---- a query under way

module _ {S : Type 0} (g : Ghosts S) (question : SqlStatement) where
  gives_on : (first old new : Held S) (given : List Values) (v : Values) → HasShown g question first old given → MovesTo g old new (Some v) → HasShown g question first new (given ++ v ∷ [])
  gives_on first old new given v (inl h) moves = inl (moves.advances question.text question.params given h.0, unchanged_then (state g first) (state g old) (state g new) h.1 moves.same)
  gives_on first old new given v (inr h) moves =
      let handed = moves.hands h.1 in
      let left : given ++ returned old.reading ≡ (given ++ v ∷ []) ++ returned new.reading = ap (λ l. given ++ l) handed.0 ∙ sym (append_assoc given (v ∷ []) (returned new.reading)) in
      inr (subst (Shown question.text question.params (state g first) (state g new)) left (shown_on (state g first) (state g old) (state g new) question.text question.params (given ++ returned old.reading) moves.same h.0), handed.1)

  gives_all : (first old new : Held S) (given : List Values) → HasShown g question first old given → MovesTo g old new None → Shown question.text question.params (state g first) (state g new) given
  unfolding Begins
  gives_all first old new given (inl h) moves =
      let begun = given_begin g question.text question.params old given h.0 in
      shown_before (state g first) (state g old) (state g new) question.text question.params given begun.0 h.1 begun.1.is begun.2 (moves.advances question.text question.params given h.0)
  gives_all first old new given (inr h) moves =
      let handed = moves.hands h.1 in
      let left : given ++ returned old.reading ≡ given = ap (λ l. given ++ l) handed.0.0 ∙ append-nil given in
      shown_on (state g first) (state g old) (state g new) question.text question.params given moves.same (subst (Shown question.text question.params (state g first) (state g old)) left h.0)

  stopped_by : (first old new : Held S) (given : List Values) → HasShown g question first old given → Stays (state g old) (state g new) → IsStoppedAs question.text (state g first) (state g new)
  stopped_by first old new given (inl h) stays = record {
    opens = λ opened. h.1.0.was_open;
    stays = λ has plain. stays_then (state g first) (state g old) (state g new) h.1 stays;
  }
  stopped_by first old new given (inr h) stays = record {
    opens = λ opened. shown_open (state g first) (state g old) question.text question.params (given ++ returned old.reading) h.0;
    stays = λ has plain. stays_then (state g first) (state g old) (state g new)
        (shown_same (state g first) (state g old) question.text question.params (given ++ returned old.reading) (two_tables 0 1 2) has plain h.0) stays;
  }

  abbrev Under : (List Values → Type 0) → Held S → Held S → Type 0
  Under = Streams g question

  abbrev Through : {T E : Type 0} → (List Values → T → Type 0) → Held S → Held S → Result T E → Type 0
  Through = ReadsThrough g question

  pub streams_start : {Q : Trees → Type 0} (old new : Held S) → Survives (state g old) (state g new) Q → (HasCleanDisk (state g new) → HasBegun g question.text question.params old new) → Under AreNone old new
  streams_start old new survives begun = record {
    lasts = lasts_of (state g old) (state g new) survives;
    shown = λ clean. record { given = []; shown = start (begun clean); made = refl };
  }
    where
      start : HasBegun g question.text question.params old new → HasShown g question old new []
      start (inl h) = inl h
      start (inr h) = inr (h.1, h.2)

  -- Something is made of the rows.
  pub streams_made : (R : List Values → Type 0) (first now : Held S) → R [] → Under AreNone first now → Under R first now
  streams_made R first now made so = record {
    lasts = so.lasts;
    shown = λ clean. let before = so.shown clean in record { given = before.given; shown = before.shown; made = subst R (sym before.made) made };
  }

  clean_before : (old new : Held S) → ConnectionLasts (state g old) (state g new) → HasCleanDisk (state g new) → HasCleanDisk (state g old)
  clean_before old new lasts clean = let low = lasts.clean in omega (arith, low, clean)

  pub streams_next : {T : Type 0} (Is : Values → T → Type 0) (P R : List Values → Type 0) (first old new : Held S) (t : T) → Under P first old → ConnectionLasts (state g old) (state g new)
      → (HasCleanDisk (state g new) → (v : Values) × MovesTo g old new (Some v) × Is v t) → ((given : List Values) (v : Values) → P given → Is v t → R (given ++ v ∷ [])) → Under R first new
  streams_next Is P R first old new t so lasts steps more = record {
    lasts = lasts_then (state g first) (state g old) (state g new) so.lasts lasts;
    shown = λ clean.
        let before = so.shown (clean_before old new lasts clean) in
        let step = steps clean in
        record { given = before.given ++ step.0 ∷ []; shown = gives_on first old new before.given step.0 before.shown step.1; made = more before.given step.0 before.made step.2 };
  }

  -- The query is at its end.
  pub streams_end : {U F : Type 0} (P : List Values → Type 0) (R : List Values → U → Type 0) (first old new : Held S) (u : U) → Under P first old → ConnectionLasts (state g old) (state g new)
      → (HasCleanDisk (state g new) → MovesTo g old new None) → ((given : List Values) → P given → R given u) → Through {E = F} R first new (Ok u)
  streams_end P R first old new u so lasts steps whole = record {
    lasts = lasts_then (state g first) (state g old) (state g new) so.lasts lasts;
    left = λ clean. let before = so.shown (clean_before old new lasts clean) in stopped_by first old new before.given before.shown (inl (steps clean).same);
    shown = λ clean.
        let before = so.shown (clean_before old new lasts clean) in
        (before.given, gives_all first old new before.given before.shown (steps clean), whole before.given before.made);
  }

  -- A step failed.
  pub streams_failed : {U F : Type 0} (P : List Values → Type 0) (R : List Values → U → Type 0) (first old new : Held S) (r : Result U F) → IsErr r → Under P first old → ConnectionLasts (state g old) (state g new)
      → (HasCleanDisk (state g new) → Stays (state g old) (state g new)) → Through R first new r
  streams_failed P R first old new (Ok u) failed so lasts stays = absurd (let f : false ≡ true = failed in cc)
  streams_failed P R first old new (Err f) failed so lasts stays = record {
    lasts = lasts_then (state g first) (state g old) (state g new) so.lasts lasts;
    left = λ clean. let before = so.shown (clean_before old new lasts clean) in stopped_by first old new before.given before.shown (stays clean);
    shown = λ clean. tt;
  }

  -- What a step gave couldn't be kept.
  pub streams_full : {T U F : Type 0} (Is : Values → T → Type 0) (P : List Values → Type 0) (R : List Values → U → Type 0) (first old new : Held S) (t : T) (r : Result U F) → IsErr r → Under P first old
      → ConnectionLasts (state g old) (state g new) → (HasCleanDisk (state g new) → (v : Values) × MovesTo g old new (Some v) × Is v t) → Through R first new r
  streams_full Is P R first old new t r failed so lasts steps = streams_failed P R first old new r failed so lasts (λ clean. inl (steps clean).1.same)

  -- The query is stopped.
  pub streams_cut : {U F : Type 0} (P : List Values → Type 0) (R : List Values → U → Type 0) (first now : Held S) (f : F) → Under P first now → Through R first now (Err f)
  streams_cut P R first now f so = record {
    lasts = so.lasts;
    left = λ clean. let before = so.shown clean in left_by before.given before.shown;
    shown = λ clean. tt;
  }
    where
      left_by : (given : List Values) → HasShown g question first now given → IsStoppedAs question.text (state g first) (state g now)
      left_by given (inl h) = record { opens = λ opened. h.1.0.was_open; stays = λ has plain. inl h.1 }
      left_by given (inr h) = record {
        opens = λ opened. shown_open (state g first) (state g now) question.text question.params (given ++ returned now.reading) h.0;
        stays = λ has plain. inl (shown_same (state g first) (state g now) question.text question.params (given ++ returned now.reading) (two_tables 0 1 2) has plain h.0);
      }

  -- The query doesn't begin.
  pub streams_refused : {X U F : Type 0} (R : List Values → U → Type 0) (old new : Held S) (e : Error) (f : F) → IsRefused g {X = X} question.text question.params old (Err e) new → Through R old new (Err f)
  streams_refused R old new e f refused = record {
    lasts = lasts_of (state g old) (state g new) refused.survives;
    left = λ clean.
        let stays = fails_stays (state g old) (state g new) question.text question.params e (refused.err clean) in
        record { opens = stays_open (state g old) (state g new) stays; stays = λ has plain. stays };
    shown = λ clean. tt;
  }

  -- ---- what was read through

  module _ {U F : Type 0} (R : List Values → U → Type 0) (old new : Held S) (r : Result U F) (law : (state g new).is_clean ≡ false → (state g new).is_open ≡ false) (it : Through R old new r) where
    pub through_opens : IsTrue (state g new).is_open → IsTrue (state g old).is_open
    through_opens opened = (it.left (clean_if_open (state g new) law opened)).opens opened

    through_stays : IsPlain (understood (two_tables 0 1 2) question.text) → (state g old).now.schema ≡ two_tables 0 1 2 → IsTrue (state g new).is_open → Stays (state g old) (state g new)
    through_stays plain has opened = (it.left (clean_if_open (state g new) law opened)).stays has plain

    pub through_leaves : IsPlain (understood (two_tables 0 1 2) question.text) → LeavesStoredTables (state g old) (state g new)
    through_leaves plain has settled =
        let both = λ (opened : IsTrue (state g new).is_open).
        let was = through_opens opened in
        same_now (state g old) (state g new) was (settled was) opened (through_stays plain (has was) opened) in
        record { was_open = through_opens; same = λ opened. (both opened).0; settled = λ opened. (both opened).1 }

  -- The rows of a told state.
  module _ (Is : Values → Row → Type 0) (old new : Held S) where
    pub through_shown : {F : Type 0} (r : Result (List Row) F) → IfOk r (λ rows. (found : List Values) × Shown question.text question.params (state g old) (state g new) found × Each Is found rows) → IfOk r (AreShown g question Is old new)
    through_shown (Ok rows) it = record { found = it.0; shown = it.1; each = it.2 }
    through_shown (Err f) it = tt

    told_by : (P : List Row → Type 0) (r : Result (List Row) Error) → IfOk r (AreShown g question Is old new) → ((rows : List Row) → AreShown g question Is old new rows → P rows) → IfOk r P
    told_by P (Ok rows) are is = is rows are
    told_by P (Err e) are is = tt

    pub through_told : (models : ℕ) (Exact : State → List Row → Type 0) (r : Result (List Row) Error) → ((state g new).is_clean ≡ false → (state g new).is_open ≡ false) → Through (Each Is) old new r
        → IsPlain (understood (two_tables 0 1 2) question.text) → IsAllCommitted models (state g old)
        → (IsTrue (state g old).is_open → (rows : List Row) → AreShown g question Is old new rows → Exact (told models (state g old).now) rows) → ReadsTold g Exact models old new r
    through_told models Exact r law it plain was is =
        let opens = through_opens (Each Is) old new r law it in
        let stays = λ (opened : IsTrue (state g new).is_open) (before : IsTrue (state g old).is_open). through_stays (Each Is) old new r law it plain (was.told_by before).stands.schema_is opened in
        record {
          kept = kept_by (state g old) (state g new) models was opens stays;
          left = left_by (state g old) (state g new) models was opens stays;
          exact = λ opened. told_by (Exact (told models (state g old).now)) r (through_shown r (it.shown (clean_if_open (state g new) law opened))) (is (opens opened));
        }

-- The rows of a model.
pub model_through : {S : Type 0} (g : Ghosts S) (models model : ℕ) (kinds : List Kind) (old new : Held S) (r : Result (List Row) Error) → ((state g new).is_clean ≡ false → (state g new).is_open ≡ false)
    → ReadsThrough g (model_reading model) (Each (IsModelRow model kinds)) old new r → IsAllCommitted models (state g old) → ReadsTold g (λ s rows. rows ≡ rows_of s.tables model) models old new r
unfolding model_reading
model_through g models model kinds old new r law it was =
    through_told g (model_reading model) (IsModelRow model kinds) old new models (λ s rows. rows ≡ rows_of s.tables model) r law it model_plain.0 was
    (λ before rows are. let held = was.told_by before in model_exact g held.schema old new (told models (state g old).now) held.stands (kept_if_sound _ held.sound) held.spelled model kinds rows are)

-- All rows.
pub all_through_leaves : {S U F : Type 0} (g : Ghosts S) (R : List Values → U → Type 0) (old new : Held S) (r : Result U F) → ((state g new).is_clean ≡ false → (state g new).is_open ≡ false)
    → ReadsThrough g (record { text = all_reading; params = [] }) R old new r → LeavesStoredTables (state g old) (state g new)
unfolding all_reading
all_through_leaves g R old new r law it = through_leaves g (record { text = all_reading; params = [] }) R old new r law it all_plain.0

-- One row more, made of one value more.
pub each_on : (Is : Values → Row → Type 0) (given : List Values) (made : List Row) (v : Values) (row : Row) → Each Is given made → Is v row → Each Is (given ++ v ∷ []) (made ++ row ∷ [])
each_on Is [] [] v row each is = (is, tt)
each_on Is (x ∷ xs) (r ∷ rs) v row each is = (each.0, each_on Is xs rs v row each.1 is)
each_on Is [] (r ∷ rs) v row each is = absurd each
each_on Is (x ∷ xs) [] v row each is = absurd each
