-- Rows that an earlier run stored, one after another.
use Rattle.std.proofs.Common.{◌≡◌, refl, sym, ap, subst, ◌∙◌, ℕ, zero, suc, ◌+◌, ◌<◌, ◌≤◌, Bool, true, false, not, ◌&&◌, ◌||◌, ◌==◌, ℤ, List, [], ◌∷◌, ◌++◌, map, length, drop, get_or, append-nil, length-append, Option, Some, None, IsSomeAnd, slice_get, unwrap_or, Result, Ok, Err, IfOk, OnOk, OnErr, IsErr, pos, arith}
use Rattle.std.specs.List.{AllByRecursion}
use Rattle.std.specs.Bool.{beq}
use Rattle.std.specs.Prelude.{nat_lt, nat_le, ◌/◌, ◌%◌, ◌^◌}
use Rattle.std.proofs.lemmas.Bool.Decides.{nat_tests}
use Rattle.std.proofs.lemmas.Bool.{and_parts}
use Rattle.std.proofs.lemmas.List.{map-append, drop_all}
use Rattle.std.proofs.Math.Seq.{drop-append_seam, get_or-append_seam}
use Rattle.sqlite_value.specs.Order.{Row as Values, column}
use Rattle.sqlite_value.specs.declared.value.Value.TheVariants.{Int, Blob}
use Rattle.sqlite_trees.specs.declared.store.Store.{Ghosts}
use Rattle.sqlite.specs.Held.{Held, state}
use Rattle.sqlite.specs.State.{State as Sql, Shown, HasCleanDisk}
use Rattle.sqlite.specs.declared.error.Error.{Error}
use Rattle.jac_value.specs.Ids.{is_id_of, is_narrow, is_wide, number_of_id, model_of_id}
use Rattle.jac_value.specs.declared.value.Kind.{Kind}
use Rattle.jac_world.specs.World.{IsApart}
use Rattle.jac_rows.specs.Good.{ModelShape, IsNext, IsRecord, IsShaped}
use Rattle.jac_rows.specs.declared.row.Row.{Row}
use Rattle.jac_row_codec.specs.Faults.{IsIdOf}
use Rattle.jac_row_codec.specs.Spelling.{guard_bytes}
use Rattle.jac_keep.specs.Schema.{shapes_by}
use Rattle.jac_sqlkeep.specs.Alternatives.{AreTaken, ReadsOnWith}
use Rattle.jac_sqlkeep.specs.Lines.{NoneComesTwice, AreLinesRead}
use Rattle.jac_sql_spec.specs.Facts.{facts}
use Rattle.jac_sql_spec.specs.Statements.{all_reading}
use Rattle.jac_sql_spec.specs.Reading.{IsRowIn}
use Rattle.jac_sql_spec.specs.Founding.{IsNumberAsked}
use Rattle.jac_sql_spec.specs.Testing.{fact_shown, IsLineShown, MovesOn, ReadsOn, IsStoredRow, AreLinesOf, ShowsLines, ShowsStored}
use Rattle.jac_sql_spec.proofs.Gathered.{Gathered, gathered_start, gathered_next, gathered_end}
use Rattle.jac_sql_spec.proofs.Reopened.{stored_shown}
use Rattle.jac_sql_spec.proofs.Sound.{narrow_cells, id_room}

pub ok_then : {T E : Type 0} (P Q : T → Type 0) (r : Result T E) → IfOk r P → ((t : T) → P t → Q t) → IfOk r Q
ok_then P Q (Ok t) p then = then t p
ok_then P Q (Err e) p then = tt

-- ---- the shape of a model

shape_at : (kinds : List (List Kind)) (nested : List Bool) (model : ℕ) (ks : List Kind) → slice_get kinds model ≡ Some ks
    → slice_get (shapes_by kinds nested) model ≡ Some (record { kinds = ks; nested = unwrap_or (slice_get nested model) false })
shape_at [] nested model ks known = absurd (let e : None ≡ Some ks = known in cc)
shape_at (x ∷ kinds) [] zero ks known = let same : x ≡ ks = cc in ap (λ (k : List Kind). Some (record { kinds = k; nested = false })) same
shape_at (x ∷ kinds) (n ∷ nested) zero ks known = let same : x ≡ ks = cc in ap (λ (k : List Kind). Some (record { kinds = k; nested = n })) same
shape_at (x ∷ kinds) [] (suc model) ks known = shape_at kinds [] model ks known
shape_at (x ∷ kinds) (n ∷ nested) (suc model) ks known = shape_at kinds nested model ks known

-- A narrow id isn't wide.
narrow_alone : (id : ℕ) → is_narrow id ≡ true → is_wide id ≡ false
narrow_alone id narrow =
    let low : id / 2 ^ 52 ≡ 0 = grind (arith, nat_tests, narrow) in
    ap (λ n. is_narrow n && is_narrow (id % 2 ^ 52)) low

wide_if : (id model : ℕ) (b : Bool) → is_id_of id model ≡ true → is_narrow id ≡ b → is_wide id ≡ not b
wide_if id model true is narrow = narrow_alone id narrow
wide_if id model false is narrow = sym (ap (λ b. b || is_wide id) narrow) ∙ (and_parts (is_narrow id || is_wide id) (model_of_id id == model) is).0

unlike : (a b : Bool) → beq a b ≡ false → not a ≡ b
unlike true true other = absurd (let f : true ≡ false = other in cc)
unlike true false other = refl
unlike false true other = refl
unlike false false other = absurd (let f : true ≡ false = other in cc)

pub stored_row_is : (kinds : List (List Kind)) (nested : List Bool) (number model : ℕ) (v : Values) (id : ℕ) (jid : List ℕ) (ks : List Kind) → column v 1 ≡ Blob jid → IsIdOf jid model id → slice_get kinds model ≡ Some ks
    → (0 < number_of_id id) × (number_of_id id < number) → beq (is_narrow id) (unwrap_or (slice_get nested model) false) ≡ false → (r : Result Row Error) → IfOk r (IsRowIn 3 4 ks v id) → IfOk r (IsStoredRow (shapes_by kinds nested) number model v)
stored_row_is kinds nested number model v id jid ks stored is known numbered width (Err e) row = tt
stored_row_is kinds nested number model v id jid ks stored is known numbered width (Ok row) in_row =
    let same : id ≡ row.id = sym in_row.spelled.same_id in
    let wide : is_wide id ≡ unwrap_or (slice_get nested model) false = wide_if id model (is_narrow id) is.of_model refl ∙ unlike (is_narrow id) (unwrap_or (slice_get nested model) false) width in
    let fit : have_kinds_of ks row ≡ true = in_row.spelled.cells.fit in
    let one : IsRecord (shapes_by kinds nested) model number id row.cells = record {
      made = record {
        of_model = grind (arith, nat_tests, (and_parts (is_narrow id || is_wide id) (model_of_id id == model) is.of_model).1);
        is_one = is.of_model;
        numbered = numbered.0;
        made = numbered.1;
      };
      fit = subst (λ (o : Option ModelShape). IsSomeAnd o (λ s. IsShaped s id row.cells)) (sym (shape_at kinds nested model ks known)) (record { fit = fit; wide = wide });
    } in
    record {
      jid = subst (λ n. column v 1 ≡ Blob (Rattle.std.specs.Int.to_be_bytes Rattle.std.specs.Int.w128 n)) same (stored ∙ ap Blob is.spelled);
      jvars = in_row.guard_stored ∙ ap Blob in_row.spelled.jvars_spelled;
      body = in_row.cells_stored ∙ ap Blob in_row.spelled.body_spelled;
      is_record = subst (λ n. IsRecord (shapes_by kinds nested) model number n row.cells) same one;
      spelled = record {
        room = subst (λ n. n < 2 ^ 128) same (id_room id model is.of_model);
        guard = in_row.spelled.guard;
        cells = in_row.spelled.cells.each;
        narrow = narrow_cells ks row.cells fit;
      };
    }
  where
    have_kinds_of : List Kind → Row → Bool
    have_kinds_of ks r = Rattle.jac_rows.specs.Good.have_kinds ks r.cells

-- ---- a row after the others

pub reads_on_is : (shapes : List ModelShape) (number model id : ℕ) (guards : List (List (ℕ × Bool))) (v : Values) (next_model : ℕ) (row : Row) (before : List (List (ℕ × Bool))) (end_model end_id : ℕ) (end_guards : List (List (ℕ × Bool)))
    → column v 0 ≡ Int (pos next_model) → IsStoredRow shapes number next_model v row → MovesOn model id guards next_model row.id before → end_model ≡ next_model → end_id ≡ row.id → column v 2 ≡ Int (pos (length before))
    → AllByRecursion (λ g. IsApart g row.guard) before → end_guards ≡ before ++ row.guard ∷ [] → ReadsOn shapes number model id guards v end_model end_id end_guards
reads_on_is shapes number model id guards v next_model row before end_model end_id end_guards of_model stored moved same_model same_id alt apart pushed =
    subst (λ m. ReadsOn shapes number model id guards v m end_id end_guards) (sym same_model)
    (subst (λ i. ReadsOn shapes number model id guards v next_model i end_guards) (sym same_id) (record {
      before = before;
      moved = moved;
      line = record {
        row = row;
        same_id = refl;
        shown = record { model = of_model; jid = stored.jid; alt = alt; jvars = stored.jvars; body = stored.body };
        is_record = stored.is_record;
        spelled = stored.spelled;
        apart = apart;
        guards_are = pushed;
      };
    }))

-- ---- the loop

module _ (shapes : List ModelShape) (number : ℕ) (found : List Values) where
  -- The rows before a place, with what is kept of the alternatives of their last record.
  pub record GatheredWith (at model id : ℕ) (guards : List (List (ℕ × Bool))) (in_order : Bool) : Type 0 where
    pub all : List (List (ℕ × Bool))
    pub gathered : Gathered shapes number found at model id all
    pub kept : AreTaken all guards in_order

  pub read_start : (guards : List (List (ℕ × Bool))) (in_order : Bool) → IsNext number → AreTaken [] guards in_order → GatheredWith 0 0 0 guards in_order
  read_start guards in_order next kept = record { all = []; gathered = gathered_start shapes number found next; kept = kept }

  pub read_next : (at model id : ℕ) (guards : List (List (ℕ × Bool))) (in_order : Bool) (v : Values) (next_model next_id : ℕ) (next_guards : List (List (ℕ × Bool))) (also : Bool) → at < length found → v ≡ get_or found at v
      → ((all : List (List (ℕ × Bool))) → AreTaken all guards in_order → ReadsOnWith shapes number model id all v next_model next_id next_guards also)
      → GatheredWith at model id guards in_order → GatheredWith (at + 1) next_model next_id next_guards also
  read_next at model id guards in_order v next_model next_id next_guards also within item on so =
      let more = on so.all so.kept in
      record {
        all = more.next;
        gathered = gathered_next shapes number found at model id so.all v next_model next_id more.next within item more.read so.gathered;
        kept = more.kept;
      }

  pub read_end : (at model id : ℕ) (guards : List (List (ℕ × Bool))) (in_order : Bool) → length found ≤ at → GatheredWith at model id guards in_order → AreLinesOf shapes number found
  read_end at model id guards in_order behind so = gathered_end shapes number found at model id so.all behind so.gathered

-- ---- one row after another, as they are shown

all_ends : {X : Type 0} (P : X → Type 0) (xs : List X) (x : X) → AllByRecursion P xs → P x → AllByRecursion P (xs ++ x ∷ [])
all_ends P [] x all is = (is, tt)
all_ends P (y ∷ ys) x all is = (all.0, all_ends P ys x all.1 is)

-- One more row is shown, and it isn't read yet.
longer : (shapes : List ModelShape) (number : ℕ) (found : List Values) (v : Values) (model id : ℕ) (guards : List (List (ℕ × Bool))) → Gathered shapes number found (length found) model id guards
    → Gathered shapes number (found ++ v ∷ []) (length found) model id guards
longer shapes number found v model id guards so =
    let behind : drop (length found) (found ++ v ∷ []) ≡ v ∷ [] = drop-append_seam found (v ∷ []) in
    let none : drop (length found) found ≡ [] = drop_all (length found) found (omega arith) in
    let before : facts so.tables ≡ map fact_shown found = sym (append-nil (facts so.tables)) ∙ ap (λ vs. facts so.tables ++ map fact_shown vs) (sym none) ∙ so.read in
    record {
      tables = so.tables;
      long = so.long;
      good = so.good;
      spelled = so.spelled;
      read = ap (λ vs. facts so.tables ++ map fact_shown vs) behind ∙ ap (λ fs. fs ++ map fact_shown (v ∷ [])) before ∙ sym (map-append fact_shown found (v ∷ []));
      lines = λ all.
          let own = subst (AllByRecursion (λ x. IsLineShown x (fact_shown x))) behind all in
          all_ends (λ x. IsLineShown x (fact_shown x)) found v (so.lines (subst (AllByRecursion (λ x. IsLineShown x (fact_shown x))) (sym none) tt)) own.0;
      behind = so.behind;
      below = so.below;
      last = so.last;
    }

module _ (shapes : List ModelShape) (number : ℕ) where
  -- The rows that were shown, with what is kept of the alternatives of the last record, and their
  -- rowids.
  pub record LinesTo (found : List Values) (model id : ℕ) (guards : List (List (ℕ × Bool))) (in_order : Bool) (rowids : List ℤ) : Type 0 where
    pub gathered : GatheredWith shapes number found (length found) model id guards in_order
    pub shown : map (λ v. column v 5) found ≡ map Int rowids

  pub lines_start : (guards : List (List (ℕ × Bool))) (in_order : Bool) → IsNext number → AreTaken [] guards in_order → LinesTo [] 0 0 guards in_order []
  lines_start guards in_order next kept = record { gathered = read_start shapes number [] guards in_order next kept; shown = refl }

  pub lines_next : (found : List Values) (model id : ℕ) (guards : List (List (ℕ × Bool))) (in_order : Bool) (rowids : List ℤ) (v : Values) (at : ℤ) (next_model next_id : ℕ) (next_guards : List (List (ℕ × Bool))) (also : Bool)
      → column v 5 ≡ Int at → ((all : List (List (ℕ × Bool))) → AreTaken all guards in_order → ReadsOnWith shapes number model id all v next_model next_id next_guards also)
      → LinesTo found model id guards in_order rowids → LinesTo (found ++ v ∷ []) next_model next_id next_guards also (rowids ++ at ∷ [])
  lines_next found model id guards in_order rowids v at next_model next_id next_guards also shown on so =
      let whole = found ++ v ∷ [] in
      let long : length whole ≡ length found + 1 = length-append found (v ∷ []) in
      let on_hand : GatheredWith shapes number whole (length found) model id guards in_order = record {
        all = so.gathered.all;
        gathered = longer shapes number found v model id so.gathered.all so.gathered.gathered;
        kept = so.gathered.kept;
      } in
      record {
        gathered = subst (λ n. GatheredWith shapes number whole n next_model next_id next_guards also) (sym long)
            (read_next shapes number whole (length found) model id guards in_order v next_model next_id next_guards also (omega (arith, long)) (sym (get_or-append_seam found v [] v)) on on_hand);
        shown = map-append (λ v. column v 5) found (v ∷ []) ∙ ap (λ l. l ++ column v 5 ∷ []) so.shown ∙ ap (λ x. map Int rowids ++ x ∷ []) shown ∙ sym (map-append Int rowids (at ∷ []));
      }

  pub lines_end : (found : List Values) (model id : ℕ) (guards : List (List (ℕ × Bool))) (in_order : Bool) (rowids : List ℤ) → LinesTo found model id guards in_order rowids → AreLinesRead shapes number found rowids
  lines_end found model id guards in_order rowids so = record { shown = so.shown; are = read_end shapes number found (length found) model id guards in_order (omega arith) so.gathered }

-- All rows, if no rowid occurs twice.
pub lines_apart : {S V E : Type 0} (items : V → List ℤ) (g : Ghosts S) (shapes : List ModelShape) (number : ℕ) (old new : Held S) (read : Result V E) (r : Result (Unit {0}) E)
    → IfOk read (λ v. (found : List Values) × Shown all_reading [] (state g old) (state g new) found × AreLinesRead shapes number found (items v)) → OnOk r (IfOk read (λ v. NoneComesTwice (items v))) → OnErr read (IsErr r) → OnOk r (ShowsLines g shapes number old new)
lines_apart items g shapes number old new (Ok v) (Ok done) it apart failed = record {
  found = it.0;
  shown = it.1;
  rowids = record { rowids = items v; shown = it.2.shown; rising = apart.rising; moved = apart.moved; are = apart.are };
  are = it.2.are;
}
lines_apart items g shapes number old new (Err e) (Ok done) it apart failed = absurd (let f : false ≡ true = failed in cc)
lines_apart items g shapes number old new read (Err e) it apart failed = tt

-- ---- the whole store

pub stored_on_ok : {S E : Type 0} (g : Ghosts S) (shapes : List ModelShape) (number : ℕ) (old first new : Held S) → ((state g first).is_clean ≡ false → (state g first).is_open ≡ false)
    → (HasCleanDisk (state g first) → IsNumberAsked g old first number)
    → (r : Result (Unit {0}) E) → (HasCleanDisk (state g new) → OnOk r (ShowsLines g shapes number first new)) → HasCleanDisk (state g new) → OnOk r (ShowsStored g shapes old new)
stored_on_ok g shapes number old first new shuts_first asked (Ok done) lines clean = stored_shown g shapes number old first new shuts_first asked lines clean
stored_on_ok g shapes number old first new shuts_first asked (Err e) lines clean = tt
