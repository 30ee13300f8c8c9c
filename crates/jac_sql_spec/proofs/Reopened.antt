-- A store that an earlier run made tells its state after all of it was tested.
use Rattle.std.proofs.Common.{◌≡◌, refl, sym, ap, subst, ◌∙◌, inl, inr, ℕ, pos, Bool, true, false, List, [], ◌∷◌, map, length, Some, None, Option, Ok, Err, IsTrue}
use Rattle.std.specs.List.Sorted.{IsPermutation}
use Rattle.std.specs.Prelude.{slice_index_or}
use Rattle.sqlite_trees.specs.declared.store.Store.{Ghosts}
use Rattle.sqlite_schema.specs.declared.schema.Schema.{Schema}
use Rattle.sqlite_schema.specs.Rules.{Keeps}
use Rattle.sqlite_schema.specs.declared.schema.Constraint.{Constraint}
use Rattle.sqlite_schema.specs.declared.schema.Constraint.TheVariants.{Datatype, NotNull}
use Rattle.sqlite_value.specs.declared.value.Value.{Value}
use Rattle.sqlite_value.specs.declared.value.Value.TheVariants.{Null, Int, Text}
use Rattle.sqlite_value.specs.Order.{Row as Values, column}
use Rattle.sqlite.specs.declared.error.Error.{Error}
use Rattle.sqlite.specs.Effect.{Database, IsDatabase}
use Rattle.sqlite.specs.State.{State as Sql, HasCleanDisk, IsLive, Shown, QueriesRow}
use Rattle.sqlite.specs.Held.{Held, state}
use Rattle.sqlite.specs.Listing.{understood}
use Rattle.sqlite.proofs.Callers.{IsPlain}
use Rattle.jac_rows.specs.Good.{ModelShape, IsNext}
use Rattle.jac_rows.specs.declared.state.State.{State}
use Rattle.jac_keep.specs.Schema.{IsFit}
use Rattle.jac_keep.proofs.SoundLaws.{sound_if_good}
use Rattle.jac_sql_spec.specs.Facts.{Fact, facts}
use Rattle.jac_sql_spec.specs.Founding.{HasNumber, IsNumberAsked, Tells, Finds}
use Rattle.jac_sql_spec.specs.Stands.{Stands, Holds}
use Rattle.jac_sql_spec.specs.Statements.{reading, key_reading, all_reading}
use Rattle.jac_sql_spec.specs.Tables.{two_tables, meta_row}
use Rattle.jac_sql_spec.specs.Telling.{IsDatabaseTold, IsAllCommitted}
use Rattle.jac_sql_spec.specs.Testing.{fact_shown, AreLinesOf, ShowsKey, ShowsLines, ShowsStored}
use Rattle.jac_sql_spec.specs.Told.{chars_in, told, schema_in}
use Rattle.jac_sql_spec.proofs.Asked.{asks_of}
use Rattle.jac_sql_spec.proofs.Kept.{told_if_stands}
use Rattle.jac_sql_spec.proofs.RawRows.{key_text, key_plain, all_plain, first_shown, whole_shown, keys_shown, all_shown, IsMetaRow, raw_one, whole_holds}
use Rattle.jac_sql_spec.proofs.Stays.{clean_if_open, shown_open, shown_same, row_open, row_stays, same_now}
use Rattle.jac_sql_spec.proofs.Texts.{number_text, all_text, number_plain}

-- If the disk isn't clean, the connection is shut.
abbrev Shuts : Sql → Type 0
Shuts s = s.is_clean ≡ false → s.is_open ≡ false

-- The connection was open, the database is the same, and all of it is committed.
pub record IsSame (old new : Sql) : Type 0 where
  pub was_open : IsTrue old.is_open
  pub now_is : new.now ≡ old.now
  pub settled : new.now ≡ new.committed

module _ (old new : Sql) (settled : IsTrue old.is_open → old.now ≡ old.committed) (has : old.now.schema ≡ two_tables 0 1 2) (opened : IsTrue new.is_open) where
  same_by_rows : (sql : List ℕ) (found : List Values) → IsPlain (understood (two_tables 0 1 2) sql) → Shown sql [] old new found → IsSame old new
  same_by_rows sql found plain shown =
      let was = shown_open old new sql [] found shown in
      let same = same_now old new was (settled was) opened (inl (shown_same old new sql [] found (two_tables 0 1 2) has plain shown)) in
      record { was_open = was; now_is = same.0; settled = same.1 }

  same_by_row : (row : Values) → QueriesRow number_text [] old new (Ok row) → IsSame old new
  same_by_row row asked =
      let was = row_open old new number_text [] (Ok row) asked opened in
      let same = same_now old new was (settled was) opened (row_stays old new number_text [] (two_tables 0 1 2) has number_plain (Ok row) asked) in
      record { was_open = was; now_is = same.0; settled = same.1 }

still : (old new : Sql) (schema : Schema) → IsSame old new → old.now.schema ≡ schema → new.now.schema ≡ schema
still old new schema same has = ap (λ (d : Database). d.schema) same.now_is ∙ has

pub_next : (s : Sql) → s.now ≡ s.committed → IsTrue s.is_open → s.now ≡ s.committed
pub_next s settled opened = settled

-- One call reads the number and then the rows.
pub stored_shown : {S : Type 0} (g : Ghosts S) (shapes : List ModelShape) (number : ℕ) (old first new : Held S) → Shuts (state g first) → (HasCleanDisk (state g first) → IsNumberAsked g old first number)
    → (HasCleanDisk (state g new) → ShowsLines g shapes number first new) → HasCleanDisk (state g new) → ShowsStored g shapes old new
stored_shown g shapes number old first new shuts_first asked lines clean =
    let shown = lines clean in
    let open_first = shown_open (state g first) (state g new) all_reading [] shown.found shown.shown in
    record { number = number; first = first; asked = asked (clean_if_open (state g first) shuts_first open_first); lines = shown }

-- ---- over the database as it was found

module _ (db : Database) (live : IsDatabase db) (has : db.schema ≡ two_tables 0 1 2) where
  rule : (r : Constraint) → Keeps r (two_tables 0 1 2) db.trees
  rule r = subst (λ (s : Schema). Keeps r s db.trees) has (live.obeys.rules r)

  one_meta : (found : List Values) (only : Values) → IsPermutation (map first_shown (db.trees 0)) found → found ≡ only ∷ [] → column only 0 ≡ Int (pos 0)
      → (r : Values) × (db.trees 0 ≡ r ∷ []) × IsMetaRow r
  one_meta found only moved one key = raw_one db.trees found only (rule Datatype) (rule NotNull) moved one key

  fit_stands : (shapes : List ModelShape) (schema : List ℕ) (number : ℕ) (found : List Values) → db.trees 0 ≡ meta_row number schema ∷ [] → IsNext number → (lines : AreLinesOf shapes number found) → Holds (db.trees 1) (map fact_shown found)
      → IsDatabaseTold (length shapes) db × IsFit shapes (told (length shapes) db)
  fit_stands shapes schema number found meta next lines holds =
      let s : State = record { tables = lines.tables; number = number } in
      let st : Stands schema db s = record { schema_is = has; meta = meta; rec = subst (Holds (db.trees 1)) (sym lines.read) holds } in
      let pair = told_if_stands (length shapes) schema db s lines.long st (sound_if_good shapes s (next, lines.good)) lines.spelled in
      (pair.1, subst (IsFit shapes) (sym pair.0) (record { good = (next, lines.good); tables = lines.long }))

-- ---- from connection to connection

two_values : (a b c d : Value) → a ∷ b ∷ [] ≡ c ∷ d ∷ [] → (a ≡ c) × (b ≡ d)
two_values a b c d e = (ap (λ (v : Values). column v 0) e, ap (λ (v : Values). column v 1) e)

module _ {S : Type 0} (g : Ghosts S) (shapes : List ModelShape) (schema : List ℕ) (start keyed named : Held S) (shuts_keyed : Shuts (state g keyed)) (shuts_named : Shuts (state g named))
    (settled : IsTrue (state g start).is_open → (state g start).now ≡ (state g start).committed) (live : IsLive (state g start)) (has : (state g start).now.schema ≡ two_tables 0 1 2)
    (key : HasCleanDisk (state g keyed) → ShowsKey g start keyed) where
  -- The row of `meta`, as it was found.
  record IsHead (found : Option (List ℕ)) : Type 0 where
    pub opened_keyed : IsTrue (state g keyed).is_open
    pub opened_start : IsTrue (state g start).is_open
    pub keyed_is : (state g keyed).now ≡ (state g start).now
    pub named_is : (state g named).now ≡ (state g start).now
    pub settled_named : (state g named).now ≡ (state g named).committed
    pub number : Value
    pub text : Value
    pub meta : (state g start).now.trees 0 ≡ (Int (pos 0) ∷ Null ∷ number ∷ text ∷ []) ∷ []
    pub tells : (row : Values) × (row ≡ number ∷ text ∷ []) × Tells schema row (Ok found)

  head : (found : Option (List ℕ)) → (HasCleanDisk (state g named) → Finds g schema keyed named (Ok found)) → IsTrue (state g named).is_open → IsHead found
  unfolding key_reading reading
  head found finds opened =
      let f = finds (clean_if_open (state g named) shuts_named opened) in
      let open_keyed = row_open (state g keyed) (state g named) number_text [] (Ok f.row) f.asked opened in
      let k = key (clean_if_open (state g keyed) shuts_keyed open_keyed) in
      let same = same_by_rows (state g start) (state g keyed) settled has open_keyed key_text k.found key_plain.0 k.shown in
      let has_keyed = still (state g start) (state g keyed) (two_tables 0 1 2) same has in
      let also = same_by_row (state g keyed) (state g named) (pub_next (state g keyed) same.settled) has_keyed opened f.row f.asked in
      let db = (state g start).now in
      let one = one_meta db (live same.was_open).0 has k.found k.is.only (keys_shown (state g start) (state g keyed) k.found has k.shown) k.is.one k.is.key in
      let at_start : db.trees 0 ≡ (Int (pos 0) ∷ Null ∷ one.2.number ∷ one.2.schema ∷ []) ∷ [] = one.1 ∙ ap (λ (r : Values). r ∷ []) one.2.is in
      let at_keyed : (state g keyed).now.trees 0 ≡ (Int (pos 0) ∷ Null ∷ one.2.number ∷ one.2.schema ∷ []) ∷ [] = ap (λ (d : Database). d.trees 0) same.now_is ∙ at_start in
      record {
        opened_keyed = open_keyed;
        opened_start = same.was_open;
        keyed_is = same.now_is;
        named_is = also.now_is ∙ same.now_is;
        settled_named = also.settled;
        number = one.2.number;
        text = one.2.schema;
        meta = at_start;
        tells = (f.row, asks_of (state g keyed) (state g named) one.2.number one.2.schema f.row has_keyed at_keyed f.asked, f.tells);
      }

  -- If another schema was found, it is the one in the database.
  pub other_stored : (stored : List ℕ) → (HasCleanDisk (state g named) → Finds g schema keyed named (Ok (Some stored))) → IsTrue (state g named).is_open → schema_in (state g named).now ≡ stored
  other_stored stored finds opened =
      let h = head (Some stored) finds opened in
      let text : h.text ≡ Text stored = sym (ap (λ (v : Values). column v 1) h.tells.1) ∙ h.tells.2.0 in
      ap schema_in h.named_is ∙ ap (λ rows. chars_in (column (slice_index_or rows 0 []) 3)) h.meta ∙ ap chars_in text

  module _ (new : Held S) (shuts_new : Shuts (state g new)) (finds : HasCleanDisk (state g named) → Finds g schema keyed named (Ok None))
      (stored : HasCleanDisk (state g new) → ShowsStored g shapes named new) where
    -- The database tells a state of these shapes.
    record IsWhole : Type 0 where
      pub settled_new : (state g new).now ≡ (state g new).committed
      pub told_is : IsDatabaseTold (length shapes) (state g new).now
      pub fit : IsFit shapes (told (length shapes) (state g new).now)
      pub schema_is : schema_in (state g new).now ≡ schema

    whole : IsTrue (state g new).is_open → IsWhole
    unfolding all_reading reading
    whole opened =
        let s = stored (clean_if_open (state g new) shuts_new opened) in
        let open_first = shown_open (state g s.first) (state g new) all_text [] s.lines.found s.lines.shown in
        let open_named = row_open (state g named) (state g s.first) number_text [] (Ok s.asked.row) s.asked.asked open_first in
        let h = head None finds open_named in
        let db = (state g start).now in
        let has_named : (state g named).now.schema ≡ two_tables 0 1 2 = ap (λ (d : Database). d.schema) h.named_is ∙ has in
        let one = same_by_row (state g named) (state g s.first) (pub_next (state g named) h.settled_named) has_named open_first s.asked.row s.asked.asked in
        let has_first = still (state g named) (state g s.first) (two_tables 0 1 2) one has_named in
        let two = same_by_rows (state g s.first) (state g new) (pub_next (state g s.first) one.settled) has_first opened all_text s.lines.found all_plain.0 s.lines.shown in
        let first_is : (state g s.first).now ≡ db = one.now_is ∙ h.named_is in
        let new_is : (state g new).now ≡ db = two.now_is ∙ first_is in
        let named_meta : (state g named).now.trees 0 ≡ (Int (pos 0) ∷ Null ∷ h.number ∷ h.text ∷ []) ∷ [] = ap (λ (d : Database). d.trees 0) h.named_is ∙ h.meta in
        let again = asks_of (state g named) (state g s.first) h.number h.text s.asked.row has_named named_meta s.asked.asked in
        let number : h.number ≡ Int (pos s.number) = sym (ap (λ (v : Values). column v 0) again) ∙ s.asked.has.stored in
        let text : h.text ≡ Text schema = sym (ap (λ (v : Values). column v 1) h.tells.1) ∙ h.tells.2.0 in
        let meta : db.trees 0 ≡ meta_row s.number schema ∷ [] = h.meta ∙ (λ i. (Int (pos 0) ∷ Null ∷ number i ∷ text i ∷ []) ∷ []) in
        let typed = rule db (live h.opened_start).0 has Datatype in
        let rows = subst (λ (d : Database). IsPermutation (map whole_shown (d.trees 1)) s.lines.found) first_is (all_shown (state g s.first) (state g new) s.lines.found has_first s.lines.shown) in
        let holds = whole_holds db.trees s.lines.found typed rows s.lines.rowids s.lines.are.lines in
        let is = fit_stands db (live h.opened_start).0 has shapes schema s.number s.lines.found meta s.asked.has.in_range s.lines.are holds in
        record {
          settled_new = two.settled;
          told_is = subst (IsDatabaseTold (length shapes)) (sym new_is) is.0;
          fit = subst (λ (d : Database). IsFit shapes (told (length shapes) d)) (sym new_is) is.1;
          schema_is = ap schema_in new_is ∙ ap (λ rows. chars_in (column (slice_index_or rows 0 []) 3)) meta;
        }

    pub reopened_kept : IsAllCommitted (length shapes) (state g new)
    reopened_kept = record { settled = λ opened. (whole opened).settled_new; told_by = λ opened. (whole opened).told_is }

    pub reopened_schema : IsTrue (state g new).is_open → schema_in (state g new).now ≡ schema
    reopened_schema opened = (whole opened).schema_is

    pub reopened_fit : IsTrue (state g new).is_open → IsFit shapes (told (length shapes) (state g new).now)
    reopened_fit opened = (whole opened).fit
