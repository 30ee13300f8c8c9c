-- The held tables remain the tables of the keeper's state.
use Rattle.std.proofs.Common.{◌≡◌, ◌≢◌, ◌==◌, ◌<◌, ◌≤◌, ◌+◌, ℕ, Bool, true, false, not, nat_lt, nat_le, IsTrue, IfSome, List, length, take, drop, Option, Some, None, refl, sym, ◌∙◌, ap, subst, arith, inl, inr}
use Rattle.std.proofs.lemmas.Bool.{cases_lt}
use Rattle.std.proofs.lemmas.Option.{slice_get_past}
use Rattle.jac_value.specs.Ids.{model_of_id}
use Rattle.jac_rows.specs.Good.{IsSound}
use Rattle.jac_rows.specs.Tables.{rows_of, rows_or_none}
use Rattle.jac_rows.specs.declared.row.Row.{Row}
use Rattle.jac_rows.specs.declared.state.State.{State}
use Rattle.jac_keep.specs.declared.alteration.Alteration.{Alteration}
use Rattle.jac_keep.specs.declared.alteration.Change.{Change}
use Rattle.jac_keep.specs.Alterations.{alters, altered_rows}
use Rattle.jac_keep.specs.KeeperSeen.{KeeperSeen}
use Rattle.jac_keep.specs.ChangedState.{changed_state}
use Rattle.jac_keep.specs.Records.{AreOrdered, with_id, alternatives}
use Rattle.jac_keep.proofs.Bisection.{own_through}
use Rattle.jac_keep.proofs.Forgotten.{altered_other, altered_table}
use Rattle.jac_keep.proofs.OrderLaws.{ordered_if_rising, ordered-with_id}
use Rattle.jac_keep.proofs.SoundLaws.{rows_of_sound}
use Rattle.jac_table_cache.specs.Held.{held, IsAfter, IsLater, IsTableIn, AreHeld}

table_after : (old new : State) (change : Change) (m : ℕ) (before : Option (List Row)) (rows : List Row) → ((table : List Row) → before ≡ Some table → IsTableIn old m table)
    → IsSound new → new ≡ changed_state change old → IsAfter m change.changed before rows → IsTableIn new m rows
table_after old new change m before rows tables sound same after =
    let was : after.old ≡ rows_of old.tables m = (tables after.old after.was).same in
    record {
      sound = sound;
      same = after.same
          ∙ ap (altered_rows m change.changed) was
          ∙ altered_table m change.changed old.tables (λ hit. subst (λ (t : List Row). 0 < length t) was (after.some hit))
          ∙ sym (ap (λ (s : State). rows_of s.tables m) same);
    }

-- After a change is applied, the held tables are again those of the keeper's state.
pub held_after : (old new : KeeperSeen) (change : Change) (before after : List (Option (List Row))) → AreHeld old before
    → ((m : ℕ) → IsLater m change.changed (held m before) (held m after)) → (IsTrue new.tells → IsTrue old.tells) → (IsTrue new.tells → IsSound new.state)
    → (IsTrue new.tells → new.state ≡ changed_state change old.state) → AreHeld new after
held_after old new change before after are later told_before good exact = record {
  shown = λ told m rows is.
      table_after old.state new.state change m (held m before) rows (are.shown (told_before told) m) (good told) (exact told) ((later m).left rows is);
}

-- A table without altered records stays as it is.
pub later_same : (m : ℕ) (changed : List Alteration) (table : Option (List Row)) → alters m changed ≡ false → IsLater m changed table table
later_same m changed table none = record {
  left = λ rows is. record {
    old = rows;
    was = is;
    same = sym (altered_other m changed rows none);
    some = λ hit. absurd cc;
  };
}

-- A table may be replaced by the altered table or by none.
pub later_put : (m : ℕ) (changed : List Alteration) (before put : Option (List Row)) → IfSome put (IsAfter m changed before) → IsLater m changed before put
later_put m changed before None after = record { left = λ rows is. absurd cc }
later_put m changed before (Some one) after = record {
  left = λ rows is. subst (λ (o : Option (List Row)). IsAfter m changed before (rows_or_none o)) is after;
}

untrue : (b : Bool) → true ≡ false → b ≡ false
untrue b bad = absurd cc

apart_if : (at m : ℕ) (changed : List Alteration) → alters at changed ≡ true → alters m changed ≡ false → (b : Bool) → (at == m) ≡ b → (at == m) ≡ false
apart_if at m changed hit none false e = e
apart_if at m changed hit none true e =
    let same : at ≡ m = grind (arith, e) in
    untrue (at == m) (sym hit ∙ ap (λ k. alters k changed) same ∙ none)

-- An altered place differs from each place that isn't altered.
pub apart_from : (at m : ℕ) (changed : List Alteration) → alters at changed ≡ true → alters m changed ≡ false → (at == m) ≡ false
apart_from at m changed hit none = apart_if at m changed hit none (at == m) refl

-- No table is held past the last place.
pub none_held : (m : ℕ) (tables : List (Option (List Row))) → length tables ≤ m → held m tables ≡ None
none_held m tables past = rw (slice_get_past tables m past) refl

pub later_none : (m : ℕ) (changed : List Alteration) (before after : Option (List Row)) → after ≡ before → before ≡ None → IsLater m changed before after
later_none m changed before after same none = record { left = λ rows is. absurd cc }

-- One step alters the table at its place and no other.
pub later_step : (at m : ℕ) (changed : List Alteration) (first before after : Option (List Row)) → m < at + 1
    → (m < at → IsLater m changed first before) → (at ≤ m → before ≡ first) → (at ≡ m → IsLater m changed before after) → ((at == m) ≡ false → after ≡ before)
    → IsLater m changed first after
later_step at m changed first before after within done left here other = elim (cases_lt m at) [
  | inl below ↦ (let apart : at ≢ m = omega (arith, below) in
      let no : (at == m) ≡ false = grind (arith, apart) in
      subst (IsLater m changed first) (sym (other no)) (done below))
  | inr past ↦ (let same : at ≡ m = omega (arith, within, past) in
      subst (λ (t : Option (List Row)). IsLater m changed t after) (left past) (here same))
]

-- Two bisections find a record's alternatives.
pub own_found : (id start count : ℕ) (rows from : List Row) → from ≡ drop start rows
    → drop start rows ≡ with_id (λ i. not (nat_lt i id)) rows → (AreOrdered from → take count from ≡ with_id (λ i. nat_le i id) from)
    → AreOrdered rows → take count from ≡ alternatives id rows
own_found id start count rows from is high low ordered =
    let greater : from ≡ with_id (λ i. not (nat_lt i id)) rows = is ∙ high in
    low (subst AreOrdered (sym greater) (ordered-with_id (λ i. not (nat_lt i id)) rows ordered))
    ∙ ap (with_id (λ i. nat_le i id)) greater
    ∙ own_through id rows

-- The rows of a table are ordered by rising id.
table_ordered : (s : State) (model : ℕ) (rows : List Row) → IsTableIn s model rows → AreOrdered rows
table_ordered s model rows table = subst AreOrdered (sym table.same) (ordered_if_rising (rows_of s.tables model) (rows_of_sound s model table.sound))

-- A record's alternatives in the held table are those in the state.
pub one_held : (seen : KeeperSeen) (tables : List (Option (List Row))) (id model : ℕ) (rows own : List Row) → AreHeld seen tables
    → Some rows ≡ held model tables → model ≡ model_of_id id → (AreOrdered rows → own ≡ alternatives id rows)
    → IsTrue seen.tells → own ≡ alternatives id (rows_of seen.state.tables (model_of_id id))
one_held seen tables id model rows own are is of_id found told =
    let table : IsTableIn seen.state model rows = are.shown told model rows (sym is) in
    found (table_ordered seen.state model rows table) ∙ ap (alternatives id) (table.same ∙ ap (rows_of seen.state.tables) of_id)
