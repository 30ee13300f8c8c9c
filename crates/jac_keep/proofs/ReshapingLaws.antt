-- Tables with empty ones added after them, and the result of a reshape.
use Rattle.std.proofs.Common.{◌≡◌, ℕ, suc, ◌+◌, ◌-◌, ◌<◌, ◌≤◌, List, [], ◌∷◌, ◌++◌, length, Option, None, Ok, IsTrue, true≢false, append_assoc, append-nil, sym, ◌∙◌, ap, subst, arith}
use Rattle.std.proofs.lemmas.List.{length-append}
use Rattle.jac_rows.specs.Good.{ModelShape, IsSound}
use Rattle.jac_rows.specs.declared.row.Row.{Row}
use Rattle.jac_rows.specs.declared.state.State.{State}
use Rattle.jac_keep.specs.declared.alteration.Change.{Change}
use Rattle.jac_keep.specs.declared.table_indexes.TableIndexes.{TableIndexes}
use Rattle.jac_keep.specs.Indexed.{AreIndexesIfMade}
use Rattle.jac_keep.specs.KeeperSeen.{Store}
use Rattle.jac_keep.specs.KeeperState.{KeeperState, IsKeeping, after_reshape, seen_keeper}
use Rattle.jac_keep.specs.Reshaping.{widened_state, Reshapes}
use Rattle.jac_keep.specs.Schema.{IsSchema, IsFit, empties}
use Rattle.jac_keep.specs.Sound.{AreTables}
use Rattle.jac_keep.proofs.SoundLaws.{sound_if_good, tables_of_sound}

-- If there are enough tables, none is added.
pub widened_end : (ts : List (List Row)) (models : ℕ) → models ≤ length ts → ts ++ empties (models - length ts) ≡ ts
widened_end ts models enough =
    let none : models - length ts ≡ 0 = omega (arith, enough) in
    ap (λ n. ts ++ empties n) none ∙ append-nil ts

pub widened_none : (ts : List (List Row)) → ts ++ empties (0 - length ts) ≡ ts
widened_none ts = widened_end ts 0 (omega arith)

-- One table is added.
pub widened_step : (ts : List (List Row)) (models : ℕ) → length ts < models
    → (ts ++ [] ∷ []) ++ empties (models - length (ts ++ [] ∷ [])) ≡ ts ++ empties (models - length ts)
widened_step ts models less =
    let more : length (ts ++ [] ∷ []) ≡ length ts + 1 = length-append ts ([] ∷ []) in
    let next : models - length ts ≡ suc (models - length (ts ++ [] ∷ [])) = omega (arith, less, more) in
    append_assoc ts ([] ∷ []) (empties (models - length (ts ++ [] ∷ []))) ∙ ap (λ n. ts ++ empties n) (sym next)

tables_front : (ts us : List (List Row)) → AreTables (ts ++ us) → AreTables ts
tables_front [] us rising = tt
tables_front (t ∷ ts) us rising = (rising.0, tables_front ts us rising.1)

-- If a state fits after empty tables are added, the rows of its tables rise.
pub tables_if_fit : (shapes : List ModelShape) (s : State) → IsFit shapes (widened_state (length shapes) s) → AreTables s.tables
tables_if_fit shapes s fit =
    tables_front s.tables (empties (length shapes - length s.tables))
    (tables_of_sound (widened_state (length shapes) s) (sound_if_good shapes (widened_state (length shapes) s) fit.good))

-- A keeper may have any sound state after the first call of `attach`.
pub keeping_if_called : (s new : State) (store : Store) (indexes : Option TableIndexes) → IsSound s → new ≡ s → AreIndexesIfMade new.tables indexes → IsTrue store.called
    → IsKeeping new store indexes
keeping_if_called s new store indexes sound same indexed called = record {
  sound = subst IsSound (sym same) sound;
  indexed = indexed;
  called = λ _. called;
  stored = λ no. absurd (true≢false (sym called ∙ no));
}

pub keeping_if_fit : (shapes : List ModelShape) (s new : State) (store : Store) → IsFit shapes (widened_state (length shapes) s) → new ≡ widened_state (length shapes) s → IsTrue store.called
    → IsKeeping new store None
keeping_if_fit shapes s new store fit same called =
    keeping_if_called (widened_state (length shapes) s) new store None (sound_if_good shapes (widened_state (length shapes) s) fit.good) same tt called

-- The keeper after a reshape that succeeds.
pub reshapes_ok : (old new : KeeperState) (change : Change) (schema : List ℕ) (shapes : List ModelShape) → IsSchema schema shapes → old.faults ≤ new.faults
    → ((others : List ModelShape) → IsSchema schema others → new ≡ after_reshape change schema (length others) old)
    → Reshapes (seen_keeper old) (seen_keeper new) change schema (Ok tt)
reshapes_ok old new change schema shapes is later after = record {
  cause = record { later = later; rose = λ e. absurd cc };
  told = λ told. told;
  ok = record {
    store = ap (λ (k : KeeperState). k.store) (after shapes is);
    state = λ _ others also. ap (λ (k : KeeperState). k.state) (after others also);
  };
  err = tt;
}
