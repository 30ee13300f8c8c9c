-- A keeper in memory, as contracts see it.
use Rattle.std.specs.Prelude.{◌≡◌, ℕ, List, [], Bool, true, false, Option, Some, None, IsTrue, if◌then◌else◌}
use Rattle.jac_io.specs.Faults.{one_more_fault}
use Rattle.jac_io.specs.Calls.{is_listed}
use Rattle.jac_rows.specs.declared.state.State.{State}
use Rattle.jac_rows.specs.Good.{IsNext, IsSound}
use Rattle.jac_rows.specs.Good.{ModelShape}
use Rattle.jac_keep.specs.Indexed.{AreIndexesIfMade}
use Rattle.jac_keep.specs.KeeperSeen.{KeeperSeen, Store}
use Rattle.jac_keep.specs.ChangedState.{changed_state}
use Rattle.jac_keep.specs.Reshaping.{widened_state}
use Rattle.jac_keep.specs.Schema.{IsSchema, IsFit, empties}
use Rattle.jac_keep.specs.declared.alteration.Change.{Change}
use Rattle.jac_keep.specs.declared.table_indexes.TableIndexes.{TableIndexes}

-- The state; the store; the numbers of the reads and of the applies that fail; the counts of reads
-- and of applies; and the count of calls that failed.
pub record KeeperState : Type 0 where
  pub state : State
  pub store : Store
  pub fail_reads : List ℕ
  pub fail_applies : List ℕ
  pub reads : ℕ
  pub applies : ℕ
  pub faults : ℕ

-- Whether the next read fails, and whether the next apply fails.
abbrev pub read_fails : KeeperState → Bool
read_fails k = is_listed (one_more_fault k.reads) k.fail_reads

abbrev pub apply_fails : KeeperState → Bool
apply_fails k = is_listed (one_more_fault k.applies) k.fail_applies

-- The keeper after the next read.
abbrev pub after_read : KeeperState → KeeperState
after_read k = record k {
  reads = one_more_fault k.reads;
  faults = if read_fails k then one_more_fault k.faults else k.faults;
}

-- The keeper after the next apply, apart from its state.
abbrev pub after_apply : KeeperState → KeeperState
after_apply k = record k {
  applies = one_more_fault k.applies;
  faults = if apply_fails k then one_more_fault k.faults else k.faults;
}

-- What contracts see of the keeper. Its state is known.
abbrev pub seen_keeper : KeeperState → KeeperSeen
seen_keeper k = record { tells = true; state = k.state; faults = k.faults; store = k.store }

-- What is stored may be attached: if there is a schema, the state fits it. Otherwise there is no
-- table.
abbrev pub IsStored : Option (List ℕ) → State → Type 0
IsStored None s = (s.tables ≡ []) × IsNext s.number
IsStored (Some schema) s = ((shapes : List ModelShape) × IsSchema schema shapes)
    × ((shapes : List ModelShape) → IsSchema schema shapes → IsFit shapes s)

-- The state is sound, and the indexes agree with its tables. Before the first call of `attach`,
-- what is stored may be attached.
pub record IsKeeping (state : State) (store : Store) (indexes : Option TableIndexes) : Type 0 where
  pub sound : IsSound state
  pub indexed : AreIndexesIfMade state.tables indexes
  pub called : IsTrue store.attached → IsTrue store.called
  pub stored : store.called ≡ false → IsStored store.schema state

-- The store before the first call of `attach`, and a store that is attached without a name or a
-- schema.
abbrev pub unattached_store : Option (List ℕ) → Store
unattached_store schema = record { called = false; attached = false; schema = schema; name = None }

abbrev pub attached_store : Store
attached_store = record { called = true; attached = true; schema = None; name = None }

-- The keeper after a call of `attach` that fails.
abbrev pub after_refusal : KeeperState → KeeperState
after_refusal k = record k { store = record k.store { called = true } }

-- The state after a store of this many models is attached: what was stored, or empty tables if the
-- store is new.
abbrev pub attached_state : Option (List ℕ) → ℕ → State → State
attached_state None models s = record s { tables = empties models }
attached_state (Some schema) models s = s

-- The keeper after a call of `attach` that succeeds.
abbrev pub after_attach : Option (List ℕ) → List ℕ → ℕ → KeeperState → KeeperState
after_attach name schema models k = record k {
  state = attached_state k.store.schema models k.state;
  store = record { called = true; attached = true; schema = Some schema; name = name };
}

-- The keeper after a call of `reshape` that succeeds.
abbrev pub after_reshape : Change → List ℕ → ℕ → KeeperState → KeeperState
after_reshape change schema models k = record (after_apply k) {
  state = widened_state models (changed_state change k.state);
  store = record k.store { schema = Some schema };
}
