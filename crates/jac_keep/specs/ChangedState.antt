-- The state after one record is replaced, or after a whole change.
use Rattle.std.specs.Prelude.{ℕ, List, [], ◌∷◌}
use Rattle.jac_rows.specs.declared.row.Row.{Row}
use Rattle.jac_rows.specs.declared.state.State.{State}
use Rattle.jac_keep.specs.declared.alteration.Change.{Change}
use Rattle.jac_keep.specs.Alterations.{overlaid}

-- The state after these rows replace the record's alternatives.
abbrev pub state_with : ℕ → List Row → State → State
state_with id rows s = record s {
  tables = overlaid (record { id = id; rows = rows } ∷ [])
      s.tables;
}

-- The state after a change: the alternatives of each changed record are replaced, and the number is
-- set.
abbrev pub changed_state : Change → State → State
changed_state c s = record { tables = overlaid c.changed s.tables; number = c.number }
