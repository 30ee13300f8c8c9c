-- The alternatives of a record that a work lends are those that it had before the call.
use Rattle.std.proofs.Common.{◌≡◌, ◌∙◌, ap, ℕ, List}
use Rattle.jac_value.specs.Ids.{model_of_id}
use Rattle.jac_rows.specs.declared.row.Row.{Row}
use Rattle.jac_rows.specs.declared.state.State.{State}
use Rattle.jac_rows.specs.Tables.{rows_of}
use Rattle.jac_keep.specs.declared.alteration.Alterations.{Alterations}
use Rattle.jac_keep.specs.declared.work.WorkOver.{WorkOver}
use Rattle.jac_keep.specs.KeeperSeen.{KeeperSeen}
use Rattle.jac_keep.specs.Records.{alternatives}
use Rattle.jac_keep.specs.WorkState.{state_of, IsTold, IsUntouched}

-- The alternatives of a record in a state.
abbrev pub alternatives_in : ℕ → State → List Row
alternatives_in id s = alternatives id (rows_of s.tables (model_of_id id))

pub lent_before : {K : Type 0} (seen : K → KeeperSeen) (old new : WorkOver K Alterations) (id : ℕ) (rows : List Row) → IsUntouched seen old new → IsTold seen new
    → rows ≡ alternatives_in id (state_of seen new) → rows ≡ alternatives_in id (state_of seen old)
lent_before seen old new id rows same told is = is ∙ ap (alternatives_in id) (same.same_state told)
