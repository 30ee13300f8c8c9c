use Rattle.std.proofs.Common.{◌≡◌, ◌++◌, ℕ, Bool, true, Option, drop}
use Rattle.jac_world.specs.World.{shown_by}
use Rattle.jac_rows.specs.Project.{project_at}
use Rattle.jac_rows.specs.Tables.{rows_of}
use Rattle.jac_keep.specs.WorkState.{state_of, IsTold}
use Rattle.jac_shown_rows.specs.Comparisons.{comparison_value, ids_compared}
use Rattle.jac_shown_rows.specs.Consulted.{Agrees, Grows}
use Rattle.jac_shown_rows.specs.Own.{IsOwn, is_own_table}
use Rattle.jac_shown_rows.proofs.Working.{LoopOver}
use Rattle.jac_shown_rows.proofs.comparison.keep_each.Given as goal

-- The ids kept so far, followed by those that are kept of the ids that are left, are all that are
-- kept.
abbrev pub invariant-ids : goal.invariant-ids
invariant-ids g l =
    let k = g.K.Keeper in
    record {
      grown : Grows l.fn.support l.support;
      own : IsTold k.seen l.work → (this : Option ℕ) → is_own_table this (rows_of (state_of k.seen l.fn.work).tables l.comparison.column.model) ≡ true → IsOwn this l.fn.support → IsOwn this l.support;
      read : LoopOver k.seen l.fn.work l.work
          ((w : ℕ → Bool) → Agrees l.support (shown_by l.a) w →
          let value = comparison_value (project_at w (state_of k.seen l.fn.work)).tables l.comparison in
          l.kept.items ++ ids_compared value (drop l.id-index l.ids) ≡ ids_compared value l.ids);
    }
