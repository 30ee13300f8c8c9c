use Rattle.std.proofs.Common.{◌≡◌, ◌++◌, ℕ, Bool, Some, drop}
use Rattle.jac_value.specs.declared.value.Value.{Value}
use Rattle.jac_value.specs.declared.value.Value.TheVariants as value
use Rattle.jac_world.specs.World.{shown_by}
use Rattle.jac_rows.specs.Project.{project_at}
use Rattle.jac_keep.specs.WorkState.{state_of}
use Rattle.jac_shown_rows.specs.Columns.{column_got}
use Rattle.jac_shown_rows.specs.Consulted.{Agrees, Grows}
use Rattle.jac_shown_rows.specs.RecordIds.{keyed_each}
use Rattle.jac_shown_rows.proofs.Working.{LoopOver}
use Rattle.jac_shown_rows.proofs.keys.keyed_apart.Given as goal

-- The keyed ids so far, followed by those that are left, are all.
abbrev pub invariant-ids : goal.invariant-ids
invariant-ids g l =
    let k = g.K.Keeper in
    record {
      grown : Grows l.fn.support l.support;
      read : LoopOver k.seen l.fn.work l.work
          ((w : ℕ → Bool) → Agrees l.support (shown_by l.a) w →
          let key : ℕ → Value = λ j. column_got (project_at w (state_of k.seen l.fn.work)).tables (Some l.column) (value.Ref (Some j)) in
          l.keyed.items ++ keyed_each key (drop l.id-index l.ids) ≡ keyed_each key l.ids);
    }
