use Rattle.std.proofs.Common.{◌≡◌, ◌++◌, ℕ, Bool, drop}
use Rattle.jac_value.specs.declared.value.Value.{Value}
use Rattle.jac_world.specs.World.{shown_by}
use Rattle.jac_rows.specs.Project.{rows_at}
use Rattle.jac_plain.specs.World.{cell_of, record_with}
use Rattle.jac_shown_rows.specs.Columns.{absent_in}
use Rattle.jac_shown_rows.specs.Consulted.{Agrees, Grows}
use Rattle.jac_shown_rows.specs.RecordIds.{keyed_each}
use Rattle.jac_shown_rows.proofs.keys.keyed_among.Given as goal

-- the keyed ids so far, before those that are left, are all
abbrev pub invariant-ids : goal.invariant-ids
invariant-ids l =
    record {
      grown : Grows l.fn.support l.support;
      keys : (w : ℕ → Bool) → Agrees l.support (shown_by l.a) w →
          let key : ℕ → Value = λ j. cell_of (record_with j (rows_at w l.rows)) l.column.field (absent_in l.column) in
          l.keyed.items ++ keyed_each key (drop l.id-index l.ids) ≡ keyed_each key l.ids;
    }
