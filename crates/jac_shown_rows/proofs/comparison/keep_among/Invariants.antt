use Rattle.std.proofs.Common.{◌≡◌, ◌++◌, ℕ, Bool, true, Option, drop}
use Rattle.jac_world.specs.World.{shown_by}
use Rattle.jac_rows.specs.Project.{rows_at}
use Rattle.jac_shown_rows.specs.Comparisons.{comparison_among, ids_compared}
use Rattle.jac_shown_rows.specs.Consulted.{Agrees, Grows}
use Rattle.jac_shown_rows.specs.Own.{IsOwn, is_own_table}
use Rattle.jac_shown_rows.proofs.comparison.keep_among.Given as goal

-- The ids kept so far, followed by those that are kept of the ids that are left, are all that are
-- kept.
abbrev pub invariant-ids : goal.invariant-ids
invariant-ids l =
    record {
      grown : Grows l.fn.support l.support;
      own : (this : Option ℕ) → is_own_table this l.rows ≡ true → IsOwn this l.fn.support → IsOwn this l.support;
      kept : (w : ℕ → Bool) → Agrees l.support (shown_by l.a) w →
          let value = comparison_among (rows_at w l.rows) l.comparison in
          l.kept.items ++ ids_compared value (drop l.id-index l.ids) ≡ ids_compared value l.ids;
    }
