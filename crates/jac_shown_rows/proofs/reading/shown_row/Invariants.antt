use Rattle.std.proofs.Common.{◌≡◌, ℕ, Bool, true, Option, length}
use Rattle.jac_world.specs.World.{shown_by}
use Rattle.jac_rows.specs.Project.{rows_at}
use Rattle.jac_plain.specs.World.{record_with}
use Rattle.jac_shown_rows.specs.Consulted.{Agrees, Grows}
use Rattle.jac_shown_rows.specs.Own.{IsOwn, are_own_rows}
use Rattle.jac_shown_rows.proofs.Joining.{answer_of}
use Rattle.jac_shown_rows.proofs.reading.shown_row.Given as goal

-- No row before those that are left is the record's.
abbrev pub invariant-rows : goal.invariant-rows
invariant-rows l =
    record {
      grown : Grows l.fn.support l.support;
      own : (this : Option ℕ) → are_own_rows this l.id l.rows ≡ true → IsOwn this l.fn.support → IsOwn this l.support;
      rows_left : (this : Option ℕ) → are_own_rows this l.id l.rows ≡ true → are_own_rows this l.id l.left ≡ true;
      left : (w : ℕ → Bool) → Agrees l.support (shown_by l.a) w → answer_of l.field (record_with l.id (rows_at w l.left)) ≡ answer_of l.field (record_with l.id (rows_at w l.rows));
    }

abbrev pub decreases-rows : goal.decreases-rows
decreases-rows l = length l.left
