use Rattle.std.proofs.Common.{◌≡◌, ◌<◌, ℕ, Bool, length, All}
use Rattle.std.specs.Vec.Iter.{into_iter_items}
use Rattle.jac_expr.specs.Tupled.{all_at}
use Rattle.jac_facet.specs.Shape.{Shape}
use Rattle.jac_value.specs.declared.value.Value.{Value}
use Rattle.jac_write.specs.Writes.{sets_at}
use Rattle.jac_stmt.specs.Drafts.{put_raw}
use Rattle.jac_stmt.proofs.drafts.put_sets.Given as goal

abbrev pub invariant-sets : goal.invariant-sets
invariant-sets l =
    All (λ (x : ℕ × Shape Value). x.0 < length l.fn.cells.items) (into_iter_items l.field-iterator)
    × (length l.cells.items ≡ length l.fn.cells.items)
    × ((w : ℕ → Bool) → put_raw (sets_at w (into_iter_items l.field-iterator)) (all_at w l.cells.items) ≡ put_raw (sets_at w l.fn.sets.items) (all_at w l.fn.cells.items))
