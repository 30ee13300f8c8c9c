use Rattle.std.proofs.Common.{◌≡◌, ◌<◌, ◌^◌, ◌++◌, ℕ, true, All, drop, get_or}
use Rattle.jac_world.specs.World.{holds, guard_wants}
use Rattle.jac_rows.specs.declared.row.Row.{Row}
use Rattle.jac_resolve.specs.Collected.{labels_of_rows}
use Rattle.jac_resolve.proofs.live.add_rows.Given as goal

abbrev pub invariant-rows : goal.invariant-rows
invariant-rows l = record {
  labels : All (λ (r : Row). r.id < 2 ^ 124) l.rows → l.labels.items ++ labels_of_rows l.groups (drop l.row-index l.rows) ≡ l.fn.labels.items ++ labels_of_rows l.groups l.rows;
  guards : (k : ℕ) (d : Row) → k < l.row-index → holds (guard_wants (get_or l.rows k d).guard) (get_or l.rows k d).guard ≡ true;
}
