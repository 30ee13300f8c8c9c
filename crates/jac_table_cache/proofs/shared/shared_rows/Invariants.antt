use Rattle.std.proofs.Common.{◌≡◌}
use Rattle.jac_table_cache.proofs.shared.shared_rows.Given as goal

abbrev pub invariant-rows : goal.invariant-rows
invariant-rows l = l.rows.items ≡ l.initial.rows.items
