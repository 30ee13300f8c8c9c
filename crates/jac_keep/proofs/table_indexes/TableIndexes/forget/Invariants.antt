use Rattle.std.proofs.Common.{◌≡◌, ℕ, drop}
use Rattle.jac_keep.specs.Indexed.{index_at}
use Rattle.jac_keep.proofs.Forgotten.{forgotten}
use Rattle.jac_keep.proofs.table_indexes.TableIndexes.forget.Given as goal

abbrev pub invariant-changed : goal.invariant-changed
invariant-changed l = (k : ℕ) → forgotten k (drop l.alteration-index l.changed) (index_at k l.self) ≡ forgotten k l.changed (index_at k l.initial.self)
