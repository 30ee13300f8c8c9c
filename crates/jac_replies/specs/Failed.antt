-- A request that wasn't answered: memory ran out, or the keeper failed.
use Rattle.std.specs.Prelude.{ℕ}
use Rattle.jac_keep.specs.declared.stop.Stop.{Stop}
use Rattle.jac_keep.specs.declared.stop.Stop.TheVariants as stops

-- The status of the answer that is given instead.
abbrev pub status_of_stop : Stop → ℕ
status_of_stop stops.Keeper = 503
status_of_stop stops.Memory = 500
