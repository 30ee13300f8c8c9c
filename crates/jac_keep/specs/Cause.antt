-- How a call that stops early changes the count of faults.
use Rattle.std.specs.Prelude.{ℕ, ◌≤◌, Result, IsErrOf}
use Rattle.jac_io.specs.Faults.{Rose}
use Rattle.jac_keep.specs.declared.stop.Stop.{Stop}
use Rattle.jac_keep.specs.declared.stop.Stop.TheVariants.{Keeper}

-- The count of faults doesn't fall. It rose if the call gives `Keeper`.
pub record HasCause {T : Type 0} (before now : ℕ) (result : Result T Stop) : Type 0 where
  pub later : before ≤ now
  pub rose : IsErrOf result Keeper → Rose before now
