-- What writes to a connection leave unchanged of what its journal says.
use Rattle.std.specs.Prelude.{◌≡◌, ℕ, List}
use Rattle.jac_host.specs.Events.{Event}
use Rattle.jac_host.specs.Gave.{bytes_given}
use Rattle.jac_host.specs.Links.{last_input, brings, gave_none, ends_for_good}

-- Nothing was read, and the connection is the same.
pub record OnlyWrites (old new : List Event) : Type 0 where
  pub given : bytes_given new ≡ bytes_given old
  pub input : (inputs : List (List ℕ)) → last_input inputs new ≡ last_input inputs old
  pub brings : (input : List ℕ) → brings input new ≡ brings input old
  pub none : gave_none new ≡ gave_none old
  pub ends : ends_for_good new ≡ ends_for_good old
