-- What was read from a keeper up to some point.
use Rattle.std.specs.Prelude.{IsTrue}
use Rattle.jac_keep.specs.KeeperSeen.{KeeperSeen, IsLeft}

pub record ReadSoFar (old new : KeeperSeen) (computed : Type 0) : Type 0 where
  pub told : IsTrue new.tells → computed
  pub left : IsLeft old new
