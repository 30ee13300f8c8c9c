-- What is known of a store that a run refused because it has another schema.
use Rattle.std.specs.Prelude.{◌≡◌, ℕ, false, List, Some, IsTrue}
use Rattle.jac_keep.specs.KeeperSeen.{KeeperSeen}
use Rattle.jac_keep.specs.Attaching.{IsRefused}
use Rattle.jac_serve_events.specs.Outside.{Span}

-- The stored schema is known. No store is attached. If the store's state is known, it is as it was.
pub record IsOtherLeft (keeper : Span KeeperSeen) : Type 0 where
  pub stored : List ℕ
  pub known : keeper.after.store.schema ≡ Some stored
  pub unattached : keeper.after.store.attached ≡ false
  pub refused : IsTrue keeper.after.tells → IsRefused keeper.before keeper.after
