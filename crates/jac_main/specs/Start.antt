-- What the store of a run holds before anything is attached.
use Rattle.std.specs.Prelude.{◌≡◌, ℕ, Bool, true, false, IsTrue, Option, Some, None, List, [], is_some}
use Rattle.jac_cli.specs.Words.{command_of}
use Rattle.jac_cli.specs.Commands.{db_of}
use Rattle.jac_cli.specs.declared.words.Command.{Command}
use Rattle.jac_keep.specs.KeeperSeen.{KeeperSeen}
use Rattle.jac_reopen.specs.Reopened.{Supposed, waiting_keeper}

-- Whether the command names the file of a store.
abbrev pub has_file : Option Command → Bool
has_file None = false
has_file (Some command) = is_some (db_of command)

-- Memory in which nothing is stored, and the first number is 1. Its state is known before it is
-- attached.
pub record BeginsEmpty (k : KeeperSeen) : Type 0 where
  pub tells : IsTrue k.tells
  pub tables : k.state.tables ≡ []
  pub number : k.state.number ≡ 1
  pub schema : k.store.schema ≡ None

-- The store isn't attached, and nothing failed. If the command names no file, it is memory, and
-- empty. Otherwise its state is what is supposed of the file.
pub record BeginsSupposed (s : Supposed) (words : List (List ℕ)) (k : KeeperSeen) : Type 0 where
  pub memory : has_file (command_of words) ≡ false → BeginsEmpty k
  pub file : has_file (command_of words) ≡ true → k ≡ waiting_keeper s
  pub unattached : k.store.attached ≡ false
  pub faults : k.faults ≡ 0
