-- What opening a database leaves.
use Rattle.std.specs.Prelude.{◌≡◌, ◌≤◌, ◌+◌, ℕ, Bool, true, false, List, Result, Ok, Err}
use Rattle.sqlite_wal.specs.Recovery.{Image}
use Rattle.sqlite.specs.State.{State as Sql, HasCleanDisk, Opens, IsLive}
use Rattle.sqlite.specs.Start.{FindsIn}
use Rattle.jac_io.specs.Faults.{Rose}
use Rattle.jac_keep.specs.declared.vault.AttachFault.{AttachFault}
use Rattle.jac_keep.specs.declared.vault.AttachFault.TheVariants.{Failed, Other}

-- It fails only if the count of faults rose. It never reports another schema.
pub record OpensFile {T : Type 0} (old new : ℕ) (result : Result T AttachFault) : Type 0 where
  pub later : old ≤ new
  pub rose : result ≡ Err Failed → Rose old new
  pub other : (stored : List ℕ) → ¬ (result ≡ Err (Other stored))

-- It gives one more connection, or it fails and gives none.
abbrev pub GivesOne : {T : Type 0} → ℕ → ℕ → Result T AttachFault → Type 0
GivesOne old new (Ok given) = new ≡ old + 1
GivesOne old new (Err fault) = new ≡ old

-- The number of connections that were given: one or none.
abbrev pub one_or_none : Bool → ℕ
one_or_none true = 1
one_or_none false = 0

-- A connection to files that held these bytes when they were opened. If the disk has returned what
-- was written, the connection is open, and its database is the one that the bytes represent.
pub record IsFileGiven (image : Image) (s : Sql) : Type 0 where
  pub opened : HasCleanDisk s → Opens s × IsLive s
  pub found : HasCleanDisk s → FindsIn image s
