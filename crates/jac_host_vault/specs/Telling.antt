-- The condition that the state of the program's store is known, unless the store or its disk
-- failed.
use Rattle.std.specs.Prelude.{◌≡◌, ◌⊎◌, false, Option, Some, None, IsSomeAnd, IsTrue}
use Rattle.jac_io.specs.Faults.{Rose}
use Rattle.jac_sqlkeep.specs.Based.{Based}
use Rattle.jac_sqlkeep.specs.Kept.{Kept, seen_kept}
use Rattle.jac_reopen.specs.Reopened.{ReopenSeen, Supposed}
use Rattle.jac_host_vault.specs.HostSeen.{HostSeen, seen_host}

-- A file was attached, its connection is open, and its state is known.
abbrev pub IsOpenFile : HostSeen Kept → Type 0
IsOpenFile h = IsSomeAnd h.file (λ (f : ReopenSeen Kept). (f.again ≡ None)
    × IsSomeAnd f.first (λ (k : Kept). IsSomeAnd k.database (λ (b : Based). IsTrue b.is_open
    × IsTrue b.tells)))

abbrev pub first_database : Option Kept → Option Based
first_database None = None
first_database (Some k) = k.database

abbrev pub file_database : Option (ReopenSeen Kept) → Option Based
file_database None = None
file_database (Some f) = first_database f.first

-- The disk of a database failed once more, or it returned something else than what was written.
abbrev pub HasDiskFailed : Option Based → Option Based → Type 0
HasDiskFailed None b = ⊥
HasDiskFailed (Some a) None = ⊥
HasDiskFailed (Some a) (Some b) = Rose a.faults b.faults ⊎ (b.is_clean ≡ false)

-- The store's state is known, or the store counted a fault, or its disk failed as above.
abbrev pub TellsOrFailed : Supposed → HostSeen Kept → HostSeen Kept → Type 0
TellsOrFailed s old new = IsTrue (seen_host s seen_kept new).tells
    ⊎ (Rose (seen_host s seen_kept old).faults (seen_host s seen_kept new).faults
    ⊎ HasDiskFailed (file_database old.file) (file_database new.file))
