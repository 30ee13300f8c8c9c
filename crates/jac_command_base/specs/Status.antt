-- The number of each exit status.
use Rattle.std.specs.Prelude.{ℕ}
use Rattle.jac_command_base.specs.declared.status.Status.{Status}
use Rattle.jac_command_base.specs.declared.status.Status.TheVariants.{Done, Usage, AppRefused, LineRefused, ReadFault, WriteFault, StoreFault, Memory, DoorFault, OtherStore, TooLong, UpgradeRefused}

abbrev pub status_number : Status → ℕ
status_number Done = 0
status_number Usage = 1
status_number AppRefused = 2
status_number LineRefused = 3
status_number ReadFault = 4
status_number WriteFault = 5
status_number StoreFault = 6
status_number Memory = 7
status_number DoorFault = 8
status_number OtherStore = 9
status_number TooLong = 10
status_number UpgradeRefused = 11
