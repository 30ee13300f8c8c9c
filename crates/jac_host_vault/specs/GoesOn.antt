-- What any number of calls of the program's store preserve.
use Rattle.std.proofs.Common.{refl, ◌∙◌}
use Rattle.jac_keep.specs.KeeperSeen.{KeeperSeen}
use Rattle.jac_keep.specs.Preorder.{Preorder}
use Rattle.jac_reopen.specs.GoesOn.{along_same, along_joined, gives_up_at_fault}
use Rattle.jac_host_vault.specs.HostSeen.{HostSeen, HostGoesOn}

pub host_same : {V : Type 0} (seen : V → KeeperSeen) (goes : Preorder V) (a : HostSeen V)
    → HostGoesOn seen goes.holds a a
host_same seen goes a = record {
  file = along_same (gives_up_at_fault seen goes) a.file;
  alone = refl;
}

pub host_joined : {V : Type 0} (seen : V → KeeperSeen) (goes : Preorder V) (a b c : HostSeen V)
    → HostGoesOn seen goes.holds a b → HostGoesOn seen goes.holds b c
    → HostGoesOn seen goes.holds a c
host_joined seen goes a b c one two = record {
  file = along_joined (gives_up_at_fault seen goes) a.file b.file c.file one.file two.file;
  alone = two.alone ∙ one.alone;
}

-- What each call of the program's store preserves, if each call of its files preserves this.
abbrev pub host_goes_on : {V : Type 0} → (V → KeeperSeen) → Preorder V → Preorder (HostSeen V)
host_goes_on seen goes = record {
  holds = HostGoesOn seen goes.holds;
  same = host_same seen goes;
  joined = host_joined seen goes;
}
