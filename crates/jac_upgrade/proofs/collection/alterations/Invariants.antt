use Rattle.std.proofs.Common.{IsTrue}
use Rattle.std.specs.List.{AllByRecursion}
use Rattle.jac_keep.specs.KeeperSeen.{IsLeft}
use Rattle.jac_lang.specs.Mirror.{application_of}
use Rattle.jac_upgrade.specs.Steps.{AltersBelow, IsOwnAlteration}
use Rattle.jac_upgrade.proofs.collection.alterations.Given as goal

abbrev pub invariant-models : goal.invariant-models
invariant-models g l =
    let k = g.K.Keeper in
    IsLeft (k.seen l.fn.keeper) (k.seen l.keeper)
    × AllByRecursion IsOwnAlteration l.made.items
    × (IsTrue (k.seen l.keeper).tells → AltersBelow (application_of l.old).models (application_of l.new).models (k.seen l.fn.keeper).state l.model l.made.items)
