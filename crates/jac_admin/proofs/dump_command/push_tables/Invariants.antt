use Rattle.std.proofs.Common.{length}
use Rattle.jac_world.specs.World.{shown_by}
use Rattle.jac_admin.proofs.DumpLemmas.{Pushes}
use Rattle.jac_admin.proofs.dump_command.push_tables.Given as goal

abbrev pub invariant-models : goal.invariant-models
invariant-models g l =
    let seen = g.K.Keeper.seen in
    Pushes (seen l.fn.vault) (seen l.vault) (shown_by l.assignment) l.models l.fn.text.items l.left l.place l.text.items

abbrev pub decreases-models : goal.decreases-models
decreases-models g l = length l.left
