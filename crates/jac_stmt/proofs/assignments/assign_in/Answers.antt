use Rattle.std.proofs.Common.{rules, sym}
use Rattle.jac_facet.specs.Shape.{at}
use Rattle.jac_world.specs.World.{holds}
use Rattle.jac_stmt.proofs.PlaceLaws.{assigned-none, assigned-some, same_either}
use Rattle.jac_stmt.proofs.assignments.assign_in.Goals as goal

pub returns-in_default : goal.returns-in_default
returns-in_default g c w =
    same_either (holds w c.args.pc.now) (sym (assigned-none w c.args.name.now (at w c.args.value.now) c.args.bindings.now.items (search rules)))

pub returns : goal.returns
returns g c w =
    assigned-some w c.args.name.now (at w c.args.value.now) (holds w c.args.pc.now) c.args.bindings.now.items c.in-Some.place c.index_mut-binding.result.now c.in_ok-changed.changed
    (search rules) (search rules) (c.in_ok-changed.ensures.at w)
