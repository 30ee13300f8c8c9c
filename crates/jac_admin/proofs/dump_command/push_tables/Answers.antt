use Rattle.std.proofs.Common.{◌≡◌, ◌∷◌, rules}
use Rattle.jac_world.specs.World.{shown_by}
use Rattle.jac_admin.proofs.DumpLemmas.{push_next}
use Rattle.jac_admin.proofs.dump_command.push_tables.Goals as goal

pub models-preserved : goal.models-preserved
models-preserved g c =
    let K = g.K.Keeper in
    let left : c.models.left.now ≡ c.in-Some.model.now ∷ c.in-Some.rest.now = search rules in
    push_next (K.seen c.args.vault.now) (K.seen c.models.vault) (K.seen c.push_model.new.vault) (shown_by c.args.assignment.now) c.args.models.now c.args.text.now.items
    c.in-Some.model.now c.in-Some.rest.now c.models.place c.models.text.items c.push_model.new.text.items
    (rw (← left) c.models.invariant) c.push_model.ensures.left c.in_ok-push_model.ensures.text
