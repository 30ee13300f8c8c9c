use Rattle.std.proofs.Common.{◌∙◌, ◌++◌, ap, map}
use Rattle.jac_lang.specs.Mirror.{entities_of}
use Rattle.jac_plain.specs.Records.{shielded_cells}
use Rattle.jac_world.specs.World.{holds}
use Rattle.jac_write.specs.Regrouped.{is_guarded_from, stays}
use Rattle.jac_write.specs.Writes.{cells_at}
use Rattle.jac_write.proofs.GroupedLaws.{stored_staying}
use Rattle.jac_write.proofs.groups.regrouped.Goals as goal

pub returns-clause-own : goal.returns-clause-own
returns-clause-own g c = c.in_ok-merged.ensures.own c.args.id c.in_ok-add_stored.ensures.own

pub returns-clause-shown : goal.returns-clause-shown
returns-clause-shown g c w few =
    let models = entities_of c.args.app.now.models in
    let step = shielded_cells models w c.args.model c.args.id (is_guarded_from models c.args.model c.args.first) in
    stored_staying (holds w c.in_ok-guard.guard) (stays models w c.args.model c.args.id c.args.first) step (cells_at w c.args.drafts.now)
    (cells_at w c.in_ok-staying.staying.items) (cells_at w c.add_stored.new.out.items) (cells_at w c.in_ok-merged.merged) few
    (c.in_ok-staying.ensures.shown w) (c.in_ok-guard.ensures w)
    (c.in_ok-add_stored.ensures.shown w
    ∙ ap (λ rows. cells_at w rows ++ map step (cells_at w c.as_slice-staying.result.now)) c.new-stored.ensures.items
    ∙ ap (λ rows. map step (cells_at w rows)) c.as_slice-staying.ensures.value)
    (c.in_ok-merged.ensures.shown w)
