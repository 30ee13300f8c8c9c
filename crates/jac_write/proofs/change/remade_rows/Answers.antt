use Rattle.std.proofs.Common.{◌∙◌, ap, ◌++◌, map}
use Rattle.jac_lang.specs.Lookup.{fields_at}
use Rattle.jac_lang.specs.Mirror.{entities_of}
use Rattle.jac_plain.specs.Records.{shielded_cells}
use Rattle.jac_write.specs.Writes.{cells_at, is_put, put_in, sets_at}
use Rattle.jac_write.proofs.WriteLaws.{remade}
use Rattle.jac_write.proofs.change.remade_rows.Goals as goal

pub returns-clause-shown : goal.returns-clause-shown
returns-clause-shown g c w =
    let models = entities_of c.args.subject.now.app.now.models in
    let fields = fields_at models c.args.subject.now.model in
    let sets = sets_at w c.args.sets.now in
    let outer = cells_at w c.in_ok-remade.remade.items in
    let inner = cells_at w c.in_ok-inner.inner.items in
    let store = shielded_cells models w c.args.subject.now.model c.args.subject.now.id (is_put sets) in
    remade w c.args.guard.now (put_in models fields sets) store (cells_at w c.args.rows.now) outer inner (cells_at w c.in_ok-drafts.drafts.items)
    (cells_at w c.add_stored.new.out.items) (c.in_ok-remade.ensures.shown w) (c.in_ok-inner.ensures.shown w)
    (c.in_ok-drafts.ensures.shown w ∙ ap (λ ss. map (put_in models fields (sets_at w ss)) inner) c.as_slice.ensures)
    (c.in_ok-add_stored.ensures.shown w ∙ ap (λ rows. outer ++ map store (cells_at w rows)) c.as_slice-drafts.ensures.value)
