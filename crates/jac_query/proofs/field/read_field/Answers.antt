use Rattle.std.proofs.Common.{rules, ◌≡◌, [], ◌∷◌, ◌++◌, ap, ◌∙◌}
use Rattle.jac_facet.specs.Shape.{at}
use Rattle.jac_query.proofs.Choosing.{field-last}
use Rattle.jac_query.proofs.field.read_field.Goals as goal

pub rows-preserved-in_ok-found : goal.rows-preserved-in_ok-found
rows-preserved-in_ok-found g c w =
    let u : c.rows.rest.now ≡ c.in-Some.before.now ++ c.in-Some.row.now ∷ [] = search rules in
    field-last w c.args.field c.args.absent.now c.in-Some.before.now c.rows.rest.now c.in-Some.row.now (at w c.rows.found) (at w c.in_ok-found.found) (at w c.leaf-cell.result)
    u (ap (at w) c.leaf-cell.ensures ∙ (c.in_ok-value-2.ensures ∙ c.cell.ensures)) (c.in_ok-found.ensures.at w)
    ∙ c.rows.invariant w

pub rows-preserved-in_ok-found-2 : goal.rows-preserved-in_ok-found-2
rows-preserved-in_ok-found-2 g c w =
    let u : c.rows.rest.now ≡ c.in-Some.before.now ++ c.in-Some.row.now ∷ [] = search rules in
    field-last w c.args.field c.args.absent.now c.in-Some.before.now c.rows.rest.now c.in-Some.row.now (at w c.rows.found) (at w c.in_ok-found.found) (at w c.leaf-cell.result)
    u (ap (at w) c.leaf-cell.ensures ∙ (c.in_ok-value-2.ensures ∙ c.cell.ensures)) (c.in_ok-found.ensures.at w)
    ∙ c.rows.invariant w
