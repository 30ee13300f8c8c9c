use Rattle.std.proofs.Common.{rules, ◌≡◌, ◌∙◌, refl, ap, pos, [], ◌∷◌}
use Rattle.jac_value.specs.declared.value.Value.{Value}
use Rattle.jac_value.specs.declared.value.Value.TheVariants as value
use Rattle.jac_value.specs.Values.{default_value}
use Rattle.jac_facet.specs.Shape.{at}
use Rattle.jac_facet.specs.Leaves.{leaves_seen}
use Rattle.jac_rows.specs.Project.{project_at}
use Rattle.jac_rows.specs.Tables.{rows_of}
use Rattle.jac_keep.specs.WorkState.{state_of}
use Rattle.jac_plain.specs.Shown.{world_at}
use Rattle.jac_plain.specs.World.{referred_record, cell_of, got}
use Rattle.jac_expr.specs.Leafed.{last_by}
use Rattle.jac_expr.proofs.Rows.{got-is}
use Rattle.jac_expr.proofs.reading.get.Goals as goal

pub returns-clause-value : goal.returns-clause-value
returns-clause-value g c told ctx w held =
    let state = state_of g.K.Keeper.seen c.args.work.now in
    let place = c.in-Some.place in
    let absent = c.default_of-absent.result in
    let cell = λ (v : Value). cell_of (referred_record v (rows_of (project_at w state).tables place.model)) place.field absent in
    let leaf : leaves_seen w c.in_ok-leaves.leaves ≡ at w c.args.value.now ∷ [] = rw held at (c.in_ok-leaves.ensures.seen w) in
    c.in_ok-read_leaves.ensures.value told w
    ∙ ap (λ ps. last_by cell absent (leaves_seen w ps)) c.as_slice.ensures
    ∙ ap (last_by cell absent) leaf
    ∙ got-is (world_at c.args.app.now ctx state w) c.args.model.now c.args.field.now place.model place.field absent (at w c.args.value.now)
    c.in-Some.ensures.placed.0 c.in-Some.ensures.placed.1 (c.default_of-absent.ensures ∙ ap default_value c.kind_of.ensures)

pub returns-in_default-clause-value : goal.returns-in_default-clause-value
returns-in_default-clause-value g c told ctx w held =
    let world = world_at c.args.app.now ctx (state_of g.K.Keeper.seen c.args.work.now) w in
    let zero : got world c.args.model.now c.args.field.now (at w c.args.value.now) ≡ value.Int (pos 0) =
    c.place_of.ensures.none (search rules) world (at w c.args.value.now) refl in
    search rules
