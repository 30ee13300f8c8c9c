use Rattle.std.proofs.Common.{rules, ◌≡◌, ◌∙◌, ap, sym, Some}
use Rattle.jac_value.specs.declared.value.Value.TheVariants as value
use Rattle.jac_rows.specs.Project.{rows_at, project_at}
use Rattle.jac_rows.specs.Tables.{rows_of}
use Rattle.jac_keep.specs.WorkState.{state_of}
use Rattle.jac_query.specs.Field.{field_of}
use Rattle.jac_plain.specs.World.{cell_of, referred_record}
use Rattle.jac_expr.proofs.Rows.{field-shown}
use Rattle.jac_expr.proofs.reading.read_one.Goals as goal

pub returns-in_ok-read_field-in-Ref-Some-clause-value : goal.returns-in_ok-read_field-in-Ref-Some-clause-value
returns-in_ok-read_field-in-Ref-Some-clause-value g c told w =
    let state = state_of g.K.Keeper.seen c.args.work.now in
    let reference : c.args.value.now ≡ value.Ref (Some c.in-Ref-Some.id) = search rules in
    c.in_ok-read_field-in-Ref-Some.ensures w
    ∙ ap (λ rows. field_of c.args.place.field c.args.absent.now (rows_at w rows)) c.as_slice.ensures
    ∙ field-shown w c.in-Ref-Some.id c.args.place.model c.args.place.field c.args.absent.now state.tables c.in_ok-rows-in-Ref-Some.rows (c.in_ok-rows-in-Ref-Some.ensures.rows told)
    ∙ ap (λ v. cell_of (referred_record v (rows_of (project_at w state).tables c.args.place.model)) c.args.place.field c.args.absent.now) (sym reference)
