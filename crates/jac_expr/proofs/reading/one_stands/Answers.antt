use Rattle.std.proofs.Common.{rules, ◌≡◌, ◌∙◌, ap, sym, false, Some}
use Rattle.jac_value.specs.Ids.{model_of_id}
use Rattle.jac_value.specs.declared.value.Value.TheVariants as value
use Rattle.jac_rows.specs.Project.{rows_at, project_at}
use Rattle.jac_keep.specs.WorkState.{state_of}
use Rattle.jac_expr.specs.Leafed.{stood_by, stands_in}
use Rattle.jac_expr.proofs.Rows.{stands-shown}
use Rattle.jac_expr.proofs.reading.one_stands.Goals as goal

pub returns-in_ok-any_row-in-Ref-Some-clause-value : goal.returns-in_ok-any_row-in-Ref-Some-clause-value
returns-in_ok-any_row-in-Ref-Some-clause-value g c told w =
    let id = c.in-Ref-Some.id in
    let state = state_of g.K.Keeper.seen c.args.work.now in
    let reference : c.args.value.now ≡ value.Ref (Some id) = search rules in
    c.in_ok-any_row-in-Ref-Some.ensures w
    ∙ ap (λ rows. stood_by (value.Bool false) (rows_at w rows)) c.as_slice.ensures
    ∙ stands-shown w id (model_of_id id) state.tables c.in_ok-rows-in-Ref-Some.rows (c.in_ok-rows-in-Ref-Some.ensures.exact told)
    ∙ ap (λ v. value.Bool (stands_in (project_at w state).tables v)) (sym reference)
