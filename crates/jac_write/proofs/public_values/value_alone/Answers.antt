use Rattle.std.proofs.Common.{◌∙◌, ap, [], Some, None}
use Rattle.jac_lang.specs.Mirror.{application_of, expression_of}
use Rattle.jac_world.specs.World.{shown_by}
use Rattle.jac_rows.specs.Project.{project_at}
use Rattle.jac_plain.specs.Expressions.{mean}
use Rattle.jac_write.proofs.public_values.value_alone.Goals as goal

pub returns-in-Ok : goal.returns-in-Ok
returns-in-Ok g c =
    c.in-Ok.ensures
    ∙ ap (λ ts. mean (record { models = (application_of c.args.app.now).models; this = Some c.args.id; viewer = None; tables = ts }) (expression_of c.args.e.now) [])
    (ap (λ k. (project_at (shown_by []) k.state).tables) c.attached-keeper.ensures ∙ c.in_ok-state.ensures.shown (shown_by []))
