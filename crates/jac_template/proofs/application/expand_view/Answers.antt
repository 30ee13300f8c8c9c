use Rattle.std.proofs.Common.{refl}
use Rattle.jac_lang.specs.Mirror.{page_of_view, statements_of}
use Rattle.jac_template.proofs.Templates.{expanded}
use Rattle.jac_template.proofs.application.expand_view.Goals as goal

pub returns-in-Ok-clause-view : goal.returns-in-Ok-clause-view
returns-in-Ok-clause-view c =
    let body = statements_of c.in_ok-body.body in
    let before = page_of_view c.args.view in (
      record before { body = body },
      (body, c.in_ok-body.ensures.body, refl),
      expanded _ _ c.in_ok-body.ensures.body,
      c.in-Ok.ensures,
    )
