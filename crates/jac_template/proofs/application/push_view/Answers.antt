use Rattle.std.proofs.Common.{◌∙◌, ap}
use Rattle.jac_lang.specs.Mirror.{pages_of}
use Rattle.jac_template.proofs.Bodies.{pages_of-push}
use Rattle.jac_template.proofs.application.push_view.Goals as goal

pub returns : goal.returns
returns c = ap pages_of c.in_ok-push.ensures.items ∙ pages_of-push c.args.out.now.items c.args.view
