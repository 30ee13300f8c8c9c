use Rattle.jac_app_text_laws.proofs.OneSpelled.{one_spelled}
use Rattle.jac_app_text_laws.proofs.laws.one_application.Goals as goal

pub returns : goal.returns
returns c = one_spelled
