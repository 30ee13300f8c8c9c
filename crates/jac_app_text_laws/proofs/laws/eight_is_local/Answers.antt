use Rattle.jac_app_text_laws.proofs.Known.{eight_spelled_local}
use Rattle.jac_app_text_laws.proofs.laws.eight_is_local.Goals as goal

pub returns : goal.returns
returns c = eight_spelled_local
