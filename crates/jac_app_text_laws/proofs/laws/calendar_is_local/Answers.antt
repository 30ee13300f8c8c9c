use Rattle.jac_app_text_laws.proofs.Known.{spelled_local}
use Rattle.jac_app_text_laws.proofs.laws.calendar_is_local.Goals as goal

pub returns : goal.returns
returns c = spelled_local
