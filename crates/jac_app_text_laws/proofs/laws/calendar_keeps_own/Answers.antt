use Rattle.jac_app_text_laws.proofs.Known.{spelled_own}
use Rattle.jac_app_text_laws.proofs.laws.calendar_keeps_own.Goals as goal

pub returns : goal.returns
returns c = spelled_own
