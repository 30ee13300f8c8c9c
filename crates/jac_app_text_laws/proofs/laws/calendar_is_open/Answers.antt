use Rattle.jac_app_text_laws.proofs.Known.{spelled_open}
use Rattle.jac_app_text_laws.proofs.laws.calendar_is_open.Goals as goal

pub returns : goal.returns
returns c = spelled_open
