use Rattle.jac_app_text_laws.proofs.EightOpens.{eight, eight_is}
use Rattle.jac_app_text_laws.proofs.laws.eight_opens.Goals as goal

pub returns : goal.returns
returns c = (eight, eight_is)
