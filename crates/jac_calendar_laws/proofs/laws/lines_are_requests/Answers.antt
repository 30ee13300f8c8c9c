use Rattle.jac_calendar_laws.proofs.AskingLemmas.{text_asking, text_short}
use Rattle.jac_calendar_laws.proofs.laws.lines_are_requests.Goals as goal

pub returns-clause-asking : goal.returns-clause-asking
returns-clause-asking c = text_asking

pub returns-clause-short : goal.returns-clause-short
returns-clause-short c = text_short
