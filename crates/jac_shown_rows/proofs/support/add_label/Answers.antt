use Rattle.jac_shown_rows.proofs.Growing.{grows_not, grows_with}
use Rattle.jac_shown_rows.proofs.support.add_label.Goals as goal

pub returns-in-Ok-clause-grows : goal.returns-in-Ok-clause-grows
returns-in-Ok-clause-grows c = grows_with _ _ c.args.label c.in-Ok.ensures.added

pub returns-in-Err-clause-grows : goal.returns-in-Err-clause-grows
returns-in-Err-clause-grows c = grows_not _ _ c.in-Err.ensures.kept
