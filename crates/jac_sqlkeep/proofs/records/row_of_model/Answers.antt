use Rattle.jac_sqlkeep.proofs.Read.{model_row}
use Rattle.jac_sqlkeep.proofs.records.row_of_model.Goals as goal

pub returns-in-Some : goal.returns-in-Some
returns-in-Some c =
    model_row c.args.model c.args.kinds.now c.args.values.now c.in_ok-jid.jid.now c.in-Some.id c.in_ok-jid.ensures c.in-Some.ensures.id c.row_in.result c.row_in.ensures
