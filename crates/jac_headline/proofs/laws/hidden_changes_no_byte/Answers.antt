use Rattle.jac_headline.proofs.SamePlace.{hidden_changes_nothing}
use Rattle.jac_headline.proofs.laws.hidden_changes_no_byte.Goals as goal

pub returns : goal.returns
returns g c words others replay again given one two ran ran' is is' held held' told told' =
    hidden_changes_nothing words others replay again given one two ran ran' is is' held held' told told'
