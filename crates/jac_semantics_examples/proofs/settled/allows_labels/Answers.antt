use Rattle.std.proofs.Common.{◌≡◌, refl, true, false}
use Rattle.jac_semantics_examples.proofs.settled.allows_labels.Goals as goal

pub returns-clause-title_for_guest : goal.returns-clause-title_for_guest
returns-clause-title_for_guest c all = let e : false ≡ true = all 65552 refl in cc

pub returns-clause-behind_another : goal.returns-clause-behind_another
returns-clause-behind_another c all = let e : false ≡ true = all 65552 refl in cc

pub returns-clause-forbidden : goal.returns-clause-forbidden
returns-clause-forbidden c = record { label = 65552; is_shown = refl; forbidden = refl }
