use Rattle.std.proofs.Common.{subst, sym}
use Rattle.jac_shown_rows.specs.Own.{IsOwn}
use Rattle.jac_shown_rows.proofs.Growing.{grows_not}
use Rattle.jac_shown_rows.proofs.lookup.look_once.Goals as goal

pub returns-clause-grows : goal.returns-clause-grows
returns-clause-grows g c = grows_not _ _ c.keep_if_found.ensures

pub returns-clause-own : goal.returns-clause-own
returns-clause-own g c this own = subst (IsOwn this) (sym c.keep_if_found.ensures) own
