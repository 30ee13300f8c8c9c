use Rattle.std.proofs.Common.{rules}
use Rattle.jac_host_vault.proofs.Standing.{store_stands, opened_once, other_found}
use Rattle.jac_main.proofs.Promised.{promised}
use Rattle.jac_main.proofs.run_host.Goals as goal

pub returns-clause-promise : goal.returns-clause-promise
returns-clause-promise g c = promised _ _ _ c.requires.begins (search rules)

pub returns-clause-other : goal.returns-clause-other
returns-clause-other g c is =
    let kept = (returns-clause-promise g c).other_store is in
    record {
      stored = kept.stored;
      known = kept.known;
      found = λ some not_supposed. other_found _ _ kept.stored _ c.run-status.new.vault some c.stand.ensures kept.unattached kept.known not_supposed;
    }

pub returns-clause-stands : goal.returns-clause-stands
returns-clause-stands g c = store_stands _ c.run-status.new.vault c.rows_stand.ensures

pub returns-clause-once : goal.returns-clause-once
returns-clause-once g c = opened_once c.run-status.new.vault c.made_once.ensures c.rows_stand.ensures
