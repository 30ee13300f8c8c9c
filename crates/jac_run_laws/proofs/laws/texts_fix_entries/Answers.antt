use Rattle.jac_run_laws.proofs.SameEntries.{texts_fix_entries}
use Rattle.jac_run_laws.proofs.laws.texts_fix_entries.Goals as goal

pub returns : goal.returns
returns g c replay again one two app other sessions others events more first second out audit is is' small small' few few' =
    texts_fix_entries replay again one two app other sessions others events more first second out audit is is' small small' few few'
