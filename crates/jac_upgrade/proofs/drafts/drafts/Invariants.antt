use Rattle.std.proofs.Common.{◌≡◌, ◌++◌, map, drop}
use Rattle.jac_lang.specs.Mirror.{application_of}
use Rattle.jac_upgrade.specs.Steps.{drafted_row}
use Rattle.jac_upgrade.proofs.drafts.drafts.Given as goal

abbrev pub invariant-rows : goal.invariant-rows
invariant-rows l =
    let step = drafted_row (application_of l.old).models (application_of l.new).models l.model in
    l.drafts.items ++ map step (drop l.row-index l.rows) ≡ map step l.rows
