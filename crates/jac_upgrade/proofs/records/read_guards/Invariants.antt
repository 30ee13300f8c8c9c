use Rattle.std.proofs.Common.{drop}
use Rattle.jac_upgrade.specs.Steps.{AreMet}
use Rattle.jac_upgrade.proofs.records.read_guards.Given as goal

abbrev pub invariant-rows : goal.invariant-rows
invariant-rows l = AreMet (drop l.row-index l.rows) → AreMet l.rows
