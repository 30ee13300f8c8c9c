use Rattle.std.proofs.Common.{◌≡◌, take}
use Rattle.jac_rows.proofs.plain.PlainTables.copy.Given as goal

abbrev pub invariant-tables : goal.invariant-tables
invariant-tables l = l.tables.items ≡ take l.table-index l.all
