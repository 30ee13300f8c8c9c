use Rattle.std.proofs.Common.{◌≡◌, drop}
use Rattle.std.specs.List.{AllByRecursion}
use Rattle.jac_row_codec.specs.Faults.{CanBeSpelled}
use Rattle.jac_sql_spec.specs.Statements.{replacement, additions}
use Rattle.jac_sqlkeep.proofs.Steps.{Halfway}
use Rattle.jac_sqlkeep.proofs.records.write_record.Given as goal

abbrev pub invariant-rows : goal.invariant-rows
invariant-rows g l = record {
  same : l.tx.conn.ghost_name ≡ l.fn.tx.conn.ghost_name;
  listed : l.rows ≡ l.alteration.rows;
  half : Halfway g.S.Store (replacement l.alteration) (additions l.alt (drop l.alt l.rows)) l.fn.tx.conn.now l.tx.conn.now;
  spelled : AllByRecursion CanBeSpelled (drop l.alt l.rows) → AllByRecursion CanBeSpelled l.rows;
}
