use Rattle.std.proofs.Common.{◌≡◌, length}
use Rattle.jac_sql_spec.specs.Statements.{replacements}
use Rattle.jac_sql_spec.specs.Telling.{CanAllBeSpelled}
use Rattle.jac_sqlkeep.proofs.Steps.{Halfway}
use Rattle.jac_sqlkeep.proofs.records.write_records.Given as goal

abbrev pub invariant-changed : goal.invariant-changed
invariant-changed g l = record {
  same : l.tx.conn.ghost_name ≡ l.fn.tx.conn.ghost_name;
  half : Halfway g.S.Store (replacements l.changed) (replacements l.rest) l.fn.tx.conn.now l.tx.conn.now;
  spelled : CanAllBeSpelled l.rest → CanAllBeSpelled l.changed;
}

abbrev pub decreases-changed : goal.decreases-changed
decreases-changed g l = length l.rest
