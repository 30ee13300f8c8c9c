use Rattle.std.proofs.Common.{◌≡◌, false}
use Rattle.sqlite.specs.Held.{Held}
use Rattle.jac_sql_spec.specs.Reading.{Each, IsModelRow}
use Rattle.jac_sql_spec.specs.Statements.{SqlStatement}
use Rattle.jac_sql_spec.specs.Streams.{AreNone, Streams}
use Rattle.jac_sqlkeep.proofs.records.rows_shown.Given as goal

abbrev pub invariant-rows : goal.invariant-rows
invariant-rows g l =
    (l.showing.conn.ghost_name ≡ l.fn.showing.conn.ghost_name)
    × ((question : SqlStatement) (first : Held _) → Streams g.S.Store question AreNone first l.fn.showing.conn.now → Streams g.S.Store question (λ found. Each (IsModelRow l.model l.kinds) found l.made.items) first l.showing.conn.now)
    × (l.fn.showing.conn.now.in_transaction ≡ false → l.showing.conn.now.in_transaction ≡ false)
