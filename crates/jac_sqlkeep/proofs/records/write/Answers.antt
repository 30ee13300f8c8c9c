use Rattle.std.proofs.Common.{option_copied}
use Rattle.jac_sql_spec.specs.Statements.{replacements, settings}
use Rattle.jac_sqlkeep.proofs.Steps.{inside_then}
use Rattle.jac_sqlkeep.proofs.Read.{on_ok}
use Rattle.jac_sqlkeep.proofs.records.write.Goals as goal

pub returns-clause-inside : goal.returns-clause-inside
returns-clause-inside g c =
    let change = c.args.change.now in
    let written = rw c.as_slice.ensures.items at c.in_ok-write_records.ensures.inside in
    inside_then g.S.Store (replacements change.changed) (settings change.number (option_copied c.args.schema)) c.args.tx.now.conn.now c.write_records.new.tx.conn.now c.set_meta.new.tx.conn.now
    c.in_ok-write_records.field-0 c.set_meta.result written c.set_meta.ensures.inside

pub returns-clause-spelled : goal.returns-clause-spelled
returns-clause-spelled g c = on_ok c.set_meta.result (rw c.as_slice.ensures.items at c.in_ok-write_records.ensures.spelled)
