use Rattle.sqlite.specs.Values.{bound}
use Rattle.jac_sqlkeep.proofs.Steps.{one_ran}
use Rattle.jac_sqlkeep.proofs.step.run.Goals as goal

pub returns-clause-inside : goal.returns-clause-inside
returns-clause-inside g c =
    let ran = c.in_ok-execute.ensures in
    one_ran g.S.Store (record { text = c.args.text.now; params = bound c.args.params.now }) c.args.tx.now.conn.now c.execute.new.self.conn.now c.in_ok-execute.field-0 tt ran.ended ran.runs ran.survives
