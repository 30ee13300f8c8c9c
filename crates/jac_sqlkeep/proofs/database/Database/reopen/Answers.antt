use Rattle.sqlite.specs.Held.{state}
use Rattle.jac_sqlkeep.proofs.Based.{begins_again, stood_by, other_store}
use Rattle.jac_sqlkeep.proofs.database.Database.reopen.Goals as goal

pub invariant_of-result : goal.invariant_of-result
invariant_of-result g c = (c.in-Ok-None.ensures.mode c.requires.outside, λ known. (rw c.in-Ok-None.field-0-is at c.in-Ok-None.ensures.read).kept)

pub returns-in-Ok-None : goal.returns-in-Ok-None
returns-in-Ok-None g c =
    begins_again g.S.Store c.args.shape.kinds c.args.conn c.read_whole.new.conn c.args.schema.now c.args.shape.nested (g.met.S.Store.shut_if_dirty c.read_whole.new.conn.store) c.in-Ok-None.ensures.lasts c.requires.form c.in-Ok-None.ensures.left (rw c.in-Ok-None.field-0-is at c.in-Ok-None.ensures.read)

pub returns-in-Ok-Some : goal.returns-in-Ok-Some
returns-in-Ok-Some g c =
    let read = rw c.in-Ok-Some.field-0-is at c.in-Ok-Some.ensures.read in
    let left = c.in-Ok-Some.ensures.left in
    (read.0, other_store g.S.Store c.args.shape.kinds c.args.conn c.read_whole.new.conn c.untold.result c.in-Ok-Some.stored c.untold.ensures c.requires.form left read.1, stood_by g.S.Store c.args.shape.kinds c.args.conn c.read_whole.new.conn c.untold.result c.untold.ensures c.in-Ok-Some.ensures.lasts left.was_open left.same left.settled)

pub returns-in-Err : goal.returns-in-Err
returns-in-Err g c =
    let left = c.in-Err.ensures.left in
    stood_by g.S.Store c.args.shape.kinds c.args.conn c.read_whole.new.conn c.untold-in-Err.result c.untold-in-Err.ensures c.in-Err.ensures.lasts left.was_open left.same left.settled
