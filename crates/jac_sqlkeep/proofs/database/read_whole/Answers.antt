use Rattle.jac_sqlkeep.proofs.Reopens.{reopens_whole, reopens_other}
use Rattle.jac_sqlkeep.proofs.database.read_whole.Goals as goal

pub returns-in_ok-test_stored-in-Ok-None-clause-read : goal.returns-in_ok-test_stored-in-Ok-None-clause-read
returns-in_ok-test_stored-in-Ok-None-clause-read g c =
    reopens_whole g.S.Store c.args.schema.now c.args.shape.now.kinds c.args.shape.now.nested c.args.conn.now c.test_key.new.conn c.find_schema.new.conn (g.met.S.Store.shut_if_dirty c.test_key.new.conn.store)
    (g.met.S.Store.shut_if_dirty c.find_schema.new.conn.store) c.requires.settled c.requires.live c.requires.form c.in_ok-test_key.ensures.shown c.test_stored.new.conn (g.met.S.Store.shut_if_dirty c.test_stored.new.conn.store)
    (rw c.in-Ok-None.field-0-is at c.in-Ok-None.ensures.found) c.in_ok-test_stored-in-Ok-None.ensures.shown

pub returns-in-Ok-Some-clause-read : goal.returns-in-Ok-Some-clause-read
returns-in-Ok-Some-clause-read g c =
    reopens_other g.S.Store c.args.schema.now c.args.shape.now.kinds c.args.shape.now.nested c.args.conn.now c.test_key.new.conn c.find_schema.new.conn (g.met.S.Store.shut_if_dirty c.test_key.new.conn.store)
    (g.met.S.Store.shut_if_dirty c.find_schema.new.conn.store) c.requires.settled c.requires.live c.requires.form c.in_ok-test_key.ensures.shown c.in-Ok-Some.stored (rw c.in-Ok-Some.field-0-is at c.in-Ok-Some.ensures.found) (rw c.in-Ok-Some.field-0-is at c.in-Ok-Some.ensures.other)
