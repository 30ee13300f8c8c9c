use Rattle.jac_keep.specs.Schema.{shapes_by}
use Rattle.jac_sqlkeep.proofs.Rows.{stored_on_ok}
use Rattle.jac_sqlkeep.proofs.stored.test_stored.Goals as goal

pub returns-clause-shown : goal.returns-clause-shown
returns-clause-shown g c clean =
    stored_on_ok g.S.Store (shapes_by c.args.shape.now.kinds c.args.shape.now.nested) c.in-Ok.number c.args.conn.now c.read_number.new.conn c.test_rows.new.conn
    (g.met.S.Store.shut_if_dirty c.read_number.new.conn.store) c.in-Ok.ensures.stored c.test_rows.result c.test_rows.ensures.shown clean
