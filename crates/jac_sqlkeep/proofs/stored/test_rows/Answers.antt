use Rattle.std.proofs.Common.{ℤ, Vec, Global}
use Rattle.jac_keep.specs.Schema.{shapes_by}
use Rattle.jac_sql_spec.proofs.Streams.{all_through_leaves}
use Rattle.jac_sqlkeep.specs.Lines.{AreLinesRead}
use Rattle.jac_sqlkeep.proofs.Rows.{lines_apart}
use Rattle.jac_sqlkeep.proofs.stored.test_rows.Goals as goal

pub returns-clause-shown : goal.returns-clause-shown
returns-clause-shown g c clean =
    lines_apart (λ (v : Vec ℤ Global). v.items) g.S.Store (shapes_by c.args.shape.now.kinds c.args.shape.now.nested) c.args.number c.args.conn.now c.read_lines-rowids.new.conn c.read_lines-rowids.result c.test_rowids.result
    (c.read_lines-rowids.ensures.reads.shown clean) c.test_rowids.ensures.apart c.test_rowids.ensures.none

pub returns-clause-left : goal.returns-clause-left
returns-clause-left g c =
    all_through_leaves g.S.Store (λ found (rowids : Vec ℤ Global). AreLinesRead (shapes_by c.args.shape.now.kinds c.args.shape.now.nested) c.args.number found rowids.items) c.args.conn.now c.read_lines-rowids.new.conn c.read_lines-rowids.result
    (g.met.S.Store.shut_if_dirty c.read_lines-rowids.new.conn.store) c.read_lines-rowids.ensures.reads

pub returns-clause-lasts : goal.returns-clause-lasts
returns-clause-lasts g c = c.read_lines-rowids.ensures.reads.lasts
