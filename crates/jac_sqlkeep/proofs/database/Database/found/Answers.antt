use Rattle.std.proofs.Common.{length}
use Rattle.sqlite.specs.Held.{state}
use Rattle.jac_sql_spec.proofs.Kept.{founded_told}
use Rattle.jac_sql_spec.proofs.Lasting.{lasts_of}
use Rattle.jac_sql_spec.proofs.Stays.{clean_if_open}
use Rattle.jac_sqlkeep.proofs.Based.{begins_new, stood_by}
use Rattle.jac_sqlkeep.proofs.database.Database.found.Goals as goal

pub invariant_of-result : goal.invariant_of-result
invariant_of-result g c = (
  c.in-Ok.ensures.mode c.requires.outside,
  λ known. (founded_told g.S.Store c.args.schema.now (length c.args.shape.kinds) c.args.conn c.make_tables.new.conn tt c.requires.none (g.met.S.Store.shut_if_dirty c.make_tables.new.conn.store)
      (λ clean. c.in-Ok.ensures.ends clean c.requires.outside) c.in-Ok.ensures.transacts).0,
)

pub returns-in-Ok : goal.returns-in-Ok
returns-in-Ok g c =
    let law = g.met.S.Store.shut_if_dirty c.make_tables.new.conn.store in
    let it = founded_told g.S.Store c.args.schema.now (length c.args.shape.kinds) c.args.conn c.make_tables.new.conn tt c.requires.none law
    (λ clean. c.in-Ok.ensures.ends clean c.requires.outside) c.in-Ok.ensures.transacts in
    begins_new g.S.Store c.args.shape.kinds c.args.conn c.make_tables.new.conn c.args.schema.now c.args.shape.nested law (lasts_of (state g.S.Store c.args.conn) (state g.S.Store c.make_tables.new.conn) c.in-Ok.ensures.transacts.crash)
    c.requires.none (λ opened. (c.in-Ok.ensures.ends (clean_if_open (state g.S.Store c.make_tables.new.conn) law opened) c.requires.outside).was_open opened) it.0 it.1 it.2

pub returns-in-Err : goal.returns-in-Err
returns-in-Err g c =
    let law = g.met.S.Store.shut_if_dirty c.make_tables.new.conn.store in
    stood_by g.S.Store c.args.shape.kinds c.args.conn c.make_tables.new.conn c.untold.result c.untold.ensures (lasts_of (state g.S.Store c.args.conn) (state g.S.Store c.make_tables.new.conn) c.in-Err.ensures.transacts.crash)
    (λ opened. (c.in-Err.ensures.ends (clean_if_open (state g.S.Store c.make_tables.new.conn) law opened) c.requires.outside).was_open opened)
    (λ opened. (c.in-Err.ensures.transacts.none (clean_if_open (state g.S.Store c.make_tables.new.conn) law opened) opened).0)
    (λ opened. (c.in-Err.ensures.ends (clean_if_open (state g.S.Store c.make_tables.new.conn) law opened) c.requires.outside).settled opened)
