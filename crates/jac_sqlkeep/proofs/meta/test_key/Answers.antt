use Rattle.sqlite.specs.Held.{state}
use Rattle.jac_sql_spec.proofs.Lasting.{lasts_of, keys_leave}
use Rattle.jac_sql_spec.specs.Statements.{key_reading}
use Rattle.jac_sqlkeep.proofs.meta.test_key.Goals as goal

pub returns-clause-left : goal.returns-clause-left
unfolding key_reading
returns-clause-left g c =
    keys_leave (state g.S.Store c.args.conn.now) (state g.S.Store c.query_all-found.new.self) (g.met.S.Store.shut_if_dirty c.query_all-found.new.self.store) (λ v. v.items) c.query_all-found.result c.query_all-found.ensures.ok c.query_all-found.ensures.err

pub returns-clause-lasts : goal.returns-clause-lasts
returns-clause-lasts g c = lasts_of (state g.S.Store c.args.conn.now) (state g.S.Store c.query_all-found.new.self) c.query_all-found.ensures.survives
