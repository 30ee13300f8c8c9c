use Rattle.std.proofs.Common.{◌≡◌, Err, sym, subst, rules}
use Rattle.sqlite.specs.Held.{Held, state}
use Rattle.sqlite.specs.State.{HasCleanDisk}
use Rattle.jac_sql_spec.specs.Statements.{founding}
use Rattle.jac_sql_spec.specs.Transaction.{Transacts, EndsCommitted}
use Rattle.jac_sqlkeep.proofs.Steps.{transacts_end, transacts_none, ends_end, ends_none}
use Rattle.jac_sqlkeep.proofs.meta.make_tables.Goals as goal

pub returns-in-Ok-clause-transacts : goal.returns-in-Ok-clause-transacts
returns-in-Ok-clause-transacts g c =
    let xs = founding c.args.schema.now in
    let end = c.commit.new.self.0 in
    let same : end ≡ c.conn-1.given.0 = search rules in
    subst (λ (h : Held g.row.S.Denot). Transacts {T = Unit {0}} g.S.Store xs c.args.conn.now h c.commit.result) same
    (transacts_end g.S.Store xs c.args.conn.now c.transaction-tx.result.conn.now c.found.new.tx.conn.now end tt c.commit.result c.transaction-tx.ensures.begun
    c.in-Ok.ensures.inside (c.is_autocommit.ensures.settled (search rules)) (λ clean. search rules) c.commit.ensures.err c.commit.ensures.survives)

pub returns-in-Err-clause-transacts : goal.returns-in-Err-clause-transacts
returns-in-Err-clause-transacts g c =
    let xs = founding c.args.schema.now in
    let end = c.rollback.new.self.0 in
    let same : end ≡ c.conn-in-Err-1.given.0 = search rules in
    subst (λ (h : Held g.row.S.Denot). Transacts {T = Unit {0}} g.S.Store xs c.args.conn.now h (Err c.in-Err.error)) same
    (transacts_none g.S.Store xs c.args.conn.now c.transaction-tx.result.conn.now c.found.new.tx.conn.now end c.in-Err.error c.transaction-tx.ensures.begun
    c.in-Err.ensures.inside (c.is_autocommit.ensures.settled (search rules)) c.rollback.ensures.undone c.rollback.ensures.survives)

pub returns-in-Ok-clause-ends : goal.returns-in-Ok-clause-ends
returns-in-Ok-clause-ends g c clean outside =
    let xs = founding c.args.schema.now in
    let end = c.commit.new.self.0 in
    let same : end ≡ c.conn-1.given.0 = search rules in
    let early = subst (λ (h : Held g.row.S.Denot). HasCleanDisk (state g.S.Store h)) (sym same) clean in
    subst (λ (h : Held g.row.S.Denot). EndsCommitted (state g.S.Store c.args.conn.now) (state g.S.Store h)) same
    (ends_end g.S.Store xs c.args.conn.now c.transaction-tx.result.conn.now c.found.new.tx.conn.now end tt c.commit.result c.transaction-tx.ensures.begun
    c.in-Ok.ensures.inside (λ clean. search rules) c.commit.ensures.err c.commit.ensures.survives early)

pub returns-in-Err-clause-ends : goal.returns-in-Err-clause-ends
returns-in-Err-clause-ends g c clean outside =
    let xs = founding c.args.schema.now in
    let end = c.rollback.new.self.0 in
    let same : end ≡ c.conn-in-Err-1.given.0 = search rules in
    let early = subst (λ (h : Held g.row.S.Denot). HasCleanDisk (state g.S.Store h)) (sym same) clean in
    subst (λ (h : Held g.row.S.Denot). EndsCommitted (state g.S.Store c.args.conn.now) (state g.S.Store h)) same
    (ends_none g.S.Store xs c.args.conn.now c.transaction-tx.result.conn.now c.found.new.tx.conn.now end c.in-Err.error c.transaction-tx.ensures.begun
    c.in-Err.ensures.inside c.rollback.ensures.undone c.rollback.ensures.survives early)
