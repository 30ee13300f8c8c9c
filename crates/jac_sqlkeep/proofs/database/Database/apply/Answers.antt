use Rattle.std.proofs.Common.{IsTrue, length, sym, subst}
use Rattle.jac_rows.specs.Good.{IsSound}
use Rattle.jac_keep.specs.ChangedState.{changed_state}
use Rattle.jac_sql_spec.proofs.Kept.{change_told}
use Rattle.sqlite.specs.Held.{state}
use Rattle.jac_sql_spec.proofs.Lasting.{lasts_of}
use Rattle.jac_sql_spec.proofs.Stays.{clean_if_open}
use Rattle.jac_sqlkeep.specs.Based.{Based}
use Rattle.jac_sqlkeep.proofs.Based.{applies_based, sound_before, text_applied, goes_by}
use Rattle.jac_sqlkeep.proofs.database.Database.apply.Goals as goal

pub invariant_of-self : goal.invariant_of-self
invariant_of-self g c = (
  c.write_change.ensures.mode c.self.invariant.0,
  λ known. (change_told g.S.Store (length c.self.inside.shape.kinds) c.self.inside.conn c.write_change.new.conn c.args.change.now (g.met.S.Store.shut_if_dirty c.write_change.new.conn.store)
      (λ clean. c.write_change.ensures.ends clean c.self.invariant.0) (c.self.invariant.1 known) c.write_change.result
      (sound_before g.S.Store c.self.inside.shape.kinds c.self.inside.conn c.args.change.now c.self.inside.known known (subst (λ (v : Based). IsTrue v.tells → IsSound (changed_state c.args.change.now v.state)) (sym c.self.view_is) c.requires.good))
      (rw c.as_slice-models.ensures at c.write_change.ensures.stored) c.write_change.ensures.transacts).kept,
)

pub returns-clause-applies : goal.returns-clause-applies
returns-clause-applies g c =
    rw (← c.self.view_is)
    (applies_based g.S.Store c.self.inside.shape.kinds c.self.inside.conn c.write_change.new.conn c.args.change.now c.write_change.result c.self.inside.known
    (λ known. change_told g.S.Store (length c.self.inside.shape.kinds) c.self.inside.conn c.write_change.new.conn c.args.change.now (g.met.S.Store.shut_if_dirty c.write_change.new.conn.store)
    (λ clean. c.write_change.ensures.ends clean c.self.invariant.0) (c.self.invariant.1 known) c.write_change.result
    (sound_before g.S.Store c.self.inside.shape.kinds c.self.inside.conn c.args.change.now c.self.inside.known known (subst (λ (v : Based). IsTrue v.tells → IsSound (changed_state c.args.change.now v.state)) (sym c.self.view_is) c.requires.good))
    (rw c.as_slice-models.ensures at c.write_change.ensures.stored) c.write_change.ensures.transacts))

pub returns-clause-goes : goal.returns-clause-goes
returns-clause-goes g c =
    rw (← c.self.view_is)
    (goes_by g.S.Store c.self.inside.shape.kinds c.self.inside.shape.kinds c.self.inside.conn c.write_change.new.conn c.self.inside.known (lasts_of (state g.S.Store c.self.inside.conn) (state g.S.Store c.write_change.new.conn) c.write_change.ensures.transacts.crash)
    (λ opened. (c.write_change.ensures.ends (clean_if_open (state g.S.Store c.write_change.new.conn) (g.met.S.Store.shut_if_dirty c.write_change.new.conn.store) opened) c.self.invariant.0).was_open opened) (invariant_of-self g c).1)

pub returns-clause-text : goal.returns-clause-text
returns-clause-text g c =
    rw (← c.self.view_is)
    (text_applied g.S.Store c.self.inside.shape.kinds c.self.inside.conn c.write_change.new.conn c.args.change.now (g.met.S.Store.shut_if_dirty c.write_change.new.conn.store)
    (λ clean. c.write_change.ensures.ends clean c.self.invariant.0) c.write_change.result c.self.inside.known c.self.invariant.1
    (rw c.as_slice-models.ensures at c.write_change.ensures.stored) c.write_change.ensures.transacts)
