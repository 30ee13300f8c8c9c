use Rattle.std.proofs.Common.{IsTrue, length, sym, subst}
use Rattle.jac_keep.specs.ChangedState.{changed_state}
use Rattle.jac_keep.specs.Reshaping.{widened_state}
use Rattle.jac_keep.specs.Schema.{IsFit, shapes_by}
use Rattle.sqlite.specs.Held.{state}
use Rattle.jac_sql_spec.proofs.Lasting.{lasts_of}
use Rattle.jac_sql_spec.proofs.Stays.{clean_if_open}
use Rattle.jac_sqlkeep.specs.Based.{Based}
use Rattle.jac_sqlkeep.proofs.Based.{reshaped_told, reshapes_ok, reshapes_err, text_refused, goes_by}
use Rattle.jac_sqlkeep.proofs.database.Database.reshape.Goals as goal

pub invariant_of-self : goal.invariant_of-self
invariant_of-self g c = (
  c.write_change.ensures.mode c.self.invariant.0,
  λ known. (reshaped_told g.S.Store c.self.inside.shape.kinds c.args.shape.kinds c.args.shape.nested c.self.inside.conn c.write_change.new.conn c.args.change.now c.args.schema.now (g.met.S.Store.shut_if_dirty c.write_change.new.conn.store)
      (λ clean. c.write_change.ensures.ends clean c.self.invariant.0) c.self.inside.known c.self.invariant.1
      (subst (λ (v : Based). IsTrue v.tells → IsFit (shapes_by c.args.shape.kinds c.args.shape.nested) (widened_state (length c.args.shape.kinds) (changed_state c.args.change.now v.state))) (sym c.self.view_is) c.requires.fit)
      _ (rw c.as_slice-models.ensures at c.in-Ok.ensures.stored) c.in-Ok.ensures.transacts known).kept,
)

pub invariant_of-self-in-Err-1 : goal.invariant_of-self-in-Err-1
invariant_of-self-in-Err-1 g c = (
  c.write_change.ensures.mode c.self.invariant.0,
  λ known. (reshaped_told g.S.Store c.self.inside.shape.kinds c.args.shape.kinds c.args.shape.nested c.self.inside.conn c.write_change.new.conn c.args.change.now c.args.schema.now (g.met.S.Store.shut_if_dirty c.write_change.new.conn.store)
      (λ clean. c.write_change.ensures.ends clean c.self.invariant.0) c.self.inside.known c.self.invariant.1
      (subst (λ (v : Based). IsTrue v.tells → IsFit (shapes_by c.args.shape.kinds c.args.shape.nested) (widened_state (length c.args.shape.kinds) (changed_state c.args.change.now v.state))) (sym c.self.view_is) c.requires.fit)
      _ tt c.in-Err.ensures.transacts known).same,
)

pub returns-in-Ok-clause-reshapes : goal.returns-in-Ok-clause-reshapes
returns-in-Ok-clause-reshapes g c =
    rw (← c.self.view_is)
    (reshapes_ok g.S.Store c.self.inside.shape.kinds c.args.shape.kinds c.args.shape.nested c.self.inside.conn c.write_change.new.conn c.args.change.now c.args.schema.now c.self.inside.known
    (reshaped_told g.S.Store c.self.inside.shape.kinds c.args.shape.kinds c.args.shape.nested c.self.inside.conn c.write_change.new.conn c.args.change.now c.args.schema.now (g.met.S.Store.shut_if_dirty c.write_change.new.conn.store)
    (λ clean. c.write_change.ensures.ends clean c.self.invariant.0) c.self.inside.known c.self.invariant.1
    (subst (λ (v : Based). IsTrue v.tells → IsFit (shapes_by c.args.shape.kinds c.args.shape.nested) (widened_state (length c.args.shape.kinds) (changed_state c.args.change.now v.state))) (sym c.self.view_is) c.requires.fit)
    _ (rw c.as_slice-models.ensures at c.in-Ok.ensures.stored) c.in-Ok.ensures.transacts))

pub returns-in-Err-clause-reshapes : goal.returns-in-Err-clause-reshapes
returns-in-Err-clause-reshapes g c =
    rw (← c.self.view_is)
    (reshapes_err g.S.Store c.self.inside.shape.kinds c.args.shape.kinds c.args.shape.nested c.self.inside.conn c.write_change.new.conn c.args.change.now c.args.schema.now c.self.inside.known c.in-Err.error
    (reshaped_told g.S.Store c.self.inside.shape.kinds c.args.shape.kinds c.args.shape.nested c.self.inside.conn c.write_change.new.conn c.args.change.now c.args.schema.now (g.met.S.Store.shut_if_dirty c.write_change.new.conn.store)
    (λ clean. c.write_change.ensures.ends clean c.self.invariant.0) c.self.inside.known c.self.invariant.1
    (subst (λ (v : Based). IsTrue v.tells → IsFit (shapes_by c.args.shape.kinds c.args.shape.nested) (widened_state (length c.args.shape.kinds) (changed_state c.args.change.now v.state))) (sym c.self.view_is) c.requires.fit)
    _ tt c.in-Err.ensures.transacts))

pub returns-in-Ok-clause-goes : goal.returns-in-Ok-clause-goes
returns-in-Ok-clause-goes g c =
    rw (← c.self.view_is)
    (goes_by g.S.Store c.self.inside.shape.kinds c.args.shape.kinds c.self.inside.conn c.write_change.new.conn c.self.inside.known (lasts_of (state g.S.Store c.self.inside.conn) (state g.S.Store c.write_change.new.conn) c.in-Ok.ensures.transacts.crash)
    (λ opened. (c.in-Ok.ensures.ends (clean_if_open (state g.S.Store c.write_change.new.conn) (g.met.S.Store.shut_if_dirty c.write_change.new.conn.store) opened) c.self.invariant.0).was_open opened) (invariant_of-self g c).1)

pub returns-in-Err-clause-goes : goal.returns-in-Err-clause-goes
returns-in-Err-clause-goes g c =
    rw (← c.self.view_is)
    (goes_by g.S.Store c.self.inside.shape.kinds c.self.inside.shape.kinds c.self.inside.conn c.write_change.new.conn c.self.inside.known (lasts_of (state g.S.Store c.self.inside.conn) (state g.S.Store c.write_change.new.conn) c.in-Err.ensures.transacts.crash)
    (λ opened. (c.in-Err.ensures.ends (clean_if_open (state g.S.Store c.write_change.new.conn) (g.met.S.Store.shut_if_dirty c.write_change.new.conn.store) opened) c.self.invariant.0).was_open opened) (invariant_of-self-in-Err-1 g c).1)

pub returns-in-Err-clause-text : goal.returns-in-Err-clause-text
returns-in-Err-clause-text g c =
    rw (← c.self.view_is)
    (text_refused g.S.Store c.self.inside.shape.kinds c.self.inside.conn c.write_change.new.conn c.args.change.now (g.met.S.Store.shut_if_dirty c.write_change.new.conn.store)
    (λ clean. c.write_change.ensures.ends clean c.self.invariant.0) c.args.schema.now c.in-Err.error c.self.inside.known c.in-Err.ensures.transacts)
