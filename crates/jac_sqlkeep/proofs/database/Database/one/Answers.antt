use Rattle.std.proofs.Common.{sym, ap, ◌∙◌, slice_get}
use Rattle.sqlite.specs.Held.{state}
use Rattle.jac_sql_spec.proofs.Lasting.{lasts_same}
use Rattle.jac_sqlkeep.proofs.Based.{no_alternatives, text_same, text_left, goes_by}
use Rattle.jac_sqlkeep.specs.Based.{based_keeper}
use Rattle.jac_sqlkeep.proofs.database.Database.one.Goals as goal

pub returns-in-None-clause-reads : goal.returns-in-None-clause-reads
returns-in-None-clause-reads g c =
    rw (← c.self.view_is, c.empty.ensures)
    (no_alternatives g.S.Store c.self.inside.shape.kinds c.self.inside.conn c.args.id c.self.inside.known c.self.invariant.1 (ap (slice_get c.self.inside.shape.kinds) (sym c.id_model.ensures) ∙ sym c.in-None.ensures))

pub returns-in-None-clause-goes : goal.returns-in-None-clause-goes
returns-in-None-clause-goes g c = rw (← c.self.view_is) (goes_by g.S.Store c.self.inside.shape.kinds c.self.inside.shape.kinds c.self.inside.conn c.self.inside.conn c.self.inside.known (lasts_same (state g.S.Store c.self.inside.conn)) (λ opened. opened) c.self.invariant.1)

pub returns-in-Some-clause-goes : goal.returns-in-Some-clause-goes
returns-in-Some-clause-goes g c = rw (← c.self.view_is) (goes_by g.S.Store c.self.inside.shape.kinds c.self.inside.shape.kinds c.self.inside.conn c.read_record.new.conn c.self.inside.known c.read_record.ensures.lasts c.read_record.ensures.opens
    (λ known. (c.read_record.ensures.told _ (c.self.invariant.1 known)).kept))

pub returns-in-None-clause-text : goal.returns-in-None-clause-text
returns-in-None-clause-text g c = rw (← c.self.view_is) (text_same (based_keeper g.S.Store c.self.inside.shape.kinds c.self.inside.known c.self.inside.conn))

pub returns-in-Some-clause-text : goal.returns-in-Some-clause-text
returns-in-Some-clause-text g c =
    rw (← c.self.view_is) (text_left g.S.Store c.self.inside.shape.kinds c.self.inside.conn c.read_record.new.conn c.self.inside.known c.self.invariant.1 c.read_record.ensures.left)
