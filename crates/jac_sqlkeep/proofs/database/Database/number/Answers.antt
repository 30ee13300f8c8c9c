use Rattle.jac_sqlkeep.proofs.Based.{reads_based, text_left, goes_by}
use Rattle.jac_sqlkeep.proofs.database.Database.number.Goals as goal

pub invariant_of-self : goal.invariant_of-self
invariant_of-self g c =
    (c.read_number.ensures.mode c.self.invariant.0, λ known. (c.read_number.ensures.told _ (c.self.invariant.1 known)).kept)

pub returns-clause-reads : goal.returns-clause-reads
returns-clause-reads g c =
    rw (← c.self.view_is)
    (reads_based g.S.Store c.self.inside.shape.kinds c.self.inside.conn c.read_number.new.conn _ c.read_number.result c.self.inside.known (λ known. c.read_number.ensures.told _ (c.self.invariant.1 known)))

pub returns-clause-goes : goal.returns-clause-goes
returns-clause-goes g c = rw (← c.self.view_is) (goes_by g.S.Store c.self.inside.shape.kinds c.self.inside.shape.kinds c.self.inside.conn c.read_number.new.conn c.self.inside.known c.read_number.ensures.lasts c.read_number.ensures.opens
    (λ known. (c.read_number.ensures.told _ (c.self.invariant.1 known)).kept))

pub returns-clause-text : goal.returns-clause-text
returns-clause-text g c =
    rw (← c.self.view_is) (text_left g.S.Store c.self.inside.shape.kinds c.self.inside.conn c.read_number.new.conn c.self.inside.known c.self.invariant.1 c.read_number.ensures.left)
