use Rattle.jac_sqlkeep.proofs.Based.{tells_standing}
use Rattle.jac_sqlkeep.proofs.database.Database.rows_stand.Goals as goal

pub returns : goal.returns
returns g c = rw (← c.self.view_is) (tells_standing g.S.Store c.self.inside.shape.kinds c.self.inside.conn c.self.inside.known c.self.invariant.1)
