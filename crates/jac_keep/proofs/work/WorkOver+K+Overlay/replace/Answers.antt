use Rattle.std.proofs.Common.{refl}
use Rattle.jac_keep.proofs.WorkLaws.{replaced}
use Rattle.jac_keep.proofs.AlteringLaws.{placed-renamed, placed-before, are_of}
use Rattle.jac_keep.proofs.work.WorkOver+K+Overlay.replace.Goals as goal

pub returns-clause-exact : goal.returns-clause-exact
returns-clause-exact g c = rw (c.in_ok-put.ensures.put, replaced c.args.id c.args.rows c.args.self.now.over (g.K.Keeper.seen c.args.self.now.keeper.now).state.tables c.in_ok-put.ensures.apart (are_of _ _ c.requires.own)) refl

pub returns-clause-told : goal.returns-clause-told
returns-clause-told g c = λ told. record { told = told.told; placed = rw c.in_ok-put.ensures.put (placed-renamed _ _ _ _ told.placed (c.requires.a_table told.told)) }

pub returns-clause-back : goal.returns-clause-back
returns-clause-back g c = λ told. record { told = told.told; placed = placed-before _ _ _ _ (rw c.in_ok-put.ensures.put at told.placed) }
