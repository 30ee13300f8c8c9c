use Rattle.jac_engine.proofs.visit.show_view.Goals as goal

pub returns-clause-bounded : goal.returns-clause-bounded
returns-clause-bounded g c = λ told none. c.in_ok-labels.ensures.bounded (c.in_ok-page.ensures.told.back told) none
