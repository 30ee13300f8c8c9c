use Rattle.jac_tests.proofs.facet.run_prune.Goals as goal

pub split-requires-clause-high : goal.split-requires-clause-high
split-requires-clause-high g c = c.int.ensures 1

pub split-requires-clause-low : goal.split-requires-clause-low
split-requires-clause-low g c = c.int-2.ensures 1
