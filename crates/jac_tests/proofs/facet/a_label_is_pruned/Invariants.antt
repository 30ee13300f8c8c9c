use Rattle.jac_tests.proofs.facet.a_label_is_pruned.Given as goal

abbrev pub ghosts-run_prune : goal.ghosts-run_prune
ghosts-run_prune g a = record { name = a.blank.name; parts = a.blank.parts }
