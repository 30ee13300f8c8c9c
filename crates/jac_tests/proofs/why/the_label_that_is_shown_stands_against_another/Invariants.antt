use Rattle.jac_tests.proofs.why.the_label_that_is_shown_stands_against_another.Given as goal

abbrev pub ghosts-run_stands : goal.ghosts-run_stands
ghosts-run_stands g a = record { name = a.blank.name; parts = a.blank.parts }
