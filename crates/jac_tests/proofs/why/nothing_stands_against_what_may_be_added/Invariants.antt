use Rattle.jac_tests.proofs.why.nothing_stands_against_what_may_be_added.Given as goal

abbrev pub ghosts-run_may_be_added : goal.ghosts-run_may_be_added
ghosts-run_may_be_added g a = record { name = a.blank.name; parts = a.blank.parts }
