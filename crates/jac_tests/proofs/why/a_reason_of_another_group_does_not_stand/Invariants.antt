use Rattle.jac_tests.proofs.why.a_reason_of_another_group_does_not_stand.Given as goal

abbrev pub ghosts-run_misnamed : goal.ghosts-run_misnamed
ghosts-run_misnamed g a = record { name = a.blank.name; parts = a.blank.parts }
