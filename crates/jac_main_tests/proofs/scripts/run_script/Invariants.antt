use Rattle.jac_main_tests.proofs.scripts.run_script.Given as goal

abbrev pub ghosts-run_over-L-Ledger : goal.ghosts-run_over-L-Ledger
ghosts-run_over-L-Ledger a = record { name = a.blank.name; parts = a.blank.parts }

abbrev pub ghosts-run_over-M-Ledger : goal.ghosts-run_over-M-Ledger
ghosts-run_over-M-Ledger a = record { name = a.second.name; parts = a.second.parts }
