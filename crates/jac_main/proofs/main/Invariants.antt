use Rattle.jac_main.proofs.main.Given as goal

abbrev pub ghosts-run_words-L-Ledger : goal.ghosts-run_words-L-Ledger
ghosts-run_words-L-Ledger a = record { name = a.blank.name; parts = a.blank.parts }

abbrev pub ghosts-run_words-M-Ledger : goal.ghosts-run_words-M-Ledger
ghosts-run_words-M-Ledger a = record { name = a.second.name; parts = a.second.parts }
