use Rattle.jac_main_tests.proofs.database.is_link_served.Given as goal

abbrev pub ghosts-serves_and_finds-L-Ledger : goal.ghosts-serves_and_finds-L-Ledger
ghosts-serves_and_finds-L-Ledger a = record { name = a.blank.name; parts = a.blank.parts }

abbrev pub ghosts-serves_and_finds-M-Ledger : goal.ghosts-serves_and_finds-M-Ledger
ghosts-serves_and_finds-M-Ledger a = record { name = a.second.name; parts = a.second.parts }
