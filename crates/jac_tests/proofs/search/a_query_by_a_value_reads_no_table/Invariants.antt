use Rattle.jac_tests.proofs.search.a_query_by_a_value_reads_no_table.Given as goal

abbrev pub ghosts-run_search : goal.ghosts-run_search
ghosts-run_search g a = record { name = a.blank.name; parts = a.blank.parts }
