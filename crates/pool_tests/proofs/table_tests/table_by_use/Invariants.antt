use Rattle.pool_tests.proofs.table_tests.table_by_use.Given as goal

abbrev pub ghosts-all_steps : goal.ghosts-all_steps
ghosts-all_steps g a = record { name = a.blank.name; parts = a.blank.parts }
