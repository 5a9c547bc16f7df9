use Rattle.offset_tests.proofs.tests.random_connection_nodes.Given as goal

abbrev pub ghosts-random_run : goal.ghosts-random_run
ghosts-random_run g a = record { name = a.blank.name; parts = a.blank.parts }
