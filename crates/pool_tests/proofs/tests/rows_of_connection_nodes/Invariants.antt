use Rattle.pool_tests.proofs.tests.rows_of_connection_nodes.Given as goal

abbrev pub ghosts-thousand : goal.ghosts-thousand
ghosts-thousand g a = record { name = a.blank.name; parts = a.blank.parts }
