use Rattle.offset_tests.proofs.tests.small_request_tree.Given as goal

abbrev pub ghosts-small_tree : goal.ghosts-small_tree
ghosts-small_tree g a = record { name = a.blank.name; parts = a.blank.parts }
