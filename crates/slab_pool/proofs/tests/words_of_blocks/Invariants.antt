use Rattle.slab_pool.proofs.tests.words_of_blocks.Given as goal

abbrev pub ghosts-named_blocks : goal.ghosts-named_blocks
ghosts-named_blocks g a = record { name = a.blank.name; parts = a.blank.parts }
