use Rattle.offset_tree.proofs.tree.Tree.remove.Given as goal

abbrev pub ghosts-remove_with : goal.ghosts-remove_with
ghosts-remove_with g a = record { name = a.blank.name; parts = a.blank.parts }
