use Rattle.zone_region.specs.Entries.{words_in}
use Rattle.offset_tests.specs.Grid.{HasTree}
use Rattle.offset_tests.proofs.tests.small_tree.Given as goal

abbrev pub invariant-loop-k : goal.invariant-loop-k
invariant-loop-k g l = HasTree (words_in l.blocks.blocks.entries) l.t l.keys
