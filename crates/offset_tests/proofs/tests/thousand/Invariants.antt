use Rattle.zone_region.specs.Entries.{words_in}
use Rattle.offset_tests.specs.Grid.{HasTree}
use Rattle.offset_tests.proofs.tests.thousand.Given as goal

abbrev pub invariant-loop-added : goal.invariant-loop-added
invariant-loop-added g l = HasTree (words_in l.blocks.blocks.entries) l.t l.keys

abbrev pub invariant-loop-half : goal.invariant-loop-half
invariant-loop-half g l = HasTree (words_in l.blocks.blocks.entries) l.t l.keys
