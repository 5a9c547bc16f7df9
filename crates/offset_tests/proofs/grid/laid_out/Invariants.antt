use Rattle.zone_region.specs.Entries.{words_in}
use Rattle.offset_tests.specs.Grid.{IsGrid}
use Rattle.offset_tests.proofs.grid.laid_out.Given as goal

abbrev pub invariant-loop-k : goal.invariant-loop-k
invariant-loop-k l = IsGrid (words_in l.blocks.entries) l.t l.keys l.k
