use Rattle.zone_region.specs.Entries.{words_in}
use Rattle.offset_tests.specs.Grid.{HasTree}
use Rattle.offset_tests.proofs.tests.random_run.Given as goal

abbrev pub invariant-loop-step : goal.invariant-loop-step
invariant-loop-step g l = HasTree (words_in l.blocks.blocks.entries) l.t l.keys
