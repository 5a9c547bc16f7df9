use Rattle.std.specs.Prelude.{[]}
use Rattle.zone_region.specs.Entries.{words_in}
use Rattle.offset_tests.specs.Line.{IsLine}
use Rattle.offset_tests.proofs.tests.queue_of_three.Given as goal

abbrev pub invariant-loop-change : goal.invariant-loop-change
invariant-loop-change g l = IsLine (words_in l.blocks.entries) l.q []
