use Rattle.offset_tests.specs.Line.{HasLine}
use Rattle.offset_tests.proofs.line.drain.Given as goal

abbrev pub invariant-loop : goal.invariant-loop
invariant-loop g l = HasLine (g.B.Blocks.words l.blocks) l.q
