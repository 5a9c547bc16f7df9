use Rattle.std.proofs.Common.{arith}
use Rattle.pool_tests.proofs.NodeLemmas.{holds_most}
use Rattle.pool_tests.proofs.tests.thousand.Goals as goal

pub seek-requires-clause-there : goal.seek-requires-clause-there
seek-requires-clause-there g c = holds_most _ _ _ 1000 c.loop-added.invariant (omega arith)

pub loop-half-init : goal.loop-half-init
loop-half-init g c = holds_most _ _ _ 1000 c.loop-added.invariant (omega arith)

pub loop-half-preserved : goal.loop-half-preserved
loop-half-preserved g c = c.take.ensures 1000 c.loop-half.invariant
