use Rattle.pool_tests.specs.Nodes.{HoldsTree}
use Rattle.pool_tests.proofs.tests.thousand.Given as goal

abbrev pub invariant-loop-added : goal.invariant-loop-added
invariant-loop-added g l = HoldsTree l.pool l.t l.added-counter

abbrev pub invariant-loop-half : goal.invariant-loop-half
invariant-loop-half g l = HoldsTree l.pool l.t 1000
