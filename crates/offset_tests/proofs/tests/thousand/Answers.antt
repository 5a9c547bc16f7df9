use Rattle.offset_tests.proofs.GridLemmas.{cost_at, cost_of_thousand}
use Rattle.offset_tests.proofs.tests.thousand.Goals as goal

pub seek-requires-clause-most : goal.seek-requires-clause-most
seek-requires-clause-most g c = cost_at _ 1000 _ 4 105 c.in_ok-keys.ensures.0 c.in_ok-keys.ensures.1 cost_of_thousand

pub seek-requires-in-loop-left-clause-most : goal.seek-requires-in-loop-left-clause-most
seek-requires-in-loop-left-clause-most g c = cost_at _ 1000 _ 4 105 c.in_ok-keys.ensures.0 c.in_ok-keys.ensures.1 cost_of_thousand
