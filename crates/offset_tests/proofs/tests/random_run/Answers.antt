use Rattle.offset_tests.proofs.GridLemmas.{cost_at, cost_of_colliding}
use Rattle.offset_tests.proofs.tests.random_run.Goals as goal

pub seek-requires-clause-most : goal.seek-requires-clause-most
seek-requires-clause-most g c = cost_at _ 64 _ 5 75 c.in_ok-keys.ensures.0 c.in_ok-keys.ensures.1 cost_of_colliding
