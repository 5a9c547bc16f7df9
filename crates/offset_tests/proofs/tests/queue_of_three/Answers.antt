use Rattle.std.proofs.Common.{refl, arith}
use Rattle.offset_tests.proofs.GridLemmas.{grid_queue}
use Rattle.offset_tests.proofs.tests.queue_of_three.Goals as goal

pub begin-requires : goal.begin-requires
begin-requires g c = grid_queue _ _ _ _ _ c.in_ok-blocks.ensures.grid (omega (arith, c.in_ok-counted.ensures)) c.request_tree-t.ensures.context refl
