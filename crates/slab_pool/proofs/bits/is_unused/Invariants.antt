use Rattle.slab_pool.proofs.BitSteps.{NoneBefore}
use Rattle.slab_pool.proofs.bits.is_unused.Given as goal

abbrev pub invariant-loop-j : goal.invariant-loop-j
invariant-loop-j l = NoneBefore l.pages.words l.pages.shape l.page l.class l.j
