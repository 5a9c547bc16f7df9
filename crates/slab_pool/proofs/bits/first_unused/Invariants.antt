use Rattle.std.proofs.Common.{◌/◌, ◌≤◌}
use Rattle.slab_pool.proofs.BitSteps.{AllBefore}
use Rattle.slab_pool.proofs.bits.first_unused.Given as goal

abbrev pub invariant-loop-j : goal.invariant-loop-j
invariant-loop-j l = record { begins : l.from / 64 ≤ l.j; used : AllBefore l.pages.words l.pages.shape l.page l.class l.from l.j }
