use Rattle.slab_pool.specs.PoolSteps.{KeepsRuns, ChangesBits}
use Rattle.slab_pool.proofs.BitSteps.{Begun}
use Rattle.slab_pool.proofs.bits.begin_bits.Given as goal

abbrev pub invariant-loop-j : goal.invariant-loop-j
invariant-loop-j l = record {
  runs : KeepsRuns l.initial.pages l.pages;
  changes : ChangesBits l.initial.pages.shape l.class l.page l.initial.pages.words l.pages.words;
  begun : Begun l.initial.pages.shape l.class l.page l.j l.pages.words;
}
