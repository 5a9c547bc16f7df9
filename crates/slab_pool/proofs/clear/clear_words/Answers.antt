use Rattle.std.proofs.Common.{arith}
use Rattle.slab_pool.proofs.PoolLemmas.{words-few, clears-may_set, clears-more, clears-none, clears-all}
use Rattle.slab_pool.proofs.clear.clear_words.Goals as goal

pub overflow_add-w-end : goal.overflow_add-w-end
overflow_add-w-end c = omega (arith, words-few _ _ _ _ c.requires.limits c.requires.laid.1 c.requires.within)

pub loop-w-init : goal.loop-w-init
loop-w-init c = record { laid = c.requires.laid; clears = clears-none _ _; low = omega arith }

pub set_word-requires : goal.set_word-requires
set_word-requires c = let i = c.loop-w.invariant in clears-may_set _ _ _ _ c.args.count _ i.laid.1 i.clears c.requires.behind i.low c.loop-w-test.true c.requires.within

pub loop-w-preserved : goal.loop-w-preserved
loop-w-preserved c = let i = c.loop-w.invariant in record {
  laid = (i.laid.0, c.set_word.ensures.laid i.laid.0 i.laid.1);
  clears = clears-more _ _ _ _ _ i.clears i.low (omega (arith, c.requires.within, i.clears.changes.same_length)) c.set_word.ensures.set;
  low = omega (arith, i.low);
}

pub returns : goal.returns
returns c = let i = c.loop-w.invariant in clears-all _ _ _ _ _ (omega (arith, i.low)) i.clears
