use Rattle.std.proofs.Common.{subst, sym, ap, ◌∙◌}
use Rattle.slab_pages.specs.Places.{Image}
use Rattle.slab_pool.specs.Pool.{LaysPool}
use Rattle.slab_pool.specs.Live.{block_words}
use Rattle.slab_pool.proofs.PoolLemmas.{root-set_pool, root-set_words}
use Rattle.slab_pool.proofs.pool.Pool.set_root.Goals as goal

pub invariant_of-self : goal.invariant_of-self
invariant_of-self c = (c.self.invariant.0, root-set_pool _ _ _ _ _ _ c.self.invariant.1 c.set_word.ensures.set c.set_word-2.ensures.set)

pub returns-clause-laid : goal.returns-clause-laid
returns-clause-laid c = λ slab p. root-set_pool _ _ _ slab _ _ (subst (λ (i : Image). LaysPool i slab) (sym c.self.view_is) p) c.set_word.ensures.set c.set_word-2.ensures.set

pub returns-clause-words : goal.returns-clause-words
returns-clause-words c = λ at. root-set_words _ _ _ _ _ _ at c.self.invariant.1 c.set_word.ensures.set c.set_word-2.ensures.set ∙ ap (λ (i : Image). block_words i at) c.self.view_is
