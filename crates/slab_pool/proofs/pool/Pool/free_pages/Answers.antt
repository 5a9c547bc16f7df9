use Rattle.slab_pool.proofs.RunLemmas.{pool-unique}
use Rattle.slab_pool.proofs.pool.Pool.free_pages.Goals as goal

pub returns-clause-only : goal.returns-clause-only
returns-clause-only c = λ a b p q. pool-unique _ a b p q
