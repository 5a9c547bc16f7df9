use Rattle.slab_pool.proofs.PoolLemmas.{opened-pool, opened-empty}
use Rattle.slab_pool.proofs.pool.Pool.open.Goals as goal

pub invariant_of-result : goal.invariant_of-result
invariant_of-result c = (_, opened-pool _ _ c.args.g.limits c.in_ok-open.ensures)

pub returns-clause-laid : goal.returns-clause-laid
returns-clause-laid c = opened-pool _ _ c.args.g.limits c.in_ok-open.ensures

pub returns-clause-empty : goal.returns-clause-empty
returns-clause-empty c = opened-empty _ _ c.args.g.limits c.in_ok-open.ensures
