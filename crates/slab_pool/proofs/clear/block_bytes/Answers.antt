use Rattle.std.proofs.Common.{arith}
use Rattle.slab_pool.proofs.GrantLemmas.{pages_for-few}
use Rattle.slab_pool.proofs.clear.block_bytes.Goals as goal

pub overflow_mul-result : goal.overflow_mul-result
overflow_mul-result c = omega (arith, pages_for-few _ _ _ _ c.requires.small c.page_size.ensures c.pages_for.ensures)
