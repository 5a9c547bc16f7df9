use Rattle.std.proofs.Common.{arith}
use Rattle.slab_pool.proofs.ListLemmas.{taken-room}
use Rattle.slab_pool.proofs.BlockPlaces.{block-fits}
use Rattle.slab_pool.proofs.grants.block_at.Goals as goal

pub page_offset-requires : goal.page_offset-requires
page_offset-requires c = (taken-room _ _ c.requires.taken).0

pub overflow_mul-result : goal.overflow_mul-result
overflow_mul-result c = omega (arith, (block-fits _ _ c.args.class c.args.index _ _ c.requires.taken c.requires.known c.requires.low c.page_offset.ensures c.class_size.ensures).0)

pub overflow_add-result : goal.overflow_add-result
overflow_add-result c = omega (arith, (block-fits _ _ c.args.class c.args.index _ _ c.requires.taken c.requires.known c.requires.low c.page_offset.ensures c.class_size.ensures).1)
