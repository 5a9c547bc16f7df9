use Rattle.std.proofs.Common.{arith}
use Rattle.slab_model.proofs.ClassLemmas.{cuts}
use Rattle.slab_pool.proofs.bits.bitmap_words.Goals as goal

pub overflow_add-result : goal.overflow_add-result
overflow_add-result c = omega (arith, c.blocks_in_page.ensures, (cuts c.shape_of.result c.args.class c.requires).many)
