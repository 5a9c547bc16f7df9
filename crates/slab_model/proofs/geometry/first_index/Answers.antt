use Rattle.std.proofs.Common.{arith}
use Rattle.slab_model.proofs.ClassLemmas.{cuts}
use Rattle.slab_model.proofs.geometry.first_index.Goals as goal

pub overflow_mul-class_size : goal.overflow_mul-class_size
overflow_mul-class_size c = let k = cuts c.args.shape c.args.class c.requires.class in omega (arith, k.small, c.class_size.ensures)

pub nonzero_div-blocks : goal.nonzero_div-blocks
nonzero_div-blocks c = let k = cuts c.args.shape c.args.class c.requires.class in omega (arith, k.some, c.class_size.ensures)
