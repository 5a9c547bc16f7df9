use Rattle.std.proofs.Common.{arith}
use Rattle.slab_model.proofs.ClassLemmas.{cuts}
use Rattle.slab_model.proofs.geometry.blocks_in_page.Goals as goal

pub nonzero_div-result : goal.nonzero_div-result
nonzero_div-result c = let k = cuts c.args.shape c.args.class c.requires.class in omega (arith, k.some, c.class_size.ensures)
