use Rattle.std.proofs.Common.{◌*◌, ap, arith}
use Rattle.slab_model.specs.Inside.{slab_of}
use Rattle.slab_model.proofs.Bounds.{offsets}
use Rattle.slab_model.proofs.grants.block_at.Goals as goal

pub overflow_add-result : goal.overflow_add-result
overflow_add-result c = let h = offsets (slab_of c.args.parts.now) c.args.class c.args.page c.args.index c.requires.sound c.requires.class c.requires.page c.requires.index in omega (arith, h.1, c.start_offset.ensures, c.requires.page, ap (λ k. k * c.args.page) c.page_size.ensures)

pub overflow_mul-result-2 : goal.overflow_mul-result-2
overflow_mul-result-2 c = let h = offsets (slab_of c.args.parts.now) c.args.class c.args.page c.args.index c.requires.sound c.requires.class c.requires.page c.requires.index in rw c.class_size.ensures (omega (arith, h.0))

pub overflow_add-result-2 : goal.overflow_add-result-2
overflow_add-result-2 c = let h = offsets (slab_of c.args.parts.now) c.args.class c.args.page c.args.index c.requires.sound c.requires.class c.requires.page c.requires.index in rw c.class_size.ensures (omega (arith, h.0, h.1, c.start_offset.ensures, c.requires.page, ap (λ k. k * c.args.page) c.page_size.ensures))
