use Rattle.std.proofs.Common.{arith}
use Rattle.slab_model.proofs.ClassLemmas.{zone}
use Rattle.slab_model.proofs.plain.fresh_parts.Goals as goal

pub free_pages-requires : goal.free_pages-requires
free_pages-requires c = let z = zone c.args.shape c.requires in omega (arith, z.many, c.page_count-count.ensures)
