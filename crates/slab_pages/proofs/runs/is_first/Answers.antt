use Rattle.std.proofs.Common.{arith}
use Rattle.slab_pages.proofs.PlaceLemmas.{descriptor-word}
use Rattle.slab_pages.proofs.runs.is_first.Goals as goal

pub prev-requires : goal.prev-requires
prev-requires c = omega (arith, c.offset_of-o.ensures, descriptor-word c.args.page)

pub next-requires : goal.next-requires
next-requires c = omega (arith, c.offset_of-o.ensures, descriptor-word c.args.page)
