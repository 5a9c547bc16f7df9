use Rattle.slab_model.specs.Inside.{slab_of}
use Rattle.slab_model.proofs.PlainLemmas.{few_free}
use Rattle.slab_model.proofs.plain.PlainSlab.free_pages.Goals as goal

pub page_total-requires : goal.page_total-requires
page_total-requires c = rw c.deref.ensures.value (few_free (slab_of c.self.inside.parts) c.self.invariant)
