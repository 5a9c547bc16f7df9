use Rattle.slab_pool.proofs.ListLemmas.{taken-room}
use Rattle.slab_pool.proofs.bits.page_word.Goals as goal

pub page_offset-requires : goal.page_offset-requires
page_offset-requires c = (taken-room _ _ c.requires).0
