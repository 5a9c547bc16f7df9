use Rattle.slab_pages.proofs.WriteLemmas.{link_to_head, link_to_page}
use Rattle.slab_pages.proofs.descriptors.link.Goals as goal

pub returns-then-b-ne-FREE_HEAD : goal.returns-then-b-ne-FREE_HEAD
returns-then-b-ne-FREE_HEAD c = link_to_page _ _ _ _ _ c.requires.a_in c.requires.b_in c.if-b-ne-FREE_HEAD.true c.requires.a_is c.requires.b_is c.store.ensures c.store-then-b-ne-FREE_HEAD.ensures

pub returns-else-b-ne-FREE_HEAD : goal.returns-else-b-ne-FREE_HEAD
returns-else-b-ne-FREE_HEAD c = link_to_head _ _ _ _ c.requires.a_in c.if-b-ne-FREE_HEAD.false c.requires.a_is c.store.ensures
