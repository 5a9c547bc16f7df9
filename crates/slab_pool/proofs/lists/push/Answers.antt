use Rattle.slab_pool.proofs.ListLemmas.{taken-room, taken-runs, first-node, pushed}
use Rattle.slab_pool.proofs.lists.push.Goals as goal

pub offset_of-o-requires : goal.offset_of-o-requires
offset_of-o-requires c = (taken-room _ _ c.requires.taken).0

pub link-requires-clause-to : goal.link-requires-clause-to
link-requires-clause-to c = let l = c.requires.list in first-node _ c.args.class l.0 _ _ l.1 c.head_of-head.ensures c.next-first.ensures

pub returns-clause-pushes : goal.returns-clause-pushes
returns-clause-pushes c = λ listed h out. pushed c.args.class c.args.page listed c.args.pages.now c.link.new.pages c.link-2.new.pages _ _ _ c.requires.known (taken-runs _ _ c.requires.taken) c.requires.taken c.head_of-head.ensures c.offset_of-o.ensures c.next-first.ensures c.link.ensures.runs.shape_is c.link.ensures.links c.link-2.ensures.links h out
