use Rattle.std.proofs.Common.{ℕ, sym, subst, arith, refl}
use Rattle.slab_pages.specs.Places.{IsDescriptorOffset}
use Rattle.slab_pages.proofs.PlaceLemmas.{descriptor-word}
use Rattle.slab_pages.proofs.UnlinkLemmas.{node_place}
use Rattle.slab_pages.proofs.EdgeLemmas.{node_room, links_at}
use Rattle.slab_pages.proofs.AddLemmas.{first_node, added}
use Rattle.slab_pages.proofs.runs.add_run.Goals as goal

pub link-requires-clause-a_in : goal.link-requires-clause-a_in
link-requires-clause-a_in c = let w = c.requires in omega (arith, w.2.room, w.3.within, w.3.some, c.begin_run.ensures.same_length, c.offset_of-o.ensures, descriptor-word c.args.first)

pub link-requires-clause-b_is : goal.link-requires-clause-b_is
link-requires-clause-b_is c = let w = c.requires in subst (λ (o : ℕ). IsDescriptorOffset o) (sym c.next-head.ensures) (node_place _ _ (first_node c.args.region.now w.0 w.1 w.2.sound w.2.linked))

pub link-requires-clause-b_in : goal.link-requires-clause-b_in
link-requires-clause-b_in c = let w = c.requires in omega (arith, node_room w.0 _ w.1 _ w.2 (first_node c.args.region.now w.0 w.1 w.2.sound w.2.linked), c.next-head.ensures, c.begin_run.ensures.same_length)

pub link-requires-2-clause-b_in : goal.link-requires-2-clause-b_in
link-requires-2-clause-b_in c = let w = c.requires in omega (arith, w.2.room, w.3.within, w.3.some, c.begin_run.ensures.same_length, c.link.ensures.same_length, c.offset_of-o.ensures, descriptor-word c.args.first)

pub returns : goal.returns
returns c = λ count runs h clear. added count runs (record { first = c.args.first; pages = c.args.pages }) _ _ _ _ h clear c.begin_run.ensures (links_at _ _ _ _ _ _ c.offset_of-o.ensures c.next-head.ensures c.link.ensures) (links_at _ _ _ _ _ _ refl c.offset_of-o.ensures c.link-2.ensures)
