use Rattle.std.proofs.Common.{ℕ, sym, ap, subst, arith, ◌∙◌}
use Rattle.slab_pages.specs.Places.{next_at, prev_at, IsDescriptorOffset}
use Rattle.slab_pages.proofs.UnlinkLemmas.{node_place, node_before, node_after, unlinked}
use Rattle.slab_pages.proofs.EdgeLemmas.{listed_in, node_room, links_at}
use Rattle.slab_pages.proofs.runs.unlink.Goals as goal

pub offset_of-o-requires : goal.offset_of-o-requires
offset_of-o-requires c = let w = c.requires in omega (arith, (listed_in w.0 _ w.1 c.args.first w.2 w.3).small)

pub prev-before-requires : goal.prev-before-requires
prev-before-requires c = let w = c.requires in omega (arith, (listed_in w.0 _ w.1 c.args.first w.2 w.3).word, c.offset_of-o.ensures)

pub next-after-requires : goal.next-after-requires
next-after-requires c = let w = c.requires in omega (arith, (listed_in w.0 _ w.1 c.args.first w.2 w.3).word, c.offset_of-o.ensures)

pub link-requires-clause-a_is : goal.link-requires-clause-a_is
link-requires-clause-a_is c = let w = c.requires in subst (λ (o : ℕ). IsDescriptorOffset o) (sym (c.prev-before.ensures ∙ ap (λ o. prev_at c.args.region.now o) c.offset_of-o.ensures)) (node_place _ _ (node_before w.0 _ w.1 c.args.first w.2 w.3))

pub link-requires-clause-a_in : goal.link-requires-clause-a_in
link-requires-clause-a_in c = let w = c.requires in omega (arith, node_room w.0 _ w.1 _ w.2 (node_before w.0 _ w.1 c.args.first w.2 w.3), c.prev-before.ensures ∙ ap (λ o. prev_at c.args.region.now o) c.offset_of-o.ensures)

pub link-requires-clause-b_is : goal.link-requires-clause-b_is
link-requires-clause-b_is c = let w = c.requires in subst (λ (o : ℕ). IsDescriptorOffset o) (sym (c.next-after.ensures ∙ ap (λ o. next_at c.args.region.now o) c.offset_of-o.ensures)) (node_place _ _ (node_after w.0 _ w.1 c.args.first w.2 w.3))

pub link-requires-clause-b_in : goal.link-requires-clause-b_in
link-requires-clause-b_in c = let w = c.requires in omega (arith, node_room w.0 _ w.1 _ w.2 (node_after w.0 _ w.1 c.args.first w.2 w.3), c.next-after.ensures ∙ ap (λ o. next_at c.args.region.now o) c.offset_of-o.ensures)

pub returns : goal.returns
returns c = λ count runs h some. unlinked count runs c.args.first _ _ h some
    (links_at _ _ _ _ _ _ (c.prev-before.ensures ∙ ap (λ o. prev_at c.args.region.now o) c.offset_of-o.ensures) (c.next-after.ensures ∙ ap (λ o. next_at c.args.region.now o) c.offset_of-o.ensures) c.link.ensures)
