use Rattle.std.proofs.Common.{ℕ, ◌+◌, ◌-◌, sym, ap, subst, arith, inr, ◌∙◌}
use Rattle.slab_pages.specs.Places.{next_at, prev_at, IsDescriptorOffset}
use Rattle.slab_pages.specs.RunSteps.{BeginsRun}
use Rattle.slab_pages.proofs.PlaceLemmas.{descriptor-word}
use Rattle.slab_pages.proofs.UnlinkLemmas.{node_place, node_before, node_after}
use Rattle.slab_pages.proofs.EdgeLemmas.{listed_in, node_room, links_at}
use Rattle.slab_pages.proofs.CutLemmas.{taken_front}
use Rattle.slab_pages.proofs.runs.shorten.Goals as goal

pub offset_of-o-requires : goal.offset_of-o-requires
offset_of-o-requires c = let w = c.requires.laid in omega (arith, (listed_in w.0 _ w.1 c.args.first w.2 (omega (arith, w.4, w.5))).small)

pub prev-before-requires : goal.prev-before-requires
prev-before-requires c = let w = c.requires.laid in omega (arith, (listed_in w.0 _ w.1 c.args.first w.2 (omega (arith, w.4, w.5))).word, c.offset_of-o.ensures)

pub next-after-requires : goal.next-after-requires
next-after-requires c = let w = c.requires.laid in omega (arith, (listed_in w.0 _ w.1 c.args.first w.2 (omega (arith, w.4, w.5))).word, c.offset_of-o.ensures)

pub overflow_add-first : goal.overflow_add-first
overflow_add-first c = let w = c.requires.laid in omega (arith, (listed_in w.0 _ w.1 c.args.first w.2 (omega (arith, w.4, w.5))).small, w.4, w.5)

pub offset_of-rest-requires : goal.offset_of-rest-requires
offset_of-rest-requires c = let w = c.requires.laid in omega (arith, (listed_in w.0 _ w.1 c.args.first w.2 (omega (arith, w.4, w.5))).small, w.4, w.5)

pub overflow_add-first-2 : goal.overflow_add-first-2
overflow_add-first-2 c = let w = c.requires.laid in omega (arith, (listed_in w.0 _ w.1 c.args.first w.2 (omega (arith, w.4, w.5))).small, w.4, w.5)

pub begin_run-requires-clause-small : goal.begin_run-requires-clause-small
begin_run-requires-clause-small c = let w = c.requires.laid in omega (arith, (listed_in w.0 _ w.1 c.args.first w.2 (omega (arith, w.4, w.5))).small, w.4, w.5)

pub begin_run-requires-clause-room : goal.begin_run-requires-clause-room
begin_run-requires-clause-room c = let w = c.requires.laid in omega (arith, (listed_in w.0 _ w.1 c.args.first w.2 (omega (arith, w.4, w.5))).room, w.4, w.5)

pub link-requires-clause-a_is : goal.link-requires-clause-a_is
link-requires-clause-a_is c = inr (c.args.first + c.args.n, c.offset_of-rest.ensures)

pub link-requires-clause-a_in : goal.link-requires-clause-a_in
link-requires-clause-a_in c = let w = c.requires.laid in omega (arith, (listed_in w.0 _ w.1 c.args.first w.2 (omega (arith, w.4, w.5))).room, w.4, w.5, c.begin_run.ensures.same_length, c.offset_of-rest.ensures, descriptor-word (c.args.first + c.args.n))

pub link-requires-clause-b_is : goal.link-requires-clause-b_is
link-requires-clause-b_is c = let w = c.requires.laid in subst (λ (o : ℕ). IsDescriptorOffset o) (sym (c.next-after.ensures ∙ ap (λ o. next_at c.args.region.now o) c.offset_of-o.ensures)) (node_place _ _ (node_after w.0 _ w.1 c.args.first w.2 (omega (arith, w.4, w.5))))

pub link-requires-clause-b_in : goal.link-requires-clause-b_in
link-requires-clause-b_in c = let w = c.requires.laid in omega (arith, node_room w.0 _ w.1 _ w.2 (node_after w.0 _ w.1 c.args.first w.2 (omega (arith, w.4, w.5))), c.next-after.ensures ∙ ap (λ o. next_at c.args.region.now o) c.offset_of-o.ensures, c.begin_run.ensures.same_length)

pub link-requires-2-clause-a_is : goal.link-requires-2-clause-a_is
link-requires-2-clause-a_is c = let w = c.requires.laid in subst (λ (o : ℕ). IsDescriptorOffset o) (sym (c.prev-before.ensures ∙ ap (λ o. prev_at c.args.region.now o) c.offset_of-o.ensures)) (node_place _ _ (node_before w.0 _ w.1 c.args.first w.2 (omega (arith, w.4, w.5))))

pub link-requires-2-clause-a_in : goal.link-requires-2-clause-a_in
link-requires-2-clause-a_in c = let w = c.requires.laid in omega (arith, node_room w.0 _ w.1 _ w.2 (node_before w.0 _ w.1 c.args.first w.2 (omega (arith, w.4, w.5))), c.prev-before.ensures ∙ ap (λ o. prev_at c.args.region.now o) c.offset_of-o.ensures, c.begin_run.ensures.same_length, c.link.ensures.same_length)

pub link-requires-2-clause-b_is : goal.link-requires-2-clause-b_is
link-requires-2-clause-b_is c = inr (c.args.first + c.args.n, c.offset_of-rest.ensures)

pub link-requires-2-clause-b_in : goal.link-requires-2-clause-b_in
link-requires-2-clause-b_in c = let w = c.requires.laid in omega (arith, (listed_in w.0 _ w.1 c.args.first w.2 (omega (arith, w.4, w.5))).room, w.4, w.5, c.begin_run.ensures.same_length, c.link.ensures.same_length, c.offset_of-rest.ensures, descriptor-word (c.args.first + c.args.n))

pub returns : goal.returns
returns c = λ count runs h found is less. taken_front count c.args.n c.args.first runs _ _ _ _ h c.requires.some found (omega (arith, is, less))
    (subst (λ (m : ℕ). BeginsRun c.args.region.now c.begin_run.new.region (record { first = c.args.first + c.args.n; pages = m - c.args.n })) is c.begin_run.ensures)
    (links_at _ _ _ _ _ _ c.offset_of-rest.ensures (c.next-after.ensures ∙ ap (λ o. next_at c.args.region.now o) c.offset_of-o.ensures) c.link.ensures)
    (links_at _ _ _ _ _ _ (c.prev-before.ensures ∙ ap (λ o. prev_at c.args.region.now o) c.offset_of-o.ensures) c.offset_of-rest.ensures c.link-2.ensures)
