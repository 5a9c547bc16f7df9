use Rattle.std.proofs.Common.{◌≡◌, ◌+◌, ◌-◌, ap, arith, ◌∙◌}
use Rattle.slab_model.specs.Runs.{pages_from}
use Rattle.slab_pages.specs.Places.{slab_at, free_head}
use Rattle.slab_pages.proofs.PlaceLemmas.{descriptor-word}
use Rattle.slab_pages.proofs.UnlinkLemmas.{run_at, detached}
use Rattle.slab_pages.proofs.EdgeLemmas.{listed_in, sets_at}
use Rattle.slab_pages.proofs.runs.detach.Goals as goal

pub offset_of-o-requires : goal.offset_of-o-requires
offset_of-o-requires c = let w = c.requires in omega (arith, (listed_in w.0 _ w.1 c.args.first w.2 w.3).small)

pub slab-pages-requires : goal.slab-pages-requires
slab-pages-requires c = let w = c.requires in omega (arith, (listed_in w.0 _ w.1 c.args.first w.2 w.3).word, c.offset_of-o.ensures)

pub set_words-requires : goal.set_words-requires
set_words-requires c = let w = c.requires in omega (arith, (listed_in w.0 _ w.1 c.args.first w.2 w.3).word, c.offset_of-o.ensures, (c.unlink.ensures w.0 w.1 w.2 w.3).kept.same_length)

pub overflow_add-first : goal.overflow_add-first
overflow_add-first c =
    let w = c.requires in
    let is : c.slab-pages.result ≡ pages_from c.args.first w.1 = c.slab-pages.ensures ∙ ap (λ o. slab_at c.args.region.now o) c.offset_of-o.ensures ∙ (run_at w.0 c.args.region.now free_head w.1 c.args.first w.2.sound w.2.linked w.3).0 in
    omega (arith, is, (listed_in w.0 _ w.1 c.args.first w.2 w.3).small)

pub overflow_sub-first : goal.overflow_sub-first
overflow_sub-first c =
    let w = c.requires in
    let is : c.slab-pages.result ≡ pages_from c.args.first w.1 = c.slab-pages.ensures ∙ ap (λ o. slab_at c.args.region.now o) c.offset_of-o.ensures ∙ (run_at w.0 c.args.region.now free_head w.1 c.args.first w.2.sound w.2.linked w.3).0 in
    omega (arith, is, w.3)

pub offset_of-requires : goal.offset_of-requires
offset_of-requires c =
    let w = c.requires in
    let is : c.slab-pages.result ≡ pages_from c.args.first w.1 = c.slab-pages.ensures ∙ ap (λ o. slab_at c.args.region.now o) c.offset_of-o.ensures ∙ (run_at w.0 c.args.region.now free_head w.1 c.args.first w.2.sound w.2.linked w.3).0 in
    omega (arith, is, (listed_in w.0 _ w.1 c.args.first w.2 w.3).small)

pub set_words-requires-2 : goal.set_words-requires-2
set_words-requires-2 c =
    let w = c.requires in
    let is : c.slab-pages.result ≡ pages_from c.args.first w.1 = c.slab-pages.ensures ∙ ap (λ o. slab_at c.args.region.now o) c.offset_of-o.ensures ∙ (run_at w.0 c.args.region.now free_head w.1 c.args.first w.2.sound w.2.linked w.3).0 in
    omega (arith, is, w.3, (listed_in w.0 _ w.1 c.args.first w.2 w.3).room, c.offset_of.ensures, descriptor-word (c.args.first + c.slab-pages.result - 1), (c.unlink.ensures w.0 w.1 w.2 w.3).kept.same_length, c.set_words.ensures.same_length)

pub returns : goal.returns
returns c = λ count runs h some.
    let is : c.slab-pages.result ≡ pages_from c.args.first runs = c.slab-pages.ensures ∙ ap (λ o. slab_at c.args.region.now o) c.offset_of-o.ensures ∙ (run_at count c.args.region.now free_head runs c.args.first h.sound h.linked some).0 in
    detached count runs c.args.first c.slab-pages.result _ _ _ _ h some is (c.unlink.ensures count runs h some) (sets_at _ _ _ _ _ _ _ c.offset_of-o.ensures c.set_words.ensures) (sets_at _ _ _ _ _ _ _ c.offset_of.ensures c.set_words-2.ensures)
