use Rattle.std.proofs.Common.{ap, arith, ◌∙◌}
use Rattle.slab_pages.specs.Shapes.{shape_in}
use Rattle.slab_pages.specs.Places.{descriptor, byte_of}
use Rattle.slab_pages.specs.Opening.{put_all}
use Rattle.slab_pages.proofs.PagesLemmas.{pages-room}
use Rattle.slab_pages.proofs.OpeningLemmas.{prepared, entries-equal}
use Rattle.slab_pages.proofs.opening.prepare.Goals as goal

pub offset_of-requires-2 : goal.offset_of-requires-2
offset_of-requires-2 c = let g = c.args.g.now in omega (arith, g.pages_are, (pages-room (shape_in g) g.limits).0)

pub returns : goal.returns
returns c =
    let g = c.args.g.now in
    prepared (shape_in g) c.args.region.now _ _ g.limits c.requires
    (c.put_words.ensures ∙ ap (λ es. put_all es c.args.region.now) (entries-equal (shape_in g) _ _ _ g.start c.offset_of.ensures (c.offset_of-2.ensures ∙ ap (λ k. descriptor k) g.pages_are) (c.byte_offset.ensures ∙ ap (λ k. byte_of k) c.stat_at.ensures) g.start_is)) c.write_heads.ensures
