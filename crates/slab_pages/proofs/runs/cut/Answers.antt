use Rattle.std.proofs.Common.{◌≡◌, ◌≢◌, ◌<◌, sym, ap, arith, ◌∙◌}
use Rattle.slab_model.specs.Runs.{pages_from}
use Rattle.slab_pages.specs.Places.{slab_at, free_head}
use Rattle.slab_pages.proofs.UnlinkLemmas.{run_at}
use Rattle.slab_pages.proofs.EdgeLemmas.{listed_in}
use Rattle.slab_pages.proofs.CutLemmas.{first_fit-from, taken_whole}
use Rattle.slab_pages.proofs.runs.cut.Goals as goal

pub offset_of-requires : goal.offset_of-requires
offset_of-requires c = let w = c.requires.laid in let fit = first_fit-from w.0 c.args.n w.1 c.args.first c.requires.some w.2.sound w.3 in omega (arith, (listed_in w.0 _ w.1 c.args.first w.2 (omega (arith, fit, c.requires.some))).small)

pub slab-pages-requires : goal.slab-pages-requires
slab-pages-requires c = let w = c.requires.laid in let fit = first_fit-from w.0 c.args.n w.1 c.args.first c.requires.some w.2.sound w.3 in omega (arith, (listed_in w.0 _ w.1 c.args.first w.2 (omega (arith, fit, c.requires.some))).word, c.offset_of.ensures)

pub unlink-requires : goal.unlink-requires
unlink-requires c = let w = c.requires.laid in let fit = first_fit-from w.0 c.args.n w.1 c.args.first c.requires.some w.2.sound w.3 in (w.0, w.1, w.2, omega (arith, fit, c.requires.some))

pub shorten-requires-clause-laid : goal.shorten-requires-clause-laid
shorten-requires-clause-laid c =
    let w = c.requires.laid in
    let fit = first_fit-from w.0 c.args.n w.1 c.args.first c.requires.some w.2.sound w.3 in
    let is : c.slab-pages.result ≡ pages_from c.args.first w.1 = c.slab-pages.ensures ∙ ap (λ o. slab_at c.args.region.now o) c.offset_of.ensures ∙ (run_at w.0 c.args.region.now free_head w.1 c.args.first w.2.sound w.2.linked (omega (arith, fit, c.requires.some))).0 in
    let other : c.slab-pages.result ≢ c.args.n = c.if-pages-n.false in
    (w.0, w.1, w.2, w.3, is, omega (arith, fit, is, other))

pub returns-then-pages-n : goal.returns-then-pages-n
returns-then-pages-n c = λ count runs h found.
    let fit = first_fit-from count c.args.n runs c.args.first c.requires.some h.sound found in
    let some : 0 < pages_from c.args.first runs = omega (arith, fit, c.requires.some) in
    let is : c.slab-pages.result ≡ pages_from c.args.first runs = c.slab-pages.ensures ∙ ap (λ o. slab_at c.args.region.now o) c.offset_of.ensures ∙ (run_at count c.args.region.now free_head runs c.args.first h.sound h.linked some).0 in
    taken_whole count c.args.n c.args.first runs _ _ c.requires.some h.sound found (sym is ∙ c.if-pages-n.true) (c.unlink.ensures count runs h some)

pub returns-else-pages-n : goal.returns-else-pages-n
returns-else-pages-n c = λ count runs h found.
    let fit = first_fit-from count c.args.n runs c.args.first c.requires.some h.sound found in
    let some : 0 < pages_from c.args.first runs = omega (arith, fit, c.requires.some) in
    let is : c.slab-pages.result ≡ pages_from c.args.first runs = c.slab-pages.ensures ∙ ap (λ o. slab_at c.args.region.now o) c.offset_of.ensures ∙ (run_at count c.args.region.now free_head runs c.args.first h.sound h.linked some).0 in
    let other : c.slab-pages.result ≢ c.args.n = c.if-pages-n.false in
    c.shorten.ensures count runs h found is (omega (arith, fit, is, other))
