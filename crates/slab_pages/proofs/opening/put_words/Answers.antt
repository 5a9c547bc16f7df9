use Rattle.std.proofs.Common.{ℕ, ◌≡◌, ◌+◌, suc, take, set, get_or, length, sym, ap, subst, arith, ◌∙◌}
use Rattle.slab_pages.specs.Places.{descriptor_word}
use Rattle.slab_pages.specs.Opening.{put_all}
use Rattle.slab_pages.proofs.OpeningLemmas.{length-put, below-at, put-next}
use Rattle.slab_pages.proofs.opening.put_words.Goals as goal

pub store-requires : goal.store-requires
store-requires c = omega (arith, below-at (descriptor_word 0) c.args.entries.now c.loop-w.w-index c.requires.within c.loop-w-test.true, ap (λ ws. length ws) c.loop-w.invariant, length-put (take c.loop-w.w-index c.args.entries.now) c.args.region.now)

pub loop-w-preserved : goal.loop-w-preserved
loop-w-preserved c =
    let es = c.args.entries.now in
    let i = c.loop-w.w-index in
    let step : suc i ≡ i + 1 = omega arith in
    let next : put_all (take (i + 1) es) c.args.region.now ≡ set (put_all (take i es) c.args.region.now) (get_or es i (0, 0)).0 (get_or es i (0, 0)).1 = subst (λ (k : ℕ). put_all (take k es) c.args.region.now ≡ set (put_all (take i es) c.args.region.now) (get_or es i (0, 0)).0 (get_or es i (0, 0)).1) step (put-next es c.args.region.now i c.loop-w-test.true) in
    c.store.ensures ∙ ap (λ ws. set ws (get_or es i (0, 0)).0 (get_or es i (0, 0)).1) c.loop-w.invariant ∙ sym next
