use Rattle.std.proofs.Common.{ℕ, ◌-◌, subst, arith}
use Rattle.slab_pages.specs.RunSteps.{FillsRun, SetsWords}
use Rattle.slab_pages.proofs.PlaceLemmas.{descriptor-word}
use Rattle.slab_pages.proofs.WriteLemmas.{fills_more}
use Rattle.slab_pages.proofs.descriptors.fill.Goals as goal

pub set_words-requires : goal.set_words-requires
set_words-requires c = omega (arith, c.offset_of.ensures, descriptor-word c.loop-page.page)

pub loop-page-preserved : goal.loop-page-preserved
loop-page-preserved c =
    let more = fills_more _ _ _ c.args.first (c.loop-page.page - c.args.first) c.args.slab c.loop-page.page (omega arith) c.loop-page.invariant (subst (λ (o : ℕ). SetsWords c.loop-page.region c.set_words.new.region o c.args.slab 0 0) c.offset_of.ensures c.set_words.ensures) in
    subst (λ (n : ℕ). FillsRun c.args.region.now c.set_words.new.region c.args.first n c.args.slab) (omega arith) more
