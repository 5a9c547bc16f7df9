use Rattle.std.proofs.Common.{[], ap, subst, ◌∙◌, arith}
use Rattle.slab_model.specs.declared.shape.Shape.{Shape}
use Rattle.slab_pages.specs.Places.{bitmap_words}
use Rattle.slab_pool.specs.Bits.{IsBitsWord, HasBits}
use Rattle.slab_pool.specs.PoolSteps.{ChangesBits, SetsBits}
use Rattle.slab_pool.proofs.ListLemmas.{keeps-then}
use Rattle.slab_pool.proofs.BitSteps.{changes-both, begun-more, begun-all}
use Rattle.slab_pool.proofs.bits.begin_bits.Goals as goal

pub loop-j-preserved : goal.loop-j-preserved
loop-j-preserved c =
    let i = c.loop-j.invariant in
    let shape = i.runs.shape_is in
    record {
      runs = keeps-then _ _ _ i.runs c.set_bits.ensures.runs;
      changes = changes-both _ c.args.class _ _ _ _ i.changes (subst (λ (s : Shape). ChangesBits s c.args.class c.args.page c.loop-j.pages.words c.set_bits.new.pages.words) shape c.set_bits.ensures.changes);
      begun = begun-more _ c.args.class _ c.loop-j.j _ _ _ (omega (arith, c.loop-j-test.true, c.bitmap_words-j-end.ensures, ap (λ (s : Shape). bitmap_words s c.args.class) shape)) i.begun
          (subst (λ (s : Shape). SetsBits s c.args.class c.args.page c.loop-j.j c.own_bits.result c.loop-j.pages.words c.set_bits.new.pages.words) shape c.set_bits.ensures.sets)
          (subst (λ (s : Shape). IsBitsWord s c.args.class c.loop-j.j [] c.own_bits.result) (c.shape_of.ensures.shape ∙ shape) c.own_bits.ensures.own);
    }

pub returns-clause-begun : goal.returns-clause-begun
returns-clause-begun c =
    let i = c.loop-j.invariant in
    subst (λ (s : Shape). HasBits c.loop-j.pages.words s c.args.page c.args.class []) c.begin_shift.ensures.runs.shape_is
    (begun-all _ c.args.class _ c.loop-j.j _ c.requires.known (omega (arith, c.loop-j-test.false, c.bitmap_words-j-end.ensures)) i.begun)
