use Rattle.std.proofs.Common.{ap, sym, ◌∙◌, length, arith}
use Rattle.slab_model.specs.Geometry.{first_index}
use Rattle.slab_model.specs.Blocks.{lowest_unused}
use Rattle.slab_model.proofs.ClassLemmas.{cuts}
use Rattle.slab_model.proofs.NumberLemmas.{first_gap, gap_step, gap_here, gap_end}
use Rattle.slab_model.proofs.StateLemmas.{lowest_gap, length_used}
use Rattle.slab_model.proofs.pages.lowest_unused.Goals as goal

pub loop-number-init : goal.loop-number-init
loop-number-init c =
    let list = c.as_slice-numbers.result.now in
    let first = c.first_index-index.ensures in
    let same = c.as_slice-numbers.ensures in
    (omega (arith, first), ap (λ k. first_gap k list) first ∙ ap (λ l. first_gap (first_index c.args.shape c.args.class) l) same ∙ lowest_gap c.args.shape c.args.class c.args.used.now c.requires.used ∙ ap (λ l. lowest_unused c.args.shape c.args.class l) (sym same))

pub loop-number-preserved : goal.loop-number-preserved
loop-number-preserved c =
    let at = c.loop-number.invariant in
    (omega (arith, at.0), sym (gap_step c.loop-number.number-index c.loop-number.index c.as_slice-numbers.result.now c.loop-number-test.true c.if-number-index.false) ∙ at.1)

pub returns-then-number-index : goal.returns-then-number-index
returns-then-number-index c =
    sym (gap_here c.loop-number.number-index c.loop-number.index c.as_slice-numbers.result.now c.loop-number-test.true c.if-number-index.true)
    ∙ c.loop-number.invariant.1
    ∙ ap (λ l. lowest_unused c.args.shape c.args.class l) c.as_slice-numbers.ensures

pub overflow_add-index : goal.overflow_add-index
overflow_add-index c =
    let k = cuts c.args.shape c.args.class c.requires.used.known in
    let few = length_used c.args.shape c.args.class c.args.used.now c.requires.used in
    omega (arith, c.loop-number.invariant.0, c.loop-number-test.true, ap (λ l. length l) c.as_slice-numbers.ensures, few, k.sum, k.many)

pub returns : goal.returns
returns c =
    sym (gap_end c.loop-number.number-index c.loop-number.index c.as_slice-numbers.result.now (omega (arith, c.loop-number-test.false)))
    ∙ c.loop-number.invariant.1
    ∙ ap (λ l. lowest_unused c.args.shape c.args.class l) c.as_slice-numbers.ensures
