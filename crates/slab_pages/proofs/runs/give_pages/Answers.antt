use Rattle.std.proofs.Common.{◌≡◌, ◌+◌, ◌-◌, get_or, ap, arith, inl, ◌∙◌}
use Rattle.slab_model.specs.declared.runs.Run.{Run}
use Rattle.slab_model.specs.Runs.{page_total, give_run}
use Rattle.slab_model.proofs.RunLemmas.{page_total-give, AreSound-give}
use Rattle.slab_pages.specs.Places.{pfree_word}
use Rattle.slab_pages.specs.RunSteps.{without_run}
use Rattle.slab_pages.proofs.GiveLemmas.{given_clear, given_after, given_before, uncovered_without, merges, given, page_total-le}
use Rattle.slab_pages.proofs.runs.give_pages.Goals as goal

pub detach_after-after-requires : goal.detach_after-after-requires
detach_after-after-requires c =
    let w = c.requires in
    (w.0, given_clear c.args.count c.args.first c.args.n w.0 _ _ w.1 w.2 c.fill.ensures, given_after c.args.count c.args.first c.args.n w.0 _ _ w.1 w.2 c.fill.ensures)

pub detach_before-before-requires : goal.detach_before-before-requires
detach_before-before-requires c =
    let w = c.requires in
    let d = c.detach_after-after.ensures w.0 (given_clear c.args.count c.args.first c.args.n w.0 _ _ w.1 w.2 c.fill.ensures) (given_after c.args.count c.args.first c.args.n w.0 _ _ w.1 w.2 c.fill.ensures) in
    (c.args.count, without_run (c.args.first + c.args.n) w.0, d.laid, given_before c.args.count c.args.first c.args.n w.0 _ _ _ _ w.1 w.2 c.fill.ensures d)

pub overflow_sub-first : goal.overflow_sub-first
overflow_sub-first c =
    let w = c.requires in
    let d = c.detach_after-after.ensures w.0 (given_clear c.args.count c.args.first c.args.n w.0 _ _ w.1 w.2 c.fill.ensures) (given_after c.args.count c.args.first c.args.n w.0 _ _ w.1 w.2 c.fill.ensures) in
    let e = c.detach_before-before.ensures c.args.count (without_run (c.args.first + c.args.n) w.0) d.laid (given_before c.args.count c.args.first c.args.n w.0 _ _ _ _ w.1 w.2 c.fill.ensures d) (uncovered_without w.0 (c.args.first + c.args.n) c.args.first (w.2.used c.args.first (omega arith) (omega (arith, w.2.some)))) in
    (merges c.args.count c.args.first c.args.n w.0 _ _ _ _ _ _ w.1 w.2 c.fill.ensures d e.0 e.1).low

pub overflow_add-before : goal.overflow_add-before
overflow_add-before c =
    let w = c.requires in
    let d = c.detach_after-after.ensures w.0 (given_clear c.args.count c.args.first c.args.n w.0 _ _ w.1 w.2 c.fill.ensures) (given_after c.args.count c.args.first c.args.n w.0 _ _ w.1 w.2 c.fill.ensures) in
    let e = c.detach_before-before.ensures c.args.count (without_run (c.args.first + c.args.n) w.0) d.laid (given_before c.args.count c.args.first c.args.n w.0 _ _ _ _ w.1 w.2 c.fill.ensures d) (uncovered_without w.0 (c.args.first + c.args.n) c.args.first (w.2.used c.args.first (omega arith) (omega (arith, w.2.some)))) in
    let m = merges c.args.count c.args.first c.args.n w.0 _ _ _ _ _ _ w.1 w.2 c.fill.ensures d e.0 e.1 in
    omega (arith, m.cleared.within, w.1.small)

pub overflow_add-before-2 : goal.overflow_add-before-2
overflow_add-before-2 c =
    let w = c.requires in
    let d = c.detach_after-after.ensures w.0 (given_clear c.args.count c.args.first c.args.n w.0 _ _ w.1 w.2 c.fill.ensures) (given_after c.args.count c.args.first c.args.n w.0 _ _ w.1 w.2 c.fill.ensures) in
    let e = c.detach_before-before.ensures c.args.count (without_run (c.args.first + c.args.n) w.0) d.laid (given_before c.args.count c.args.first c.args.n w.0 _ _ _ _ w.1 w.2 c.fill.ensures d) (uncovered_without w.0 (c.args.first + c.args.n) c.args.first (w.2.used c.args.first (omega arith) (omega (arith, w.2.some)))) in
    let m = merges c.args.count c.args.first c.args.n w.0 _ _ _ _ _ _ w.1 w.2 c.fill.ensures d e.0 e.1 in
    omega (arith, m.cleared.within, w.1.small)

pub add_run-requires : goal.add_run-requires
add_run-requires c =
    let w = c.requires in
    let d = c.detach_after-after.ensures w.0 (given_clear c.args.count c.args.first c.args.n w.0 _ _ w.1 w.2 c.fill.ensures) (given_after c.args.count c.args.first c.args.n w.0 _ _ w.1 w.2 c.fill.ensures) in
    let e = c.detach_before-before.ensures c.args.count (without_run (c.args.first + c.args.n) w.0) d.laid (given_before c.args.count c.args.first c.args.n w.0 _ _ _ _ w.1 w.2 c.fill.ensures d) (uncovered_without w.0 (c.args.first + c.args.n) c.args.first (w.2.used c.args.first (omega arith) (omega (arith, w.2.some)))) in
    let m = merges c.args.count c.args.first c.args.n w.0 _ _ _ _ _ _ w.1 w.2 c.fill.ensures d e.0 e.1 in
    (c.args.count, without_run (c.args.first - c.detach_before-before.result) (without_run (c.args.first + c.args.n) w.0), m.laid, m.cleared)

pub load-free-requires : goal.load-free-requires
load-free-requires c =
    let w = c.requires in
    let d = c.detach_after-after.ensures w.0 (given_clear c.args.count c.args.first c.args.n w.0 _ _ w.1 w.2 c.fill.ensures) (given_after c.args.count c.args.first c.args.n w.0 _ _ w.1 w.2 c.fill.ensures) in
    let e = c.detach_before-before.ensures c.args.count (without_run (c.args.first + c.args.n) w.0) d.laid (given_before c.args.count c.args.first c.args.n w.0 _ _ _ _ w.1 w.2 c.fill.ensures d) (uncovered_without w.0 (c.args.first + c.args.n) c.args.first (w.2.used c.args.first (omega arith) (omega (arith, w.2.some)))) in
    let m = merges c.args.count c.args.first c.args.n w.0 _ _ _ _ _ _ w.1 w.2 c.fill.ensures d e.0 e.1 in
    omega (arith, (c.add_run.ensures c.args.count _ m.laid m.cleared).laid.room)

pub overflow_add-free : goal.overflow_add-free
overflow_add-free c =
    let w = c.requires in
    let run : Run = record { first = c.args.first; pages = c.args.n } in
    let d = c.detach_after-after.ensures w.0 (given_clear c.args.count c.args.first c.args.n w.0 _ _ w.1 w.2 c.fill.ensures) (given_after c.args.count c.args.first c.args.n w.0 _ _ w.1 w.2 c.fill.ensures) in
    let e = c.detach_before-before.ensures c.args.count (without_run (c.args.first + c.args.n) w.0) d.laid (given_before c.args.count c.args.first c.args.n w.0 _ _ _ _ w.1 w.2 c.fill.ensures d) (uncovered_without w.0 (c.args.first + c.args.n) c.args.first (w.2.used c.args.first (omega arith) (omega (arith, w.2.some)))) in
    let m = merges c.args.count c.args.first c.args.n w.0 _ _ _ _ _ _ w.1 w.2 c.fill.ensures d e.0 e.1 in
    let is : c.load-free.result ≡ page_total w.0 = c.load-free.ensures ∙ (c.add_run.ensures c.args.count _ m.laid m.cleared).free ∙ e.1.free ∙ d.free ∙ c.fill.ensures.others pfree_word (inl (omega arith)) ∙ w.3 in
    omega (arith, is, page_total-give c.args.count run w.0 w.1.sound, page_total-le c.args.count (give_run run w.0) (AreSound-give c.args.count run w.0 w.2.some w.2.within w.2.used w.1.sound), w.1.small)

pub store-requires : goal.store-requires
store-requires c =
    let w = c.requires in
    let d = c.detach_after-after.ensures w.0 (given_clear c.args.count c.args.first c.args.n w.0 _ _ w.1 w.2 c.fill.ensures) (given_after c.args.count c.args.first c.args.n w.0 _ _ w.1 w.2 c.fill.ensures) in
    let e = c.detach_before-before.ensures c.args.count (without_run (c.args.first + c.args.n) w.0) d.laid (given_before c.args.count c.args.first c.args.n w.0 _ _ _ _ w.1 w.2 c.fill.ensures d) (uncovered_without w.0 (c.args.first + c.args.n) c.args.first (w.2.used c.args.first (omega arith) (omega (arith, w.2.some)))) in
    let m = merges c.args.count c.args.first c.args.n w.0 _ _ _ _ _ _ w.1 w.2 c.fill.ensures d e.0 e.1 in
    omega (arith, (c.add_run.ensures c.args.count _ m.laid m.cleared).laid.room)

pub returns : goal.returns
returns c = λ runs h used counted.
    let d = c.detach_after-after.ensures runs (given_clear c.args.count c.args.first c.args.n runs _ _ h used c.fill.ensures) (given_after c.args.count c.args.first c.args.n runs _ _ h used c.fill.ensures) in
    let e = c.detach_before-before.ensures c.args.count (without_run (c.args.first + c.args.n) runs) d.laid (given_before c.args.count c.args.first c.args.n runs _ _ _ _ h used c.fill.ensures d) (uncovered_without runs (c.args.first + c.args.n) c.args.first (used.used c.args.first (omega arith) (omega (arith, used.some)))) in
    let m = merges c.args.count c.args.first c.args.n runs _ _ _ _ _ _ h used c.fill.ensures d e.0 e.1 in
    let re = c.add_run.ensures c.args.count (without_run (c.args.first - c.detach_before-before.result) (without_run (c.args.first + c.args.n) runs)) m.laid m.cleared in
    let is : c.load-free.result ≡ get_or c.args.region.now pfree_word 0 = c.load-free.ensures ∙ re.free ∙ e.1.free ∙ d.free ∙ c.fill.ensures.others pfree_word (inl (omega arith)) in
    given c.args.count c.args.first c.args.n runs _ _ _ _ _ _ c.detach_after-after.result c.detach_before-before.result (c.load-free.result + c.args.n) h used c.fill.ensures d e.1 m re c.store.ensures (ap (λ k. k + c.args.n) is)
