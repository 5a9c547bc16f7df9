use Rattle.std.proofs.Common.{ℕ, ◌+◌, sym, ap, subst, arith, ◌∙◌, Some}
use Rattle.slab_pages.proofs.PlaceLemmas.{descriptor-word}
use Rattle.slab_pages.proofs.WalkLemmas.{Walks, walk_begins, walk_ends, walk_meets, walk_short}
use Rattle.slab_pages.proofs.runs.find_fit.Goals as goal

pub loop-step-init : goal.loop-step-init
loop-step-init c = λ count runs h. subst (λ (o : ℕ). Walks count c.args.n 0 c.args.region.now o runs) (sym c.next-o.ensures) (walk_begins count c.args.n c.args.region.now runs h)

pub returns-then-o-eq-FREE_HEAD : goal.returns-then-o-eq-FREE_HEAD
returns-then-o-eq-FREE_HEAD c = λ count runs h. sym (walk_ends count c.args.n c.loop-step.step c.args.region.now c.loop-step.o runs (c.loop-step.invariant count runs h) c.if-o-eq-FREE_HEAD.true)

pub slab-requires : goal.slab-requires
slab-requires c =
    let w = c.requires in
    let m = walk_meets w.0 c.args.n c.loop-step.step c.args.region.now c.loop-step.o w.1 (c.loop-step.invariant w.0 w.1 w.2) c.if-o-eq-FREE_HEAD.false in
    omega (arith, m.at, m.low, w.2.room, descriptor-word m.first)

pub page_of-requires : goal.page_of-requires
page_of-requires c =
    let w = c.requires in
    let m = walk_meets w.0 c.args.n c.loop-step.step c.args.region.now c.loop-step.o w.1 (c.loop-step.invariant w.0 w.1 w.2) c.if-o-eq-FREE_HEAD.false in
    (m.first, m.at)

pub returns-then-slab-n : goal.returns-then-slab-n
returns-then-slab-n c = λ count runs h.
    let m = walk_meets count c.args.n c.loop-step.step c.args.region.now c.loop-step.o runs (c.loop-step.invariant count runs h) c.if-o-eq-FREE_HEAD.false in
    ap (λ k. Some k) (c.page_of.ensures m.first m.at) ∙ sym (m.long (omega (arith, c.slab.ensures, c.if-slab-n.true)))

pub next-o-requires-in-loop-step : goal.next-o-requires-in-loop-step
next-o-requires-in-loop-step c =
    let w = c.requires in
    let m = walk_meets w.0 c.args.n c.loop-step.step c.args.region.now c.loop-step.o w.1 (c.loop-step.invariant w.0 w.1 w.2) c.if-o-eq-FREE_HEAD.false in
    omega (arith, m.at, m.low, w.2.room, descriptor-word m.first)

pub loop-step-preserved : goal.loop-step-preserved
loop-step-preserved c = λ count runs h.
    let m = walk_meets count c.args.n c.loop-step.step c.args.region.now c.loop-step.o runs (c.loop-step.invariant count runs h) c.if-o-eq-FREE_HEAD.false in
    subst (λ (o : ℕ). Walks count c.args.n (c.loop-step.step + 1) c.args.region.now o runs) (sym c.next-o-in-loop-step.ensures) (m.short (omega (arith, c.slab.ensures, c.if-slab-n.false)))

pub unreachable-requires : goal.unreachable-requires
unreachable-requires c =
    let w = c.requires in
    omega (arith, c.len-step-end.ensures, c.loop-step-test.false, walk_short w.0 c.args.n c.loop-step.step c.args.region.now c.loop-step.o w.1 w.2 (c.loop-step.invariant w.0 w.1 w.2))
