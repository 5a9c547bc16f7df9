use Rattle.std.proofs.Common.{ℕ, ◌≡◌, ◌+◌, false, true, refl, sym, ap, subst, arith, ◌∙◌}
use Rattle.std.specs.Prelude.{IsTrue}
use Rattle.slab_pages.specs.Places.{slab_at}
use Rattle.slab_pages.proofs.PlaceLemmas.{descriptor-word}
use Rattle.slab_pages.proofs.WalkLemmas.{Passes, meet, pass_begins, pass_ends, pass_stops, pass_short}
use Rattle.slab_pages.proofs.checks.is_apart.Goals as goal

differ : IsTrue false → ⊥
differ e = cc

pub loop-step-init : goal.loop-step-init
loop-step-init c = λ count runs h. subst (λ (o : ℕ). Passes count c.args.first c.args.n 0 c.args.region.now o runs) (sym c.next-o.ensures) (pass_begins count c.args.first c.args.n c.args.region.now runs h)

pub returns-then-o-eq-FREE_HEAD : goal.returns-then-o-eq-FREE_HEAD
returns-then-o-eq-FREE_HEAD c = λ count runs h. (λ _. pass_ends count c.args.first c.args.n c.loop-step.step c.args.region.now c.loop-step.o runs (c.loop-step.invariant count runs h) c.if-o-eq-FREE_HEAD.true, λ _. refl)

pub page_of-requires : goal.page_of-requires
page_of-requires c =
    let w = c.requires.laid in
    let m = pass_stops w.0 c.args.first c.args.n c.loop-step.step c.args.region.now c.loop-step.o w.1 c.requires.some (c.loop-step.invariant w.0 w.1 w.2) c.if-o-eq-FREE_HEAD.false in
    (m.begin, m.at)

pub slab-requires : goal.slab-requires
slab-requires c =
    let w = c.requires.laid in
    let m = pass_stops w.0 c.args.first c.args.n c.loop-step.step c.args.region.now c.loop-step.o w.1 c.requires.some (c.loop-step.invariant w.0 w.1 w.2) c.if-o-eq-FREE_HEAD.false in
    omega (arith, m.at, m.low, w.2.room, descriptor-word m.begin)

pub returns-then-meets : goal.returns-then-meets
returns-then-meets c = λ count runs h.
    let m = pass_stops count c.args.first c.args.n c.loop-step.step c.args.region.now c.loop-step.o runs c.requires.some (c.loop-step.invariant count runs h) c.if-o-eq-FREE_HEAD.false in
    let is : meet c.args.first c.args.n m.begin (slab_at c.args.region.now c.loop-step.o) ≡ true = ap (λ k. meet c.args.first c.args.n k (slab_at c.args.region.now c.loop-step.o)) (sym (c.page_of.ensures m.begin m.at)) ∙ ap (λ k. meet c.args.first c.args.n c.page_of.result k) (sym c.slab.ensures) ∙ sym c.meets.ensures ∙ c.if-meets.true in
    (λ e. absurd (differ e), λ clear. absurd (m.inside is clear))

pub next-o-requires-in-loop-step : goal.next-o-requires-in-loop-step
next-o-requires-in-loop-step c =
    let w = c.requires.laid in
    let m = pass_stops w.0 c.args.first c.args.n c.loop-step.step c.args.region.now c.loop-step.o w.1 c.requires.some (c.loop-step.invariant w.0 w.1 w.2) c.if-o-eq-FREE_HEAD.false in
    omega (arith, m.at, m.low, w.2.room, descriptor-word m.begin)

pub loop-step-preserved : goal.loop-step-preserved
loop-step-preserved c = λ count runs h.
    let m = pass_stops count c.args.first c.args.n c.loop-step.step c.args.region.now c.loop-step.o runs c.requires.some (c.loop-step.invariant count runs h) c.if-o-eq-FREE_HEAD.false in
    let is : meet c.args.first c.args.n m.begin (slab_at c.args.region.now c.loop-step.o) ≡ false = ap (λ k. meet c.args.first c.args.n k (slab_at c.args.region.now c.loop-step.o)) (sym (c.page_of.ensures m.begin m.at)) ∙ ap (λ k. meet c.args.first c.args.n c.page_of.result k) (sym c.slab.ensures) ∙ sym c.meets.ensures ∙ c.if-meets.false in
    subst (λ (o : ℕ). Passes count c.args.first c.args.n (c.loop-step.step + 1) c.args.region.now o runs) (sym c.next-o-in-loop-step.ensures) (m.outside is)

pub unreachable-requires : goal.unreachable-requires
unreachable-requires c =
    let w = c.requires.laid in
    omega (arith, c.len-step-end.ensures, c.loop-step-test.false, pass_short w.0 c.args.first c.args.n c.loop-step.step c.args.region.now c.loop-step.o w.1 w.2 (c.loop-step.invariant w.0 w.1 w.2))
