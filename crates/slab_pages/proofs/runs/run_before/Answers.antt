use Rattle.std.proofs.Common.{◌≡◌, ◌-◌, ◌%◌, sym, ap, arith, ◌∙◌}
use Rattle.slab_model.specs.Runs.{pages_before}
use Rattle.slab_pages.specs.Places.{descriptor, next_at, prev_at}
use Rattle.slab_pages.specs.RunSteps.{start_at}
use Rattle.slab_pages.proofs.EdgeLemmas.{before_in, before_type, before_start, before_loose, before_linked}
use Rattle.slab_pages.proofs.runs.run_before.Goals as goal

pub overflow_sub-page : goal.overflow_sub-page
overflow_sub-page c = let w = c.requires in omega (arith, (before_in w.0 _ w.1 c.args.page w.2 w.3).0)

pub offset_of-last-requires : goal.offset_of-last-requires
offset_of-last-requires c = let w = c.requires in omega (arith, (before_in w.0 _ w.1 c.args.page w.2 w.3).1)

pub prev-requires : goal.prev-requires
prev-requires c = let w = c.requires in omega (arith, (before_in w.0 _ w.1 c.args.page w.2 w.3).2, c.offset_of-last.ensures)

pub returns-then-prev-ne0 : goal.returns-then-prev-ne0
returns-then-prev-ne0 c = λ count runs h before. before_type count _ runs c.args.page h (λ e. c.if-prev-ne0.true (ap (λ x. x % 4) (c.prev.ensures ∙ ap (λ o. prev_at c.args.region.now o) c.offset_of-last.ensures) ∙ e))

pub start_of_run-first-requires : goal.start_of_run-first-requires
start_of_run-first-requires c = let w = c.requires in omega (arith, (before_in w.0 _ w.1 c.args.page w.2 w.3).2, c.offset_of-last.ensures)

pub next-requires : goal.next-requires
next-requires c =
    let w = c.requires in
    let zero : prev_at c.args.region.now (descriptor (c.args.page - 1)) % 4 ≡ 0 = sym (ap (λ x. x % 4) (c.prev.ensures ∙ ap (λ o. prev_at c.args.region.now o) c.offset_of-last.ensures)) ∙ c.if-prev-ne0.false in
    let at : c.start_of_run-first.result ≡ start_at c.args.region.now (descriptor (c.args.page - 1)) = c.start_of_run-first.ensures ∙ ap (λ o. start_at c.args.region.now o) c.offset_of-last.ensures in
    let s = before_start w.0 _ w.1 c.args.page w.2 w.3 zero in
    let there : c.start_of_run-first.result ≡ descriptor s.0 = at ∙ s.1 in
    omega (arith, s.2, there)

pub returns-then-next-eq0 : goal.returns-then-next-eq0
returns-then-next-eq0 c = λ count runs h before.
    let at : c.start_of_run-first.result ≡ start_at c.args.region.now (descriptor (c.args.page - 1)) = c.start_of_run-first.ensures ∙ ap (λ o. start_at c.args.region.now o) c.offset_of-last.ensures in
    before_loose count _ runs c.args.page h (ap (λ o. next_at c.args.region.now o) (sym at) ∙ sym c.next.ensures ∙ c.if-next-eq0.true)

pub page_of-requires : goal.page_of-requires
page_of-requires c =
    let w = c.requires in
    let zero : prev_at c.args.region.now (descriptor (c.args.page - 1)) % 4 ≡ 0 = sym (ap (λ x. x % 4) (c.prev.ensures ∙ ap (λ o. prev_at c.args.region.now o) c.offset_of-last.ensures)) ∙ c.if-prev-ne0.false in
    let at : c.start_of_run-first.result ≡ start_at c.args.region.now (descriptor (c.args.page - 1)) = c.start_of_run-first.ensures ∙ ap (λ o. start_at c.args.region.now o) c.offset_of-last.ensures in
    let s = before_start w.0 _ w.1 c.args.page w.2 w.3 zero in
    (s.0, at ∙ s.1)

pub returns : goal.returns
returns c = λ count runs h before.
    let zero : prev_at c.args.region.now (descriptor (c.args.page - 1)) % 4 ≡ 0 = sym (ap (λ x. x % 4) (c.prev.ensures ∙ ap (λ o. prev_at c.args.region.now o) c.offset_of-last.ensures)) ∙ c.if-prev-ne0.false in
    let at : c.start_of_run-first.result ≡ start_at c.args.region.now (descriptor (c.args.page - 1)) = c.start_of_run-first.ensures ∙ ap (λ o. start_at c.args.region.now o) c.offset_of-last.ensures in
    let l = before_linked count _ runs c.args.page h before zero (λ e. c.if-next-eq0.false (c.next.ensures ∙ ap (λ o. next_at c.args.region.now o) at ∙ e)) in
    (l.0, omega (arith, c.page_of.ensures (c.args.page - pages_before c.args.page runs) (at ∙ l.1), l.2))
