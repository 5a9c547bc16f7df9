use Rattle.std.proofs.Common.{◌≡◌, true, false, sym, arith, ◌∙◌}
use Rattle.slab_pages.proofs.EdgeLemmas.{after_within, after_none, after_end, after_not_first, after_first}
use Rattle.slab_pages.proofs.runs.detach_after.Goals as goal

differ : true ≡ false → ⊥
differ e = cc

pub is_first-requires-clause-small : goal.is_first-requires-clause-small
is_first-requires-clause-small c = let w = c.requires in omega (arith, after_within c.args.count _ w.0 c.args.page w.1 w.2 c.if-page-count.false, w.1.small)

pub is_first-requires-clause-room : goal.is_first-requires-clause-room
is_first-requires-clause-room c = let w = c.requires in omega (arith, after_within c.args.count _ w.0 c.args.page w.1 w.2 c.if-page-count.false, w.1.room)

pub returns-then-page-count : goal.returns-then-page-count
returns-then-page-count c = λ runs h after. after_none c.args.count _ runs c.args.page h (after_end c.args.count _ runs c.args.page h c.if-page-count.true)

pub detach-requires : goal.detach-requires
detach-requires c = let w = c.requires in (c.args.count, w.0, w.1, after_first c.args.count _ w.0 c.args.page w.1 w.2 c.if-page-count.false (c.is_first.ensures.0 c.if-is_first.true))

pub returns-then-is_first : goal.returns-then-is_first
returns-then-is_first c = λ runs h after. c.detach.ensures c.args.count runs h (after_first c.args.count _ runs c.args.page h after c.if-page-count.false (c.is_first.ensures.0 c.if-is_first.true))

pub returns-else-is_first : goal.returns-else-is_first
returns-else-is_first c = λ runs h after. after_none c.args.count _ runs c.args.page h (after_not_first c.args.count _ runs c.args.page h (λ f. differ (sym (c.is_first.ensures.1 f) ∙ c.if-is_first.false)))
