use Rattle.std.proofs.Common.{◌/◌, ap, arith}
use Rattle.slab_pool.proofs.RunLemmas.{page-room}
use Rattle.slab_pool.proofs.ReturnLemmas.{in-zone, type-none, typed-two, typed-shift}
use Rattle.slab_pool.proofs.returns.class_at.Goals as goal

pub offset_of-o-requires : goal.offset_of-o-requires
offset_of-o-requires c = let w = c.requires in (page-room _ w.0 c.args.page w.1 w.2).0

pub prev-page_type-requires : goal.prev-page_type-requires
prev-page_type-requires c = let w = c.requires in omega (arith, (page-room _ w.0 c.args.page w.1 w.2).1, ap (λ n. n / 8) c.offset_of-o.ensures)

pub returns-then-page_type-eq0 : goal.returns-then-page_type-eq0
returns-then-page_type-eq0 c = λ slab p. type-none _ slab c.args.page _ _ p c.offset_of-o.ensures c.prev-page_type.ensures c.if-page_type-eq0.true

pub returns-then-page_type-eq2 : goal.returns-then-page_type-eq2
returns-then-page_type-eq2 c = λ slab p. typed-two _ slab c.args.page _ _ p (in-zone _ c.requires.0 slab c.args.page c.requires.1 p c.requires.2) c.offset_of-o.ensures c.prev-page_type.ensures c.if-page_type-eq2.true

pub slab-requires : goal.slab-requires
slab-requires c = let w = c.requires in omega (arith, (page-room _ w.0 c.args.page w.1 w.2).1, ap (λ n. n / 8) c.offset_of-o.ensures)

pub overflow_sub-result : goal.overflow_sub-result
overflow_sub-result c = let w = c.requires in (typed-shift _ w.0 c.args.page _ _ _ w.1 w.2 c.offset_of-o.ensures c.prev-page_type.ensures c.if-page_type-eq0.false c.if-page_type-eq2.false c.slab.ensures).2

pub returns : goal.returns
returns c = λ slab p. let h = typed-shift _ slab c.args.page _ _ _ p (in-zone _ c.requires.0 slab c.args.page c.requires.1 p c.requires.2) c.offset_of-o.ensures c.prev-page_type.ensures c.if-page_type-eq0.false c.if-page_type-eq2.false c.slab.ensures in (h.0, h.1)
