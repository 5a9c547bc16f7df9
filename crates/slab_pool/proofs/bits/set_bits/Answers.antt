use Rattle.std.proofs.Common.{arith}
use Rattle.slab_pool.proofs.ListLemmas.{taken-room}
use Rattle.slab_pool.proofs.BitSteps.{bitmap-room, bitmap-may_set, slab-may_set, changes-small, changes-slab, sets-small, sets-exact, sets-big}
use Rattle.slab_pool.proofs.bits.set_bits.Goals as goal

pub overflow_add-w : goal.overflow_add-w
overflow_add-w c = omega (arith, (bitmap-room _ c.args.class _ c.args.j _ c.requires.taken c.requires.known c.page_word.ensures c.requires.word).2)

pub set_word-requires : goal.set_word-requires
set_word-requires c = bitmap-may_set _ c.args.class _ c.args.j _ c.requires.taken c.requires.known c.page_word.ensures c.requires.word

pub offset_of-requires : goal.offset_of-requires
offset_of-requires c = (taken-room _ _ c.requires.taken).0

pub set_word-requires-then-class-eq-EXACT : goal.set_word-requires-then-class-eq-EXACT
set_word-requires-then-class-eq-EXACT c = slab-may_set _ _ _ c.requires.taken c.offset_of.ensures

pub offset_of-requires-else-class-eq-EXACT : goal.offset_of-requires-else-class-eq-EXACT
offset_of-requires-else-class-eq-EXACT c = (taken-room _ _ c.requires.taken).0

pub set_word-requires-else-class-eq-EXACT : goal.set_word-requires-else-class-eq-EXACT
set_word-requires-else-class-eq-EXACT c = slab-may_set _ _ _ c.requires.taken c.offset_of-else-class-eq-EXACT.ensures

pub returns-then-class-lt-EXACT-clause-changes : goal.returns-then-class-lt-EXACT-clause-changes
returns-then-class-lt-EXACT-clause-changes c = changes-small _ c.args.class _ c.args.j _ _ _ _ c.if-class-lt-EXACT.true c.requires.word c.page_word.ensures c.set_word.ensures.set

pub returns-then-class-lt-EXACT-clause-sets : goal.returns-then-class-lt-EXACT-clause-sets
returns-then-class-lt-EXACT-clause-sets c = sets-small c.args.class _ c.args.j _ _ _ _ c.if-class-lt-EXACT.true c.requires.taken c.requires.word c.page_word.ensures c.set_word.ensures.set

pub returns-then-class-eq-EXACT-clause-changes : goal.returns-then-class-eq-EXACT-clause-changes
returns-then-class-eq-EXACT-clause-changes c = changes-slab _ c.args.class _ _ _ _ _ c.offset_of.ensures c.set_word-then-class-eq-EXACT.ensures.set

pub returns-then-class-eq-EXACT-clause-sets : goal.returns-then-class-eq-EXACT-clause-sets
returns-then-class-eq-EXACT-clause-sets c = sets-exact c.args.class _ c.args.j _ _ _ _ c.if-class-eq-EXACT.true c.requires.taken c.requires.word c.offset_of.ensures c.set_word-then-class-eq-EXACT.ensures.set

pub returns-else-class-eq-EXACT-clause-changes : goal.returns-else-class-eq-EXACT-clause-changes
returns-else-class-eq-EXACT-clause-changes c = changes-slab _ c.args.class _ _ _ _ _ c.offset_of-else-class-eq-EXACT.ensures c.set_word-else-class-eq-EXACT.ensures.set

pub returns-else-class-eq-EXACT-clause-sets : goal.returns-else-class-eq-EXACT-clause-sets
returns-else-class-eq-EXACT-clause-sets c = sets-big c.args.class _ c.args.j _ _ _ _ c.if-class-lt-EXACT.false c.if-class-eq-EXACT.false c.requires.known c.requires.taken c.requires.word c.requires.small c.offset_of-else-class-eq-EXACT.ensures c.set_word-else-class-eq-EXACT.ensures.set
