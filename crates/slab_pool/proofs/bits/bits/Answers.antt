use Rattle.std.proofs.Common.{refl, arith}
use Rattle.slab_pool.proofs.ListLemmas.{taken-room}
use Rattle.slab_pool.proofs.BitSteps.{bitmap-room, slab-room, value-small, value-exact, value-big, limit-small, limit-exact}
use Rattle.slab_pool.proofs.bits.bits.Goals as goal

pub overflow_add-page_word : goal.overflow_add-page_word
overflow_add-page_word c = omega (arith, (bitmap-room _ c.args.class _ c.args.j _ c.requires.taken c.requires.known c.page_word.ensures c.requires.word).2)

pub word-requires : goal.word-requires
word-requires c = (bitmap-room _ c.args.class _ c.args.j _ c.requires.taken c.requires.known c.page_word.ensures c.requires.word).0

pub offset_of-requires : goal.offset_of-requires
offset_of-requires c = (taken-room _ _ c.requires.taken).0

pub slab-requires : goal.slab-requires
slab-requires c = slab-room _ _ _ c.requires.taken c.offset_of.ensures

pub offset_of-requires-else-class-eq-EXACT : goal.offset_of-requires-else-class-eq-EXACT
offset_of-requires-else-class-eq-EXACT c = (taken-room _ _ c.requires.taken).0

pub slab-requires-else-class-eq-EXACT : goal.slab-requires-else-class-eq-EXACT
slab-requires-else-class-eq-EXACT c = slab-room _ _ _ c.requires.taken c.offset_of-else-class-eq-EXACT.ensures

pub returns-then-class-lt-EXACT-clause-value : goal.returns-then-class-lt-EXACT-clause-value
returns-then-class-lt-EXACT-clause-value c = value-small _ _ _ c.args.class c.args.j _ _ c.if-class-lt-EXACT.true c.page_word.ensures c.word.ensures

pub returns-then-class-lt-EXACT-clause-small : goal.returns-then-class-lt-EXACT-clause-small
returns-then-class-lt-EXACT-clause-small c = limit-small _ _ _ c.if-class-lt-EXACT.true c.word.type_inv

pub returns-then-class-eq-EXACT-clause-value : goal.returns-then-class-eq-EXACT-clause-value
returns-then-class-eq-EXACT-clause-value c = value-exact _ _ _ c.args.class c.args.j _ _ c.if-class-eq-EXACT.true c.offset_of.ensures c.slab.ensures

pub returns-then-class-eq-EXACT-clause-small : goal.returns-then-class-eq-EXACT-clause-small
returns-then-class-eq-EXACT-clause-small c = limit-exact _ _ _ c.if-class-eq-EXACT.true c.slab.type_inv

pub returns-else-class-eq-EXACT-clause-value : goal.returns-else-class-eq-EXACT-clause-value
returns-else-class-eq-EXACT-clause-value c = value-big _ _ _ c.args.class c.args.j _ _ _ c.if-class-lt-EXACT.false c.if-class-eq-EXACT.false c.requires.known c.offset_of-else-class-eq-EXACT.ensures c.slab-else-class-eq-EXACT.ensures refl
