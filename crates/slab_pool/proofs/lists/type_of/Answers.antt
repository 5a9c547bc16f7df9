use Rattle.std.proofs.Common.{sym, ap, arith}
use Rattle.slab_pages.specs.SlabLayout.{type_of}
use Rattle.slab_pool.proofs.KindLemmas.{kind-small, kind-exact, kind-big}
use Rattle.slab_pool.proofs.lists.type_of.Goals as goal

pub returns-then-class-lt-EXACT : goal.returns-then-class-lt-EXACT
returns-then-class-lt-EXACT c = ap type_of (sym (kind-small c.args.pages.now.shape c.args.class c.if-class-lt-EXACT.true))

pub returns-then-class-eq-EXACT : goal.returns-then-class-eq-EXACT
returns-then-class-eq-EXACT c = ap type_of (sym (kind-exact c.args.pages.now.shape c.args.class c.if-class-eq-EXACT.true))

pub returns-else-class-eq-EXACT : goal.returns-else-class-eq-EXACT
returns-else-class-eq-EXACT c = let not = c.if-class-eq-EXACT.false in ap type_of (sym (kind-big c.args.pages.now.shape c.args.class (omega (arith, c.if-class-lt-EXACT.false, not)) c.requires))
