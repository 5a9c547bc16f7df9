use Rattle.slab_pages.specs.Opening.{WritesHeads}
use Rattle.slab_pages.proofs.opening.write_heads.Given as goal

abbrev pub invariant-loop-class : goal.invariant-loop-class
invariant-loop-class l = WritesHeads l.fn.region l.region l.class
