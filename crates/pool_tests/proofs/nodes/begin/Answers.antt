use Rattle.std.proofs.Common.{[], refl, arith}
use Rattle.slab_pool.proofs.RestLemmas.{rest-laid}
use Rattle.pool_tests.proofs.NodeLemmas.{is_context}
use Rattle.pool_tests.proofs.nodes.begin.Goals as goal

pub init-requires : goal.init-requires
init-requires c = let p = c.requires.1 in is_context c.args.pool.now c.alloc.new.self _ _ _ (c.in_ok-context.ensures.laid _ p) (c.in_ok-context.ensures.words _ p)

pub returns : goal.returns
returns c = (
  refl,
  record {
    slab = _;
    laid = rest-laid c.alloc.new.self c.init.new.blocks _ c.init.ensures.rest (c.in_ok-context.ensures.laid _ c.requires.1);
    blocks = [];
    tree = c.init.ensures.lays;
    few = omega arith;
  },
)
