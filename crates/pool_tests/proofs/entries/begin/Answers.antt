use Rattle.std.proofs.Common.{[]}
use Rattle.slab_pool.proofs.RestLemmas.{rest-laid}
use Rattle.pool_tests.proofs.EntryLemmas.{is_table_context}
use Rattle.pool_tests.proofs.entries.begin.Goals as goal

pub init-requires : goal.init-requires
init-requires c = let p = c.requires.1 in is_table_context c.args.pool.now c.alloc.new.self _ _ _ (c.in_ok-context.ensures.laid _ p) (c.in_ok-context.ensures.words _ p)

pub returns : goal.returns
returns c = record {
  slab = _;
  laid = rest-laid c.alloc.new.self c.init.new.blocks _ c.init.ensures.rest (c.in_ok-context.ensures.laid _ c.requires.1);
  order = [];
  table = c.init.ensures.lays;
}
