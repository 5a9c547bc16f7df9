use Rattle.std.proofs.Common.{◌≡◌}
use Rattle.block_bytes.proofs.Putting.{PutsWords}
use Rattle.block_bytes.proofs.write_bytes.Given as goal

abbrev pub invariant-loop-i : goal.invariant-loop-i
invariant-loop-i g l = record {
  puts : PutsWords (g.B.Blocks.words l.fn.blocks) (g.B.Blocks.words l.blocks) l.fn.b.at l.fn.first l.fn.bytes l.i;
  rest : g.B.Blocks.rest l.blocks ≡ g.B.Blocks.rest l.fn.blocks;
}
