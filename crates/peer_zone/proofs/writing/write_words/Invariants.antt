use Rattle.std.proofs.Common.{◌≡◌}
use Rattle.peer_zone.proofs.WritingLemmas.{WritesFirst}
use Rattle.peer_zone.proofs.writing.write_words.Given as goal

abbrev pub invariant-loop-i : goal.invariant-loop-i
invariant-loop-i g l = record {
  writes : WritesFirst (g.B.Blocks.words l.fn.blocks) (g.B.Blocks.words l.blocks) l.fn.b.at l.fn.first l.fn.words l.i;
  rest : g.B.Blocks.rest l.blocks ≡ g.B.Blocks.rest l.fn.blocks;
}
