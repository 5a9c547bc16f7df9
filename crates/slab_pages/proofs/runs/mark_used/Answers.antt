use Rattle.std.proofs.Common.{arith}
use Rattle.slab_pages.proofs.PlaceLemmas.{descriptor-word}
use Rattle.slab_pages.proofs.EdgeLemmas.{marked, sets_at}
use Rattle.slab_pages.proofs.runs.mark_used.Goals as goal

pub set_words-requires : goal.set_words-requires
set_words-requires c = omega (arith, c.offset_of.ensures, descriptor-word c.args.first)

pub returns : goal.returns
returns c = marked _ _ _ c.args.first c.args.n c.requires.some (sets_at _ _ _ _ _ _ _ c.offset_of.ensures c.set_words.ensures) c.fill.ensures
