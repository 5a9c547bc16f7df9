use Rattle.peer_zone.proofs.FreshLemmas.{context-written}
use Rattle.peer_zone.proofs.fresh.write_context.Goals as goal

pub returns-clause-held : goal.returns-clause-held
returns-clause-held g c = context-written (g.B.Blocks.words c.args.blocks.now) (g.B.Blocks.words c.write_words.new.blocks) c.args.b.at c.args.primary c.args.backup c.method_word.result c.args.method c.requires c.method_word.ensures c.write_words.ensures.writes
