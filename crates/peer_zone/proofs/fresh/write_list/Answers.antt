use Rattle.peer_zone.proofs.FreshLemmas.{list-written}
use Rattle.peer_zone.proofs.fresh.write_list.Goals as goal

pub returns-clause-held : goal.returns-clause-held
returns-clause-held g c = list-written (g.B.Blocks.words c.args.blocks.now) (g.B.Blocks.words c.write_words.new.blocks) c.args.b.at c.args.first c.args.servers c.from.result c.args.single c.requires c.from.ensures c.write_words.ensures.writes
