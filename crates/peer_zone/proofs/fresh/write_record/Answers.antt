use Rattle.peer_zone.proofs.FreshLemmas.{record-written}
use Rattle.peer_zone.proofs.fresh.write_record.Goals as goal

pub returns-clause-held : goal.returns-clause-held
returns-clause-held g c = record-written (g.B.Blocks.words c.args.blocks.now) (g.B.Blocks.words c.write_words.new.blocks) (g.B.Blocks.words c.write_bytes.new.blocks) c.args.b.at c.args.next c.from.result c.args.server.now c.bytes-address.result.now c.requires c.bytes-address.ensures c.from.ensures c.write_words.ensures.writes c.write_bytes.ensures.puts
