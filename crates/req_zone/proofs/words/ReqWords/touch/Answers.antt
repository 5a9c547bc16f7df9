use Rattle.req_zone.specs.Words.{blocks_in}
use Rattle.req_zone.proofs.ZoneLemmas.{stands_in, touched}
use Rattle.req_zone.proofs.StepLemmas.{order_laid, count_touched}
use Rattle.req_zone.proofs.words.ReqWords.touch.Goals as goal

pub touch-requires : goal.touch-requires
touch-requires c = let r = c.requires in (blocks_in r.0.table, order_laid c.args.self.now r.0 r.1, stands_in r.0 c.args.b.at r.2.0 r.2.1 r.2.2 r.2.3)

pub returns : goal.returns
returns c s newer e older h at = record {
  words = touched c.args.self.now.pool c.touch.new.blocks s c.args.self.now.table c.args.b.at newer e older h.words h.table_is at (c.touch.ensures.lays (blocks_in newer) (blocks_in older)) (c.touch.ensures.changes (blocks_in s.table)) c.touch.ensures.rest;
  table_is = h.table_is;
  name_is = h.name_is;
  rate_is = h.rate_is;
  entries_is = count_touched s c.args.b.at c.args.self.now.entries newer e older at h.entries_is;
  rate_in = h.rate_in;
}
