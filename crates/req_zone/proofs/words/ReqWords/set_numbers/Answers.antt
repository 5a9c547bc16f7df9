use Rattle.req_zone.specs.Lays.{with_numbers}
use Rattle.req_zone.proofs.ZoneLemmas.{node_words, numbered}
use Rattle.req_zone.proofs.StepLemmas.{count_numbered}
use Rattle.req_zone.proofs.words.ReqWords.set_numbers.Goals as goal

pub write_numbers-requires : goal.write_numbers-requires
write_numbers-requires c = let r = c.requires in node_words c.args.self.now.pool r.0 c.args.b.at r.2.0 r.2.1 r.2.2 r.1.words r.2.3

pub returns : goal.returns
returns c s newer e older h at = record {
  words = numbered c.args.self.now.pool c.write_numbers.new.blocks s c.args.b.at newer e older c.args.numbers h.words at c.write_numbers.ensures.sets c.write_numbers.ensures.rest;
  table_is = h.table_is;
  name_is = h.name_is;
  rate_is = h.rate_is;
  entries_is = count_numbered s c.args.b.at c.args.self.now.entries newer e (with_numbers c.args.numbers e) older at h.entries_is;
  rate_in = h.rate_in;
}
