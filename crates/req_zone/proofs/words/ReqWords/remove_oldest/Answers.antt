use Rattle.std.proofs.Common.{[], arith}
use Rattle.req_zone.specs.Words.{blocks_in}
use Rattle.req_zone.proofs.ZoneLemmas.{node_words, stands_in, left}
use Rattle.req_zone.proofs.StepLemmas.{order_laid, count_left}
use Rattle.req_zone.proofs.words.ReqWords.remove_oldest.Goals as goal

pub remove-requires : goal.remove-requires
remove-requires c = let r = c.requires in (blocks_in r.0.table, order_laid c.args.self.now r.0 r.1, stands_in r.0 c.args.b.at r.2.0 r.2.1 [] r.2.2)

pub free-requires : goal.free-requires
free-requires c =
    let r = c.requires in
    let changes = c.remove.ensures.changes (blocks_in r.0.table) (order_laid c.args.self.now r.0 r.1) (stands_in r.0 c.args.b.at r.2.0 r.2.1 [] r.2.2) in
    omega (arith, node_words c.args.self.now.pool r.0 c.args.b.at r.2.0 r.2.1 [] r.1.words r.2.2, changes.lengths c.args.b.at)

pub overflow_sub-self : goal.overflow_sub-self
overflow_sub-self c = let r = c.requires in omega (arith, (count_left r.0 c.args.b.at c.args.self.now.entries r.2.0 r.2.1 r.2.2 r.1.entries_is).0)

pub returns : goal.returns
returns c s newer e h at = record {
  words = left c.args.self.now.pool c.remove.new.blocks c.free.new.self s c.args.self.now.table c.args.b.at newer e h.words h.table_is at (record {
    removed = c.remove.ensures.lays;
    changes = c.remove.ensures.changes;
    rest = c.remove.ensures.rest;
    given = c.free.ensures.laid;
    words = c.free.ensures.words;
    kept = c.free.ensures.kept;
  });
  table_is = h.table_is;
  name_is = h.name_is;
  rate_is = h.rate_is;
  entries_is = (count_left s c.args.b.at c.args.self.now.entries newer e at h.entries_is).1;
  rate_in = h.rate_in;
}
