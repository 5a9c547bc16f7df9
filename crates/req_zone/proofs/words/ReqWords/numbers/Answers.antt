use Rattle.std.proofs.Common.{arith}
use Rattle.req_zone.proofs.ZoneLemmas.{node_words}
use Rattle.req_zone.proofs.StepLemmas.{read_numbers}
use Rattle.req_zone.proofs.words.ReqWords.numbers.Goals as goal

pub word-requires : goal.word-requires
word-requires g c = let r = c.requires in omega (arith, node_words c.args.self.now.pool r.0 c.args.b.at r.2.0 r.2.1 r.2.2 r.1.words r.2.3)

pub word-requires-2 : goal.word-requires-2
word-requires-2 g c = let r = c.requires in omega (arith, node_words c.args.self.now.pool r.0 c.args.b.at r.2.0 r.2.1 r.2.2 r.1.words r.2.3)

pub word-requires-3 : goal.word-requires-3
word-requires-3 g c = let r = c.requires in omega (arith, node_words c.args.self.now.pool r.0 c.args.b.at r.2.0 r.2.1 r.2.2 r.1.words r.2.3)

pub returns-clause-value : goal.returns-clause-value
returns-clause-value g c s newer e older h at = read_numbers c.args.self.now.pool s c.args.b.at newer e older c.word.result c.word-2.result c.word-3.result h.words at c.word.ensures.value c.word-2.ensures.value c.word-3.ensures.value
