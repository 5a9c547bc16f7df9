use Rattle.req_zone.specs.Words.{blocks_in}
use Rattle.req_zone.proofs.StepLemmas.{order_laid, match_more, no_blocks, is_oldest}
use Rattle.req_zone.proofs.words.ReqWords.oldest.Goals as goal

pub oldest-requires : goal.oldest-requires
oldest-requires c = (blocks_in c.requires.0.table, order_laid c.args.self.now c.requires.0 c.requires.1)

pub returns : goal.returns
returns c s h = match_more c.oldest.result _ _ _ _ (no_blocks s.table) (is_oldest s) (c.oldest.ensures (blocks_in s.table) (order_laid c.args.self.now s h))
