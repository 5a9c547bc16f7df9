use Rattle.req_zone.proofs.CheckSteps.{held_is_node, held_count, releases}
use Rattle.req_zone.proofs.words.ReqWords.release.Goals as goal

pub numbers-numbers-requires : goal.numbers-numbers-requires
numbers-numbers-requires g c = held_is_node c.args.self.now c.requires.0 c.args.b.at c.requires.1 c.requires.2.asked

pub released-requires : goal.released-requires
released-requires g c = held_count c.args.self.now c.requires.0 c.args.b.at c.numbers-numbers.result c.requires.1 c.requires.2.asked c.numbers-numbers.ensures.value

pub set_numbers-requires : goal.set_numbers-requires
set_numbers-requires g c = held_is_node c.args.self.now c.requires.0 c.args.b.at c.requires.1 c.requires.2.asked

pub returns-clause-laid : goal.returns-clause-laid
returns-clause-laid g c = λ s l ready. releases c.args.self.now c.set_numbers.new.self s c.args.b.at c.numbers-numbers.result c.released.result l ready c.numbers-numbers.ensures.value c.released.ensures c.set_numbers.ensures
