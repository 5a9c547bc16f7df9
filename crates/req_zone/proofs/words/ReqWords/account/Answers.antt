use Rattle.req_zone.proofs.CheckSteps.{held_is_node, held_count, held_roomy, accounts}
use Rattle.std.proofs.Common.{subst, sym, ◌<◌, ℕ}
use Rattle.req_zone.proofs.words.ReqWords.account.Goals as goal

pub numbers-numbers-requires : goal.numbers-numbers-requires
numbers-numbers-requires g c = held_is_node c.args.self.now c.requires.0 c.args.b.at c.requires.1 c.requires.2.asked.1

pub amount-excess-requires-clause-excess : goal.amount-excess-requires-clause-excess
amount-excess-requires-clause-excess g c = (held_roomy c.args.self.now c.requires.0 c.args.b.at c.numbers-numbers.result c.requires.1 c.requires.2.room c.requires.2.asked.1 c.numbers-numbers.ensures.value).excess

pub amount-excess-requires-clause-last : goal.amount-excess-requires-clause-last
amount-excess-requires-clause-last g c = (held_roomy c.args.self.now c.requires.0 c.args.b.at c.numbers-numbers.result c.requires.1 c.requires.2.room c.requires.2.asked.1 c.numbers-numbers.ensures.value).last

pub released-requires : goal.released-requires
released-requires g c = subst (λ (n : ℕ). 0 < n) (sym c.stored.ensures.count) (held_count c.args.self.now c.requires.0 c.args.b.at c.numbers-numbers.result c.requires.1 c.requires.2.asked.1 c.numbers-numbers.ensures.value)

pub set_numbers-requires : goal.set_numbers-requires
set_numbers-requires g c = held_is_node c.args.self.now c.requires.0 c.args.b.at c.requires.1 c.requires.2.asked.1

pub returns-clause-reply : goal.returns-clause-reply
returns-clause-reply g c = λ s l ready. (accounts c.args.self.now c.set_numbers.new.self s c.args.b.at c.args.now c.amount-excess.result c.numbers-numbers.result c.stored.result c.released.result l ready c.numbers-numbers.ensures.value c.amount-excess.ensures c.stored.ensures.value c.released.ensures c.set_numbers.ensures).0

pub returns-clause-laid : goal.returns-clause-laid
returns-clause-laid g c = λ s l ready. (accounts c.args.self.now c.set_numbers.new.self s c.args.b.at c.args.now c.amount-excess.result c.numbers-numbers.result c.stored.result c.released.result l ready c.numbers-numbers.ensures.value c.amount-excess.ensures c.stored.ensures.value c.released.ensures c.set_numbers.ensures).1
