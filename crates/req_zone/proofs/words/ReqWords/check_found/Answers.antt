use Rattle.req_zone.proofs.CheckSteps.{found_is_node, front_is_node, front_rate, front_roomy, found_busy, found_passes, found_holds}
use Rattle.req_zone.proofs.words.ReqWords.check_found.Goals as goal

pub touch-requires : goal.touch-requires
touch-requires g c = found_is_node c.args.self.now c.args.b.at c.requires.found

pub numbers-numbers-requires : goal.numbers-numbers-requires
numbers-numbers-requires g c = front_is_node c.args.self.now c.touch.new.self c.args.b.at c.requires.found c.touch.ensures

pub amount-excess-requires-clause-rate : goal.amount-excess-requires-clause-rate
amount-excess-requires-clause-rate g c = front_rate c.args.self.now c.touch.new.self c.args.b.at c.requires.found c.touch.ensures

pub amount-excess-requires-clause-excess : goal.amount-excess-requires-clause-excess
amount-excess-requires-clause-excess g c = (front_roomy c.args.self.now c.touch.new.self c.args.b.at c.numbers-numbers.result c.requires.found c.touch.ensures c.numbers-numbers.ensures.value).excess

pub amount-excess-requires-clause-last : goal.amount-excess-requires-clause-last
amount-excess-requires-clause-last g c = (front_roomy c.args.self.now c.touch.new.self c.args.b.at c.numbers-numbers.result c.requires.found c.touch.ensures c.numbers-numbers.ensures.value).last

pub returns-then-excess-burst-clause-reply : goal.returns-then-excess-burst-clause-reply
returns-then-excess-burst-clause-reply g c = λ s key e l f. (found_busy c.args.self.now c.touch.new.self s key c.args.b.at c.args.now c.args.burst c.amount-excess.result c.args.last e c.numbers-numbers.result l f c.touch.ensures c.numbers-numbers.ensures.value c.amount-excess.ensures c.if-excess-burst.true).0

pub returns-then-excess-burst-clause-laid : goal.returns-then-excess-burst-clause-laid
returns-then-excess-burst-clause-laid g c = λ s key e l f. (found_busy c.args.self.now c.touch.new.self s key c.args.b.at c.args.now c.args.burst c.amount-excess.result c.args.last e c.numbers-numbers.result l f c.touch.ensures c.numbers-numbers.ensures.value c.amount-excess.ensures c.if-excess-burst.true).1

pub set_numbers-requires : goal.set_numbers-requires
set_numbers-requires g c = front_is_node c.args.self.now c.touch.new.self c.args.b.at c.requires.found c.touch.ensures

pub held-requires : goal.held-requires
held-requires g c = (front_roomy c.args.self.now c.touch.new.self c.args.b.at c.numbers-numbers.result c.requires.found c.touch.ensures c.numbers-numbers.ensures.value).count

pub set_numbers-requires-else-last : goal.set_numbers-requires-else-last
set_numbers-requires-else-last g c = front_is_node c.args.self.now c.touch.new.self c.args.b.at c.requires.found c.touch.ensures

pub returns-then-last-clause-reply : goal.returns-then-last-clause-reply
returns-then-last-clause-reply g c = λ s key e l f. (found_passes c.args.self.now c.touch.new.self c.set_numbers.new.self s key c.args.b.at c.args.now c.args.burst c.amount-excess.result c.args.last e c.numbers-numbers.result c.stored.result l f c.touch.ensures c.numbers-numbers.ensures.value c.amount-excess.ensures c.if-excess-burst.false c.if-last.true c.stored.ensures.value c.set_numbers.ensures).0

pub returns-then-last-clause-laid : goal.returns-then-last-clause-laid
returns-then-last-clause-laid g c = λ s key e l f. (found_passes c.args.self.now c.touch.new.self c.set_numbers.new.self s key c.args.b.at c.args.now c.args.burst c.amount-excess.result c.args.last e c.numbers-numbers.result c.stored.result l f c.touch.ensures c.numbers-numbers.ensures.value c.amount-excess.ensures c.if-excess-burst.false c.if-last.true c.stored.ensures.value c.set_numbers.ensures).1

pub returns-else-last-clause-reply : goal.returns-else-last-clause-reply
returns-else-last-clause-reply g c = λ s key e l f. (found_holds c.args.self.now c.touch.new.self c.set_numbers-else-last.new.self s key c.args.b.at c.args.now c.args.burst c.amount-excess.result c.args.last e c.numbers-numbers.result c.held.result l f c.touch.ensures c.numbers-numbers.ensures.value c.amount-excess.ensures c.if-excess-burst.false c.if-last.false c.held.ensures c.set_numbers-else-last.ensures).0

pub returns-else-last-clause-laid : goal.returns-else-last-clause-laid
returns-else-last-clause-laid g c = λ s key e l f. (found_holds c.args.self.now c.touch.new.self c.set_numbers-else-last.new.self s key c.args.b.at c.args.now c.args.burst c.amount-excess.result c.args.last e c.numbers-numbers.result c.held.result l f c.touch.ensures c.numbers-numbers.ensures.value c.amount-excess.ensures c.if-excess-burst.false c.if-last.false c.held.ensures c.set_numbers-else-last.ensures).1
