use Rattle.std.proofs.Common.{sym}
use Rattle.req_zone.proofs.CheckSteps.{none_to_force, oldest_held, oldest_forced, room_left}
use Rattle.req_zone.proofs.words.ReqWords.expire_forced.Goals as goal

pub returns-in_default-clause-laid : goal.returns-in_default-clause-laid
returns-in_default-clause-laid g c = λ s l. (none_to_force c.args.self.now s c.args.now l (c.in_default.ensures s l)).0

pub returns-then-not-is_free-clause-laid : goal.returns-then-not-is_free-clause-laid
returns-then-not-is_free-clause-laid g c = λ s l. (oldest_held c.args.self.now s c.in-Some.b.at c.args.now c.numbers.result l c.in-Some.ensures c.numbers.ensures.value (sym c.if-not-is_free.ensures)).0

pub returns-then-not-is_free-clause-left : goal.returns-then-not-is_free-clause-left
returns-then-not-is_free-clause-left g c = λ s l. (oldest_held c.args.self.now s c.in-Some.b.at c.args.now c.numbers.result l c.in-Some.ensures c.numbers.ensures.value (sym c.if-not-is_free.ensures)).1

pub expire_stale-requires-clause-room : goal.expire_stale-requires-clause-room
expire_stale-requires-clause-room g c = room_left c.args.self.now c.remove_oldest.new.self c.in-Some.b.at c.requires.room c.in-Some.ensures c.remove_oldest.ensures

pub returns-clause-laid : goal.returns-clause-laid
returns-clause-laid g c = λ s l. (oldest_forced c.args.self.now c.remove_oldest.new.self c.expire_stale.new.self s c.in-Some.b.at c.args.now c.expire_stale.result c.numbers.result l c.in-Some.ensures c.numbers.ensures.value (sym c.if-not-is_free.ensures) c.remove_oldest.ensures (λ t laid. (c.expire_stale.ensures.laid t laid, c.expire_stale.ensures.left t laid))).0

pub returns-clause-left : goal.returns-clause-left
returns-clause-left g c = λ s l. (oldest_forced c.args.self.now c.remove_oldest.new.self c.expire_stale.new.self s c.in-Some.b.at c.args.now c.expire_stale.result c.numbers.result l c.in-Some.ensures c.numbers.ensures.value (sym c.if-not-is_free.ensures) c.remove_oldest.ensures (λ t laid. (c.expire_stale.ensures.laid t laid, c.expire_stale.ensures.left t laid))).1
