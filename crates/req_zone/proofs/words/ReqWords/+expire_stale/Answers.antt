use Rattle.std.proofs.Common.{◌<◌, sym, arith}
use Rattle.req_zone.proofs.CheckSteps.{none_more, no_entry, oldest_roomy, held_stays, fresh_stays, stale_leaves, room_left}
use Rattle.req_zone.proofs.words.ReqWords.+expire_stale.Goals as goal

pub returns-then-most-eq0-clause-laid : goal.returns-then-most-eq0-clause-laid
returns-then-most-eq0-clause-laid g t c = λ s l. (none_more c.args.self.now s c.args.now c.args.most l c.if-most-eq0.true).0

pub returns-in_default-clause-laid : goal.returns-in_default-clause-laid
returns-in_default-clause-laid g t c = λ s l. (no_entry c.args.self.now s c.args.now c.args.most l (c.in_default.ensures s l)).0

pub returns-in_default-clause-left : goal.returns-in_default-clause-left
returns-in_default-clause-left g t c = λ s l. (no_entry c.args.self.now s c.args.now c.args.most l (c.in_default.ensures s l)).1

pub is_stale-requires-clause-last : goal.is_stale-requires-clause-last
is_stale-requires-clause-last g t c = (oldest_roomy c.args.self.now c.in-Some.b.at c.numbers-numbers.result c.requires.room c.in-Some.ensures c.numbers-numbers.ensures.value).last

pub returns-then-not-is_free-clause-laid : goal.returns-then-not-is_free-clause-laid
returns-then-not-is_free-clause-laid g t c =
    let some : 0 < c.args.most = omega arith in
    λ s l. (held_stays c.args.self.now s c.in-Some.b.at c.args.now c.args.most c.numbers-numbers.result l c.in-Some.ensures c.numbers-numbers.ensures.value some (sym c.if-not-is_free.ensures)).0

pub returns-then-not-is_free-clause-left : goal.returns-then-not-is_free-clause-left
returns-then-not-is_free-clause-left g t c =
    let some : 0 < c.args.most = omega arith in
    λ s l. (held_stays c.args.self.now s c.in-Some.b.at c.args.now c.args.most c.numbers-numbers.result l c.in-Some.ensures c.numbers-numbers.ensures.value some (sym c.if-not-is_free.ensures)).1

pub returns-then-not-is_stale-clause-laid : goal.returns-then-not-is_stale-clause-laid
returns-then-not-is_stale-clause-laid g t c =
    let some : 0 < c.args.most = omega arith in
    λ s l. (fresh_stays c.args.self.now s c.in-Some.b.at c.args.now c.args.most c.numbers-numbers.result l c.in-Some.ensures c.numbers-numbers.ensures.value some c.if-not-is_stale.ensures).0

pub returns-then-not-is_stale-clause-left : goal.returns-then-not-is_stale-clause-left
returns-then-not-is_stale-clause-left g t c =
    let some : 0 < c.args.most = omega arith in
    λ s l. (fresh_stays c.args.self.now s c.in-Some.b.at c.args.now c.args.most c.numbers-numbers.result l c.in-Some.ensures c.numbers-numbers.ensures.value some c.if-not-is_stale.ensures).1

pub returns-clause-laid : goal.returns-clause-laid
returns-clause-laid g t c =
    let some : 0 < c.args.most = omega arith in
    λ s l. (stale_leaves c.args.self.now c.remove_oldest.new.self c.expire_stale.new.self s c.in-Some.b.at c.args.now c.args.most c.expire_stale.result c.numbers-numbers.result l c.in-Some.ensures c.numbers-numbers.ensures.value some (sym c.if-not-is_free.ensures) c.if-not-is_stale.ensures c.remove_oldest.ensures (λ u laid. (c.expire_stale.ensures.laid u laid, c.expire_stale.ensures.left u laid))).0

pub returns-clause-left : goal.returns-clause-left
returns-clause-left g t c =
    let some : 0 < c.args.most = omega arith in
    λ s l. (stale_leaves c.args.self.now c.remove_oldest.new.self c.expire_stale.new.self s c.in-Some.b.at c.args.now c.args.most c.expire_stale.result c.numbers-numbers.result l c.in-Some.ensures c.numbers-numbers.ensures.value some (sym c.if-not-is_free.ensures) c.if-not-is_stale.ensures c.remove_oldest.ensures (λ u laid. (c.expire_stale.ensures.laid u laid, c.expire_stale.ensures.left u laid))).1

pub expire_stale-requires : goal.expire_stale-requires
expire_stale-requires g t c κs within =
    (omega arith, (within, (room_left c.args.self.now c.remove_oldest.new.self c.in-Some.b.at c.requires.room c.in-Some.ensures c.remove_oldest.ensures, c.requires.now)))
