use Rattle.std.proofs.Common.{◌+◌, ◌∙◌, length, arith}
use Rattle.req_zone.specs.Laws.{stale_expired, before_second}
use Rattle.req_zone.specs.Step.{node_size}
use Rattle.req_zone.proofs.ExpiryChain.{first_left, second_left}
use Rattle.req_zone.proofs.CheckSteps.{first_admit, forced_room, before, second_admit, missing_first, missing_second, missing_full}
use Rattle.req_zone.proofs.words.ReqWords.check_missing.Goals as goal

pub admit-requires-clause-laid : goal.admit-requires-clause-laid
admit-requires-clause-laid g c = first_admit c.args.self.now c.expire_stale-stale.new.self c.args.key.now c.args.now c.expire_stale-stale.result c.requires.missing (λ t laid. (c.expire_stale-stale.ensures.laid t laid, c.expire_stale-stale.ensures.left t laid))

pub returns-in-Some-clause-reply : goal.returns-in-Some-clause-reply
returns-in-Some-clause-reply g c = λ s burst l missing. c.admitted.ensures ∙ (missing_first c.args.self.now c.expire_stale-stale.new.self c.admit.new.self s c.args.key.now c.args.now burst c.expire_stale-stale.result c.in-Some.b.at c.args.last l missing (λ t laid. (c.expire_stale-stale.ensures.laid t laid, c.expire_stale-stale.ensures.left t laid)) c.in-Some.ensures.block c.in-Some.ensures.laid).0

pub returns-in-Some-clause-laid : goal.returns-in-Some-clause-laid
returns-in-Some-clause-laid g c = λ s burst l missing. (missing_first c.args.self.now c.expire_stale-stale.new.self c.admit.new.self s c.args.key.now c.args.now burst c.expire_stale-stale.result c.in-Some.b.at c.args.last l missing (λ t laid. (c.expire_stale-stale.ensures.laid t laid, c.expire_stale-stale.ensures.left t laid)) c.in-Some.ensures.block c.in-Some.ensures.laid).1

pub returns-in-Some-clause-cost : goal.returns-in-Some-clause-cost
returns-in-Some-clause-cost g c = λ s l missing.
    let k = first_left s c.args.now c.args.key.now in
    let fewer = k.cost in
    let stale = c.expire_stale-stale.ensures.cost in
    let admit = c.in-Some.ensures.cost (stale_expired 2 c.args.now s) (c.expire_stale-stale.ensures.laid s l) (k.missing missing) in
    omega (arith, fewer, stale, admit)

pub expire_forced-forced-requires-clause-room : goal.expire_forced-forced-requires-clause-room
expire_forced-forced-requires-clause-room g c = forced_room c.args.self.now c.expire_stale-stale.new.self c.admit.new.self c.args.key.now c.args.now c.expire_stale-stale.result c.requires.missing (λ t laid. (c.expire_stale-stale.ensures.laid t laid, c.expire_stale-stale.ensures.left t laid)) c.in_default.ensures.laid

pub admit-requires-2-clause-laid : goal.admit-requires-2-clause-laid
admit-requires-2-clause-laid g c = second_admit c.args.self.now c.expire_stale-stale.new.self c.admit.new.self c.expire_forced-forced.new.self c.args.key.now c.args.now c.expire_stale-stale.result c.expire_forced-forced.result c.requires.missing (λ t laid. (c.expire_stale-stale.ensures.laid t laid, c.expire_stale-stale.ensures.left t laid)) c.in_default.ensures.laid (λ t laid. (c.expire_forced-forced.ensures.laid t laid, c.expire_forced-forced.ensures.left t laid))

pub returns-in-Some-admit-clause-reply : goal.returns-in-Some-admit-clause-reply
returns-in-Some-admit-clause-reply g c = λ s burst l missing. c.admitted-in-Some-admit.ensures ∙ (missing_second c.args.self.now c.expire_stale-stale.new.self c.admit.new.self c.expire_forced-forced.new.self c.admit-2.new.self s c.args.key.now c.args.now burst c.expire_stale-stale.result c.expire_forced-forced.result c.in-Some-admit.b.at c.args.last l missing (λ t laid. (c.expire_stale-stale.ensures.laid t laid, c.expire_stale-stale.ensures.left t laid)) c.in_default.ensures.block c.in_default.ensures.laid (λ t laid. (c.expire_forced-forced.ensures.laid t laid, c.expire_forced-forced.ensures.left t laid)) c.in-Some-admit.ensures.block c.in-Some-admit.ensures.laid).0

pub returns-in-Some-admit-clause-laid : goal.returns-in-Some-admit-clause-laid
returns-in-Some-admit-clause-laid g c = λ s burst l missing. (missing_second c.args.self.now c.expire_stale-stale.new.self c.admit.new.self c.expire_forced-forced.new.self c.admit-2.new.self s c.args.key.now c.args.now burst c.expire_stale-stale.result c.expire_forced-forced.result c.in-Some-admit.b.at c.args.last l missing (λ t laid. (c.expire_stale-stale.ensures.laid t laid, c.expire_stale-stale.ensures.left t laid)) c.in_default.ensures.block c.in_default.ensures.laid (λ t laid. (c.expire_forced-forced.ensures.laid t laid, c.expire_forced-forced.ensures.left t laid)) c.in-Some-admit.ensures.block c.in-Some-admit.ensures.laid).1

pub returns-in-Some-admit-clause-cost : goal.returns-in-Some-admit-clause-cost
returns-in-Some-admit-clause-cost g c = λ s l missing.
    let one = first_left s c.args.now c.args.key.now in
    let two = second_left s c.args.now c.args.key.now in
    let fewer = two.cost in
    let stale = c.expire_stale-stale.ensures.cost in
    let refused = c.in_default.ensures.cost (stale_expired 2 c.args.now s) (c.expire_stale-stale.ensures.laid s l) (one.missing missing) in
    let forced = c.expire_forced-forced.ensures.cost in
    let last = c.in-Some-admit.ensures.cost (before_second s c.args.now (node_size + length c.args.key.now)) (before c.args.self.now c.expire_stale-stale.new.self c.admit.new.self c.expire_forced-forced.new.self s c.args.key.now c.args.now c.expire_stale-stale.result c.expire_forced-forced.result l missing (λ t laid. (c.expire_stale-stale.ensures.laid t laid, c.expire_stale-stale.ensures.left t laid)) c.in_default.ensures.laid (λ t laid. (c.expire_forced-forced.ensures.laid t laid, c.expire_forced-forced.ensures.left t laid))).0 (two.missing missing) in
    omega (arith, fewer, stale, refused, forced, last)

pub returns-in-None-clause-reply : goal.returns-in-None-clause-reply
returns-in-None-clause-reply g c = λ s burst l missing. (missing_full c.args.self.now c.expire_stale-stale.new.self c.admit.new.self c.expire_forced-forced.new.self c.admit-2.new.self s c.args.key.now c.args.now burst c.expire_stale-stale.result c.expire_forced-forced.result c.args.last l missing (λ t laid. (c.expire_stale-stale.ensures.laid t laid, c.expire_stale-stale.ensures.left t laid)) c.in_default.ensures.block c.in_default.ensures.laid (λ t laid. (c.expire_forced-forced.ensures.laid t laid, c.expire_forced-forced.ensures.left t laid)) c.in-None.ensures.block c.in-None.ensures.laid).0

pub returns-in-None-clause-laid : goal.returns-in-None-clause-laid
returns-in-None-clause-laid g c = λ s burst l missing. (missing_full c.args.self.now c.expire_stale-stale.new.self c.admit.new.self c.expire_forced-forced.new.self c.admit-2.new.self s c.args.key.now c.args.now burst c.expire_stale-stale.result c.expire_forced-forced.result c.args.last l missing (λ t laid. (c.expire_stale-stale.ensures.laid t laid, c.expire_stale-stale.ensures.left t laid)) c.in_default.ensures.block c.in_default.ensures.laid (λ t laid. (c.expire_forced-forced.ensures.laid t laid, c.expire_forced-forced.ensures.left t laid)) c.in-None.ensures.block c.in-None.ensures.laid).1

pub returns-in-None-clause-cost : goal.returns-in-None-clause-cost
returns-in-None-clause-cost g c = λ s l missing.
    let one = first_left s c.args.now c.args.key.now in
    let two = second_left s c.args.now c.args.key.now in
    let fewer = two.cost in
    let stale = c.expire_stale-stale.ensures.cost in
    let refused = c.in_default.ensures.cost (stale_expired 2 c.args.now s) (c.expire_stale-stale.ensures.laid s l) (one.missing missing) in
    let forced = c.expire_forced-forced.ensures.cost in
    let last = c.in-None.ensures.cost (before_second s c.args.now (node_size + length c.args.key.now)) (before c.args.self.now c.expire_stale-stale.new.self c.admit.new.self c.expire_forced-forced.new.self s c.args.key.now c.args.now c.expire_stale-stale.result c.expire_forced-forced.result l missing (λ t laid. (c.expire_stale-stale.ensures.laid t laid, c.expire_stale-stale.ensures.left t laid)) c.in_default.ensures.laid (λ t laid. (c.expire_forced-forced.ensures.laid t laid, c.expire_forced-forced.ensures.left t laid))).0 (two.missing missing) in
    omega (arith, fewer, stale, refused, forced, last)
