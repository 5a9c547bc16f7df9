use Rattle.std.proofs.Common.{false}
use Rattle.zone_config.proofs.NextPlace.{delay_more}
use Rattle.zone_config.proofs.build.delay_of.Goals as goal

pub loop-word-preserved : goal.loop-word-preserved
loop-word-preserved c =
    let more = delay_more (record { never = false; delay = 0 }) c.args.words.now c.loop-word.word-index c.word-item.result c.loop-word-test.true c.word-item.is in
    let value = c.delay_with-delay.ensures.value in
    let before = c.loop-word.invariant.0 in
    (cc, c.delay_with-delay.ensures.within c.loop-word.invariant.1)
