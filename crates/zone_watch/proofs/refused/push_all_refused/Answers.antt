use Rattle.zone_watch.proofs.Texts.{refused-grow}
use Rattle.zone_watch.proofs.refused.push_all_refused.Goals as goal

pub loop-zone-preserved : goal.loop-zone-preserved
loop-zone-preserved c = refused-grow c.args.text.now.items c.loop-zone.text.items c.push_refused.new.text.items c.args.counts.now c.loop-zone.zone c.loop-zone-test.true c.loop-zone.invariant c.in_ok-push_refused.ensures
