use Rattle.zone_watch.proofs.Counts.{raise-next}
use Rattle.zone_watch.proofs.refused.raise.Goals as goal

pub loop-zone-preserved : goal.loop-zone-preserved
loop-zone-preserved c = raise-next c.args.decision.now c.loop-zone.zone c.args.counts.now c.counted_for.result c.loop-zone.counts c.loop-zone-test.true c.loop-zone.invariant c.counted_for.ensures
