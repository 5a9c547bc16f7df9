use Rattle.std.proofs.Common.{rules}
use Rattle.replay_share.proofs.Served.{opens-more, opens-all}
use Rattle.replay_share.proofs.journals.Journals.open.Goals as goal

pub loop-zone-preserved : goal.loop-zone-preserved
loop-zone-preserved c =
    let more = opens-more c.args.room c.args.zones.now c.loop-zone.zone-index c.zone-item.result c.loop-zone.journals.items c.keep.new.journals.items c.in_ok-open_zone.field-0
    c.loop-zone-test.true c.zone-item.is c.loop-zone.invariant.fresh c.loop-zone.invariant.rest c.in_ok-open_zone.ensures.0 c.in_ok-open_zone.ensures.1 c.in_ok-keep.ensures in
    record { fresh = more.0; rest = more.1 }

pub returns : goal.returns
returns c = opens-all c.args.room c.args.zones.now c.loop-zone.zone-index c.loop-zone.journals.items c.loop-zone-test.false c.loop-zone.auto.zone-index-end c.loop-zone.invariant.fresh c.loop-zone.invariant.rest
