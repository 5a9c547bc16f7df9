use Rattle.std.proofs.Common.{map}
use Rattle.zone_watch.proofs.Showing.{shown-none, shown-more}
use Rattle.zone_watch.proofs.show.show_all.Goals as goal

pub loop-notice-init : goal.loop-notice-init
loop-notice-init g c = shown-none c.args.notices.now (map g.W.Watcher.watched c.args.list.now.items)

pub loop-notice-preserved : goal.loop-notice-preserved
loop-notice-preserved g c = shown-more c.args.notices.now c.loop-notice.notice-index _ _ _ _ c.loop-notice-test.true c.loop-notice.invariant c.show_notice.ensures
