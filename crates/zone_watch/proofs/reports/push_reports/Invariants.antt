use Rattle.std.proofs.Common.{◌≡◌, ◌++◌, map, take}
use Rattle.zone_watch.specs.Watched.{reports_of}
use Rattle.zone_watch.proofs.reports.push_reports.Given as goal

abbrev pub invariant-loop-watcher : goal.invariant-loop-watcher
invariant-loop-watcher g l = l.text.items ≡ l.initial.text.items ++ reports_of (map g.W.Watcher.watched (take l.watcher-index l.list))
