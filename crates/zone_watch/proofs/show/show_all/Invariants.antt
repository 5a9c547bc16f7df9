use Rattle.std.proofs.Common.{◌≡◌, map, take}
use Rattle.zone_watch.specs.Watched.{shown}
use Rattle.zone_watch.proofs.show.show_all.Given as goal

-- The list is what the notices so far have left.
abbrev pub invariant-loop-notice : goal.invariant-loop-notice
invariant-loop-notice g l =
    map g.W.Watcher.watched l.list.items
    ≡ shown (take l.notice-index l.notices) (map g.W.Watcher.watched l.initial.list.items)
