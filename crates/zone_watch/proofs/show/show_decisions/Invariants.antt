use Rattle.std.proofs.Common.{◌≡◌, length, map, take}
use Rattle.zone_watch.specs.Notices.{notices_of}
use Rattle.zone_watch.specs.Watched.{shown}
use Rattle.zone_watch.proofs.show.show_decisions.Given as goal

-- The list is what the notices so far have left.
abbrev pub invariant-loop-line : goal.invariant-loop-line
invariant-loop-line g l =
    map g.W.Watcher.watched l.list.items
    ≡ shown (notices_of (take (length l.yielded) l.lines) (take (length l.yielded) l.decisions)) (map g.W.Watcher.watched l.initial.list.items)
