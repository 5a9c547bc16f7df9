use Rattle.std.proofs.Common.{◌≡◌, ◌≤◌, map, take, drop}
use Rattle.std.specs.List.{filter_map}
use Rattle.zone_watch.specs.Watched.{left_after}
use Rattle.zone_watch.proofs.show.show_each.Given as goal

-- The watchers before the place that stayed come first, and those from it on are as they were.
abbrev pub invariant-loop-i : goal.invariant-loop-i
invariant-loop-i g l = record {
  within : l.kept ≤ l.i;
  kept : map g.W.Watcher.watched (take l.kept l.list) ≡ filter_map (left_after l.notice) (map g.W.Watcher.watched (take l.i l.initial.list));
  rest : drop l.i l.list ≡ drop l.i l.initial.list;
}
