use Rattle.std.proofs.Common.{map, take, vec_items}
use Rattle.replay_workers.specs.Zones.{AreOpened}
use Rattle.replay_workers.proofs.opening.open_zones.Given as goal

abbrev pub invariant-loop-spec : goal.invariant-loop-spec
invariant-loop-spec g l = AreOpened l.rooms (take l.spec-index l.specs) l.zones.items (map vec_items l.columns.items)
