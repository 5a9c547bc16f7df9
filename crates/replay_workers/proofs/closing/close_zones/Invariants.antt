use Rattle.std.proofs.Common.{ℕ, ◌≡◌, ◌<◌, List, length, map, take, vec_items, vec_len}
use Rattle.zone_config.specs.declared.data.ZoneSpec.{ZoneSpec}
use Rattle.replay_workers.specs.Zones.{AreColumns, AreClosed}
use Rattle.replay_workers.proofs.closing.close_zones.Given as goal

abbrev pub invariant-loop-zone : goal.invariant-loop-zone
invariant-loop-zone g l = record {
  zones : l.zones.items ≡ take (vec_len l.zones) l.fn.zones.items;
  columns : l.columns.items ≡ take (vec_len l.zones) l.fn.columns.items;
  within : vec_len l.zones ≡ vec_len l.columns;
  closed : (rooms : List ℕ) (specs : List ZoneSpec) → 0 < length rooms → AreColumns rooms specs l.fn.zones.items (map vec_items l.fn.columns.items) → AreClosed (vec_len l.zones) rooms specs (map vec_items l.fn.columns.items) l.left.items;
}

abbrev pub decreases-loop-zone : goal.decreases-loop-zone
decreases-loop-zone g l = vec_len l.zones
