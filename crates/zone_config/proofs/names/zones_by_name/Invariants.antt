use Rattle.std.proofs.Common.{◌≤◌, length, drop}
use Rattle.zone_config.specs.Names.{FindsZones}
use Rattle.zone_config.proofs.names.zones_by_name.Given as goal

abbrev pub invariant-upstreams : goal.invariant-upstreams
invariant-upstreams l = record {
  within : l.at ≤ length l.upstreams;
  found : FindsZones l.zones (drop l.at l.upstreams);
}

abbrev pub decreases-upstreams : goal.decreases-upstreams
decreases-upstreams l = l.at
