use Rattle.std.proofs.Common.{◌≡◌, ◌++◌, length, map}
use Rattle.std.specs.List.{filter_map}
use Rattle.config_rules.specs.Views.{place_now}
use Rattle.zone_config.specs.Configuration.{location_at}
use Rattle.zone_config.proofs.config.locations_of.Given as goal

abbrev pub invariant-places : goal.invariant-places
invariant-places l = filter_map (location_at l.zones l.upstreams) (map place_now l.places) ≡ l.levels ++ filter_map (location_at l.zones l.upstreams) (map place_now l.rest)

abbrev pub decreases-places : goal.decreases-places
decreases-places l = length l.rest
