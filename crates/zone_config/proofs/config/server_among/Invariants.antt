use Rattle.std.proofs.Common.{◌≡◌, length, map}
use Rattle.config_rules.specs.Views.{place_now}
use Rattle.zone_config.specs.Configuration.{server_among}
use Rattle.zone_config.proofs.config.server_among.Given as goal

abbrev pub invariant-places : goal.invariant-places
invariant-places l = server_among l.zones l.upstreams (map place_now l.places) ≡ server_among l.zones l.upstreams (map place_now l.rest)

abbrev pub decreases-places : goal.decreases-places
decreases-places l = length l.rest
