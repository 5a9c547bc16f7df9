use Rattle.std.proofs.Common.{◌≡◌, map, take}
use Rattle.std.specs.List.{filter}
use Rattle.zone_config.specs.Configuration.{server_of}
use Rattle.config_rules.specs.Rules.{is_primary}
use Rattle.zone_config.proofs.build.primary_servers.Given as goal

abbrev pub invariant-loop-directive : goal.invariant-loop-directive
invariant-loop-directive l = l.servers ≡ map server_of (filter is_primary (take l.directive-index l.block))
