use Rattle.std.proofs.Common.{◌≡◌, map, take}
use Rattle.std.specs.List.{filter}
use Rattle.zone_config.specs.Configuration.{is_backup_server, server_of}
use Rattle.zone_config.proofs.build.backup_servers.Given as goal

abbrev pub invariant-loop-directive : goal.invariant-loop-directive
invariant-loop-directive l = l.servers ≡ map server_of (filter is_backup_server (take l.directive-index l.block))
