use Rattle.std.proofs.Common.{◌≡◌, codes, map, take}
use Rattle.std.specs.List.{filter}
use Rattle.config_rules.specs.Words.{is_called}
use Rattle.zone_config.specs.Configuration.{conn_limit}
use Rattle.zone_config.proofs.build.conn_limits.Given as goal

abbrev pub invariant-loop-directive : goal.invariant-loop-directive
invariant-loop-directive l = l.limits ≡ map (conn_limit l.zones) (filter (is_called (codes "limit_conn")) (take l.directive-index l.block))
