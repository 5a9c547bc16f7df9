use Rattle.std.proofs.Common.{◌≡◌, codes, map, take}
use Rattle.std.specs.List.{filter}
use Rattle.config_rules.specs.Words.{is_called}
use Rattle.zone_config.specs.Configuration.{req_limit}
use Rattle.zone_config.proofs.build.req_limits.Given as goal

abbrev pub invariant-loop-directive : goal.invariant-loop-directive
invariant-loop-directive l = l.limits ≡ map (req_limit l.zones) (filter (is_called (codes "limit_req")) (take l.directive-index l.block))
