use Rattle.std.proofs.Common.{◌≡◌, ◌++◌, length, map}
use Rattle.zone_config.specs.Configuration.{upstream_of}
use Rattle.zone_config.proofs.config.upstreams_of.Given as goal

abbrev pub invariant-directives : goal.invariant-directives
invariant-directives l = map (upstream_of l.zones) (map (λ d. d.now) l.directives) ≡ l.upstreams ++ map (upstream_of l.zones) (map (λ d. d.now) l.rest)

abbrev pub decreases-directives : goal.decreases-directives
decreases-directives l = length l.rest
