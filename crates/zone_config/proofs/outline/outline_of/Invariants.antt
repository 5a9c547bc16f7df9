use Rattle.std.proofs.Common.{◌≡◌, ◌++◌, ◌+◌, ◌≤◌, length, map, min}
use Rattle.std.specs.List.{count_by, filter_map}
use Rattle.config_rules.specs.InOrder.{places_of}
use Rattle.config_rules.specs.Views.{place_now}
use Rattle.zone_config.specs.Configuration.{is_passed, passed_among, zone_at}
use Rattle.zone_config.specs.Outline.{if_level, if_upstream}
use Rattle.zone_config.proofs.outline.outline_of.Given as goal

abbrev pub invariant-places : goal.invariant-places
invariant-places l =
    (filter_map zone_at (places_of l.directives) ≡ l.outline.zones ++ filter_map zone_at l.walk)
    × (filter_map if_upstream (places_of l.directives) ≡ map (λ d. d.now) l.outline.upstreams.items ++ filter_map if_upstream l.walk)
    × (filter_map if_level (places_of l.directives) ≡ map place_now l.outline.levels.items ++ filter_map if_level l.walk)
    × (passed_among (places_of l.directives) ≡ min (l.outline.passed + count_by is_passed l.walk) 18446744073709551615)
    × (l.outline.passed ≤ 18446744073709551615)

abbrev pub decreases-places : goal.decreases-places
decreases-places l = length l.walk
