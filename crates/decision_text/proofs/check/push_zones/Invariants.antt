use Rattle.std.proofs.Common.{◌≡◌, ◌++◌, take}
use Rattle.std.specs.List.{flat_map}
use Rattle.decision_text.specs.CheckText.{zone_line}
use Rattle.decision_text.proofs.check.push_zones.Given as goal

abbrev pub invariant-loop-zone : goal.invariant-loop-zone
invariant-loop-zone l = l.text.items ≡ l.initial.text.items ++ flat_map zone_line (take l.zone-index l.zones)
