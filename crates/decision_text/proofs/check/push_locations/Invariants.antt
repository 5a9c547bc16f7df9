use Rattle.std.proofs.Common.{◌≡◌, ◌++◌, take}
use Rattle.std.specs.List.{flat_map}
use Rattle.decision_text.specs.CheckText.{location_line}
use Rattle.decision_text.proofs.check.push_locations.Given as goal

abbrev pub invariant-loop-location : goal.invariant-loop-location
invariant-loop-location l = l.text.items ≡ l.initial.text.items ++ flat_map location_line (take l.location-index l.locations)
