use Rattle.std.proofs.Common.{◌≡◌, length}
use Rattle.config_rules.specs.Walking.{places_left}
use Rattle.config_rules.proofs.walk.next_spot.Given as goal

abbrev pub invariant-frames : goal.invariant-frames
invariant-frames l = places_left l.stack.items ≡ places_left l.initial.stack.items

abbrev pub decreases-frames : goal.decreases-frames
decreases-frames l = length l.stack.items
